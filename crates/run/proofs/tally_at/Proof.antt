-- `tally_at` meets its contract.
use borrow.Author.Rules.{rules}
use Rattle.run.proofs.tally_at.Statement.{statement}
use Rattle.run.proofs.tally_at.Tie as tie

returns : tie.Need-returns
returns c = rw (c.tally_move.ensures, c.kind_of-kind.ensures, c.head_at.ensures)

pub tally_at_spec : {M : Type 1} → statement M
tally_at_spec = tie.close (tie.spec (λ c κs. search rules) (λ c κs. search rules) (λ c κs. search rules) returns)
