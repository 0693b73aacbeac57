-- `ways_at` puts its two calls together.
use borrow.Author.Rules.{rules}
use Rattle.choices.proofs.ways.ways_at.Statement.{statement}
use Rattle.choices.proofs.ways.ways_at.Tie as tie

returns : tie.Need-returns
returns c = (rw c.less.ensures.0 at c.one_unless.ensures.0, c.one_unless.ensures.1)

pub ways_at_spec : {M : Type 1} → statement M
ways_at_spec = tie.close (tie.spec (λ c κs. search rules) (λ c κs. search rules) returns)
