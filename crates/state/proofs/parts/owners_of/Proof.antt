-- `owners_of` meets its contract: the part of the words is the column.
use mathlib.Core.Path.{ap, ◌∙◌}
use lib.ListN.{length}
use borrow.Author.Rules.{rules}
use Rattle.wellformed.specs.States.{owners-part}
use Rattle.state.proofs.parts.owners_of.Statement.{statement}
use Rattle.state.proofs.parts.owners_of.Tie as tie

returns : tie.Need-returns
returns c =
    let (n, q) = c.entry_count-n.ensures in
    let e = owners-part c.args.state.now c.entry_count-n.result n in
    record { value = e; size = ap length e ∙ q.owners; sizes = q }

pub owners_of_spec : {M : Type 1} → statement M
owners_of_spec =
    tie.close
    (tie.spec (λ c κs. search rules) (λ c. search rules) (λ c. search rules) (λ c. search rules) (λ c. search rules) returns)
