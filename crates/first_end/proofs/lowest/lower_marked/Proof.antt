-- `lower_marked` meets its contract: the code is the definition.
use borrow.Author.Rules.{rules}
use Rattle.first_end.proofs.lowest.lower_marked.Statement.{statement}
use Rattle.first_end.proofs.lowest.lower_marked.Tie as tie

pub lower_marked_spec : {M : Type 1} → statement M
lower_marked_spec =
    tie.close
    (tie.spec
    (λ c κs. search rules) (λ c κs. search rules) (λ c. search rules) (λ c κs. search rules)
    (λ c origin. rw (c.lift.ensures.0, c.kind_of-kind.ensures) at c.lower.ensures))
