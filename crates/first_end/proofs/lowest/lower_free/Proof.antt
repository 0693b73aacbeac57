-- `lower_free` meets its contract: the code is the definition.
use borrow.Author.Rules.{rules}
use Rattle.first_end.proofs.lowest.lower_free.Statement.{statement}
use Rattle.first_end.proofs.lowest.lower_free.Tie as tie

pub lower_free_spec : {M : Type 1} → statement M
lower_free_spec =
    tie.close
    (tie.spec
    (λ c κs. search rules) (λ c κs. search rules) (λ c. search rules) (λ c κs. search rules)
    (λ c item origin. rw (c.lift.ensures.0, c.has-there.ensures) at c.lower.ensures))
