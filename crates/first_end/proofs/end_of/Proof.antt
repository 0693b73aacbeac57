-- `end_of` meets its contract: the head is that of the end.
use borrow.Author.Rules.{rules}
use Rattle.first_end.proofs.end_of.Statement.{statement}
use Rattle.first_end.proofs.end_of.Tie as tie

pub end_of_spec : {M : Type 1} → statement M
end_of_spec = tie.close (tie.spec (λ c κs. search rules) (λ c. rw c.head_of.ensures))
