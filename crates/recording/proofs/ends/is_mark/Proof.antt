use borrow.Author.Rules.{rules}
use Rattle.recording.proofs.ends.is_mark.Statement.{statement}
use Rattle.recording.proofs.ends.is_mark.Tie as tie

pub is_mark_spec : {M : Type 1} → statement M
is_mark_spec = tie.close (tie.spec (λ c κs. search rules) (λ c. rw c.kind_of.ensures))
