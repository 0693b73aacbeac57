use borrow.Author.Rules.{rules}
use borrow.Author.Tests.{le-leb, lt-leb}
use Rattle.recording.proofs.record.mark_of.Statement.{statement}
use Rattle.recording.proofs.record.mark_of.Tie as tie

pub mark_of_spec : {M : Type 1} → statement M
mark_of_spec =
    tie.close
    (tie.spec (λ c κs. search rules) (λ c. rw (le-leb _ _ c.if-first-id.true) c.half_at.ensures) (λ c. rw (lt-leb _ _ c.if-first-id.false)))
