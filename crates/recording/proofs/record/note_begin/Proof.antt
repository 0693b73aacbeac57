use borrow.Author.Rules.{rules}
use native.Mathlib.Omega.{arith}
use borrow.Author.Tests.{eq-eqb, ne_eqb}
use Rattle.recording.proofs.record.note_begin.Statement.{statement}
use Rattle.recording.proofs.record.note_begin.Tie as tie

pub note_begin_spec : {M : Type 1} → statement M
note_begin_spec =
    tie.close
    (tie.spec
    (λ c. (rw (eq-eqb _ _ c.if-next-after.true), rw (eq-eqb _ _ c.if-next-after.true)))
    (λ c. search rules) (λ c. search rules) (λ c κs. ((omega arith, omega arith), omega arith)) (λ c. search rules) (λ c. search rules) (λ c. search rules)
    (λ c. search rules) (λ c. search rules) (λ c. search rules)
    (λ c. (
      rw (ne_eqb _ _ c.if-next-after.false, c.origin_of-mark.ensures),
      rw (ne_eqb _ _ c.if-next-after.false, c.origin_of-mark.ensures),
    )))
