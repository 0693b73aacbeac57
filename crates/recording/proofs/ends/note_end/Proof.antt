-- `note_end` meets its contract: the maker of the move at place p is p + 1.
use mathlib.Core.Logic.{inl, inr}
use native.Mathlib.Omega.{arith}
use borrow.Author.Rules.{rules}
use Rattle.recording.proofs.Marking.{noted-none, noted_one}
use Rattle.recording.proofs.ends.note_end.Statement.{statement}
use Rattle.recording.proofs.ends.note_end.Tie as tie

pub note_end_spec : {M : Type 1} → statement M
note_end_spec =
    tie.close
    (tie.spec
    (λ c. noted-none _ _ _ c.requires (inl c.if-maker-eq0.true))
    (λ c. noted-none _ _ _ c.requires (inr c.if-maker-gt1024.true))
    (λ c. search rules)
    (λ c. search rules)
    (λ c. search rules)
    (λ c. search rules)
    (λ c. noted_one _ _ _ c.requires (omega (arith, c.if-maker-eq0.false)) (omega (arith, c.if-maker-gt1024.false))))
