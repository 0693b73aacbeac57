-- `note_if_end` meets its contract.
use mathlib.Core.Path.{sym, ◌∙◌}
use native.Mathlib.Omega.{arith}
use borrow.Author.Rules.{rules}
use borrow.Author.Tests.{eq-eqb, ne_eqb, lt-ltb, le-ltb}
use Rattle.recording.proofs.Marking.{nothing-noted}
use Rattle.recording.proofs.ends.note_if_end.Statement.{statement}
use Rattle.recording.proofs.ends.note_if_end.Tie as tie

pub note_if_end_spec : {M : Type 1} → statement M
note_if_end_spec =
    tie.close
    (tie.spec
    (λ c κs. search rules)
    (λ c. rw (eq-eqb _ _ (sym c.kind_of.ensures ∙ c.if-kind_of-eq-REACT.true)) (nothing-noted _ c.requires.2))
    (λ c κs. search rules)
    (λ c.
    rw (ne_eqb _ _ (λ e. c.if-kind_of-eq-REACT.false (c.kind_of.ensures ∙ e)), lt-ltb _ _ (rw c.number_of.ensures at c.if-number_of-gt-MAX_ID.true))
    (nothing-noted _ c.requires.2))
    (λ c κs. omega (arith, c.number_of.ensures, c.if-number_of-gt-MAX_ID.false))
    (λ c. search rules)
    (λ c κs. (c.requires.0, c.requires.2))
    (λ c.
    rw (
      ne_eqb _ _ (λ e. c.if-kind_of-eq-REACT.false (c.kind_of.ensures ∙ e)),
      le-ltb _ _ (rw c.number_of.ensures at c.if-number_of-gt-MAX_ID.false),
    )
    (rw c.id_of.ensures at c.note_ends.ensures)))
