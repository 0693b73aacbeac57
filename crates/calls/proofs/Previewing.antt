-- The preview of a move: its call case by case.
use Prim.Native.Nat.{ℕ}
use mathlib.Core.List.{List, [], ◌∷◌}
use mathlib.Core.Path.{◌≡◌, ap, ◌∙◌}
use lib.ListN.{length, get_or}
use Rattle.semantics.specs.Table.{table_of}
use Rattle.semantics.specs.State.{state_of}
use Rattle.semantics.specs.Preview.{previewed}
use Rattle.semantics.specs.Answers.{line_ceiling, state_verdict, preview_result, preview_answer, preview_move}
use Rattle.semantics.specs.declared.Refusal.{Refusal}
use Rattle.semantics.specs.declared.Refusal.TheVariants.{MoveForm}
use Rattle.semantics.specs.declared.Verdict.TheVariants.{Allowed, Denied}
use Rattle.semantics.specs.declared.Previewed.{Previewed}
use Rattle.semantics.specs.declared.Previewed.TheVariants.{Rejected}
use Rattle.preview.specs.Asked.{preview-malformed}
use Rattle.calls.proofs.Moving.{five, form-unsized}

module _ (t s m : List ℕ) where
  -- 1 to 4
  pub preview-denied : {q : Refusal} → state_verdict t s ≡ Denied q → preview_answer (Rejected q) ≡ preview_move t s m
  unfolding preview_move preview_result
  preview-denied e = rw e

  module _ (ok : state_verdict t s ≡ Allowed) where
    preview-done : {p : Previewed} → p ≡ previewed line_ceiling (table_of t) (state_of s) m → preview_answer p ≡ preview_move t s m
    unfolding preview_move preview_result
    preview-done e = rw (ok, e)

    -- 5, of another length
    pub preview-unsized : (length m ≡ 5 → ⊥) → preview_answer (Rejected MoveForm) ≡ preview_move t s m
    preview-unsized h = preview-done (preview-malformed line_ceiling (table_of t) (state_of s) m (form-unsized t m h))

    pub preview-made : length m ≡ 5 → {p : Previewed}
        → p ≡ previewed line_ceiling (table_of t) (state_of s) (get_or m 0 0 ∷ get_or m 1 0 ∷ get_or m 2 0 ∷ get_or m 3 0 ∷ get_or m 4 0 ∷ [])
        → preview_answer p ≡ preview_move t s m
    preview-made long e = preview-done (e ∙ ap (previewed line_ceiling (table_of t) (state_of s)) (five m long))
