-- The beginning of a list, and a list written over the beginning of another.
use Rattle.std.specs.Prelude.{ℕ, zero, suc, ◌+◌, ◌-◌, ◌≤◌, ◌<◌, min, List, [], ◌∷◌, ◌≡◌, refl, length, get_or, take, drop, set}
use Rattle.std.proofs.Common.{sym, ap, arith, length-take, length-drop}
use Rattle.std.proofs.Math.Numerals.{unary_clauses}
use Rattle.std.proofs.Math.Seq.{take-nil}
use Rattle.lists.specs.Lists.{over}

module _ {A : Type 0} where
  pub over-next :
      (new old : List A) (n : ℕ) (d : A) → n < length new → n < length old
      → set (over (take n new) old) n (get_or new n d) ≡ over (take (suc n) new) old
  over-next [] old n d h k = absurd (omega arith)
  over-next (x ∷ new) [] n d h k = absurd (omega arith)
  over-next (x ∷ new) (y ∷ old) zero d h k = refl
  over-next (x ∷ new) (y ∷ old) (suc n) d h k = ap (λ (l : List A). x ∷ l) (over-next new old n d (omega arith) (omega arith))

  -- a beginning is as many elements as it has
  pub take-taken : (n : ℕ) (l : List A) → take (length (take n l)) l ≡ take n l
  take-taken zero l = refl
  take-taken (suc n) [] = refl
  take-taken (suc n) (x ∷ l) = ap (λ (r : List A). x ∷ r) (take-taken n l)

  pub drop-take : (m n : ℕ) (l : List A) → drop m (take n l) ≡ take (n - m) (drop m l)
  drop-take zero n l = simp unary_clauses
  drop-take (suc m) zero l = let e : 0 - suc m ≡ 0 = omega arith in rw e
  drop-take (suc m) (suc n) [] = sym (take-nil (suc n - suc m))
  drop-take (suc m) (suc n) (x ∷ l) = simp unary_clauses (drop-take m n l)

  -- a part of n elements from a place on, cut short where the list ends
  module _ (l : List A) (at n : ℕ) (h : at ≤ length l) where
    pub part_end : min (at + n) (length l) ≡ at + length (take n (drop at l))
    part_end = rw (length-take, length-drop) (omega arith)

    pub part_cut : take (min (at + n) (length l) - at) (drop at l) ≡ take n (drop at l)
    part_cut =
        let e : min (at + n) (length l) - at ≡ length (take n (drop at l)) = omega (arith, part_end) in
        rw e (take-taken n (drop at l))
