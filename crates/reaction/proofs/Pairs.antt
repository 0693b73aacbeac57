-- Four numbers, of which the first k count.
use Prim.Native.Nat.{ℕ, zero, suc, min, ◌≤◌, ◌<◌}
use mathlib.Core.Path.{◌≡◌, refl, sym, ap, ◌∙◌}
use mathlib.Core.Bool.{Bool, true, false, ◌&&◌, ◌||◌, not, cond}
use mathlib.Core.List.{List, [], ◌∷◌}
use native.Mathlib.Omega.{arith}
use lib.Dec.{eqb, ltb}
use lib.ListN.{length, get_or, take}
use Rattle.lists.specs.Lists.{is_in, distinct, least}
use Rattle.lists.specs.Numbers.{least-same}
use Rattle.lists.specs.Choices.{by_bool}
use Rattle.reaction.specs.Four.{four-places}

-- ---- whether they differ, as the code compares them

two : (x : Bool) → not x ≡ not (x || false) && (true && true)
two true = refl
two false = refl

three : (x y z : Bool) → not x && not y && not z ≡ not (x || (y || false)) && (not (z || false) && (true && true))
three true y z = refl
three false true z = refl
three false false true = refl
three false false false = refl

four : (x y z u v w : Bool) → not x && not y && not z && not u && not v && not w
    ≡ not (x || (y || (u || false))) && (not (z || (v || false)) && (not (w || false) && (true && true)))
four true y z u v w = refl
four false true z u v w = refl
four false false true true v w = refl
four false false true false true w = refl
four false false true false false w = refl
four false false false true v w = refl
four false false false false true w = refl
four false false false false false true = refl
four false false false false false false = refl

pub one-differs : (f : List ℕ) (k : ℕ) → k < 2 → true ≡ distinct (take k f)
one-differs f zero h = refl
one-differs [] (suc k) h = refl
one-differs (a ∷ f) (suc zero) h = refl
one-differs (a ∷ f) (suc (suc k)) h = absurd (omega arith)

module _ (f : List ℕ) (l : length f ≡ 4) (k : ℕ) where
  -- are two of them the same
  abbrev same : ℕ → ℕ → Bool
  same i j = eqb (get_or f i 0) (get_or f j 0)

  first : (n : ℕ) → k ≡ n → distinct (take k f) ≡ distinct (take n (get_or f 0 0 ∷ get_or f 1 0 ∷ get_or f 2 0 ∷ get_or f 3 0 ∷ []))
  first n e = ap (λ (j : ℕ). distinct (take j f)) e ∙ ap (λ g. distinct (take n g)) (four-places f l)

  pub two-differ : k ≡ 2 → not (same 0 1) ≡ distinct (take k f)
  two-differ e = two (same 0 1) ∙ sym (first 2 e)

  pub three-differ : k ≡ 3 → not (same 0 1) && not (same 0 2) && not (same 1 2) ≡ distinct (take k f)
  three-differ e = three (same 0 1) (same 0 2) (same 1 2) ∙ sym (first 3 e)

  pub four-differ : k ≡ 4
      → not (same 0 1) && not (same 0 2) && not (same 1 2) && not (same 0 3) && not (same 1 3) && not (same 2 3) ≡ distinct (take k f)
  four-differ e = four (same 0 1) (same 0 2) (same 1 2) (same 0 3) (same 1 3) (same 2 3) ∙ sym (first 4 e)

-- ---- repeated, and the smallest

pub four-repeated : (f : List ℕ) (k : ℕ) → length f ≡ 4 → 1 ≤ k → k ≤ 4 → (x : ℕ)
    → is_in x (get_or f 0 0 ∷ cond (ltb 1 k) (get_or f 1 0) (get_or f 0 0) ∷ cond (ltb 2 k) (get_or f 2 0) (get_or f 0 0) ∷ cond (ltb 3 k) (get_or f 3 0)
    (get_or f 0 0) ∷ []) ≡ is_in x (take k f)
four-repeated f k l h u x = go k h u ∙ sym (ap (λ g. is_in x (take k g)) (four-places f l))
  where
    go : (k : ℕ) → 1 ≤ k → k ≤ 4
        → is_in x (get_or f 0 0 ∷ cond (ltb 1 k) (get_or f 1 0) (get_or f 0 0) ∷ cond (ltb 2 k) (get_or f 2 0) (get_or f 0 0) ∷ cond (ltb 3 k) (get_or f 3 0)
        (get_or f 0 0) ∷ [])
        ≡ is_in x (take k (get_or f 0 0 ∷ get_or f 1 0 ∷ get_or f 2 0 ∷ get_or f 3 0 ∷ []))
    go zero h u = absurd (omega arith)
    go (suc zero) h u = by_bool (eqb x (get_or f 0 0)) (λ e. rw e) (λ e. rw e)
    go (suc (suc zero)) h u = by_bool (eqb x (get_or f 0 0)) (λ e. rw e) (λ e. rw e)
    go (suc (suc (suc zero))) h u = by_bool (eqb x (get_or f 0 0)) (λ e. rw e) (λ e. rw e)
    go (suc (suc (suc (suc zero)))) h u = refl
    go (suc (suc (suc (suc (suc k))))) h u = absurd (omega arith)

-- the smallest of four, which are the same numbers as some others
pub four-least : (f : List ℕ) → length f ≡ 4 → (ns : List ℕ) → ((x : ℕ) → is_in x f ≡ is_in x ns)
    → min (min (get_or f 0 0) (get_or f 1 0)) (min (get_or f 2 0) (get_or f 3 0)) ≡ least ns
four-least f l ns same =
    let e = four-places f l in
    let few : min (min (get_or f 0 0) (get_or f 1 0)) (min (get_or f 2 0) (get_or f 3 0))
    ≡ least (get_or f 0 0 ∷ get_or f 1 0 ∷ get_or f 2 0 ∷ get_or f 3 0 ∷ []) =
    omega arith in
    few ∙ sym (least-same (get_or f 0 0) (get_or f 1 0 ∷ get_or f 2 0 ∷ get_or f 3 0 ∷ []) ns (λ x. sym (ap (is_in x) e) ∙ same x))
