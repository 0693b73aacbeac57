-- What a loop over a slice uses: what is left from i on, one element further; and the ends of loops that test or fill.
use Rattle.std.specs.Prelude.{ℕ, zero, suc, ◌+◌, ◌≤◌, ◌<◌, List, [], ◌∷◌, map, Bool, true, false, ◌≡◌, refl, length, get_or, take, drop, set}
use Rattle.std.proofs.lemmas.List.{map-append}
use Rattle.std.proofs.lemmas.Bool.{false≢true}
use Rattle.std.proofs.Common.{sym, ap, ◌∙◌, ⊎_elim, le_of_suc-le-suc, not-suc-le-zero, eq-or-lt_of_le, add-one, arith, drop_of_length-le, drop-cons, take-suc, take-suc-set}
use Rattle.lists.specs.Lists.{all_below}
use Rattle.lists.specs.Tests.{false-and, and-right-false}

module _ {A : Type 0} where
  pub drop-step : (xs : List A) (i : ℕ) (d : A) → i < length xs → drop i xs ≡ get_or xs i d ∷ drop (i + 1) xs
  drop-step xs i d h = rw (add-one, drop-cons xs i d h)

  -- four elements in a row
  pub take-four : (l : List A) (at : ℕ) (d : A) → at + 4 ≤ length l
      → get_or l at d ∷ get_or l (at + 1) d ∷ get_or l (at + 2) d ∷ get_or l (at + 3) d ∷ [] ≡ take 4 (drop at l)
  take-four l at d h =
      let two : at + 1 + 1 ≡ at + 2 = omega arith in
      let three : at + 2 + 1 ≡ at + 3 = omega arith in
      let e = drop-step l at d (omega arith) in
      let f = drop-step l (at + 1) d (omega arith) in
      let g = drop-step l (at + 2) d (omega arith) in
      let i = drop-step l (at + 3) d (omega arith) in
      rw (e, f, two, g, three, i)

  -- a function of what is left, at i
  pub step : {B : Type 0} (f : List A → B) (xs : List A) (i : ℕ) (d : A) → i < length xs → f (drop i xs) ≡ f (get_or xs i d ∷ drop (i + 1) xs)
  step f xs i d h = ap f (drop-step xs i d h)

  pub done : {B : Type 0} (f : List A → B) (xs : List A) (i : ℕ) → length xs ≤ i → f (drop i xs) ≡ f []
  done f xs i h = ap f (drop_of_length-le xs h)

-- ---- a loop that tests every number below n
module _ (p : ℕ → Bool) where
  pub below_next : (r : ℕ) → all_below r p ≡ true → p r ≡ true → all_below (r + 1) p ≡ true
  below_next r h e = rw (add-one r, h, e)

  pub below_false : (n r : ℕ) → r < n → p r ≡ false → all_below n p ≡ false
  below_false zero r h e = absurd (not-suc-le-zero h)
  below_false (suc n) r h e =
      ⊎_elim
      (λ q. and-right-false (all_below n p) (ap p (sym q) ∙ e))
      (λ l. false-and (p n) (below_false n r l e))
      (eq-or-lt_of_le (le_of_suc-le-suc h))

  pub below_each : (n r : ℕ) → all_below n p ≡ true → r < n → p r ≡ true
  below_each n r h l = go (p r) refl
    where
      go : (b : Bool) → p r ≡ b → p r ≡ true
      go true e = e
      go false e = absurd (false≢true (sym (below_false n r l e) ∙ h))

  pub below-of-each : (n : ℕ) → ((r : ℕ) → r < n → p r ≡ true) → all_below n p ≡ true
  below-of-each zero f = refl
  below-of-each (suc n) f = rw (below-of-each n (λ r l. f r (omega arith)), f n (omega arith))

pub below-same : (p q : ℕ → Bool) (n : ℕ) → ((r : ℕ) → r < n → p r ≡ q r) → all_below n p ≡ all_below n q
below-same p q zero f = refl
below-same p q (suc n) f = rw (below-same p q n (λ r l. f r (omega arith)), f n (omega arith))

-- ---- a loop that fills a list with f of another's elements, from the front
module _ {A B : Type 0} (f : A → B) (xs : List A) (ys : List B) (i : ℕ) where
  pub fill_more : (d : A) → i < length xs → i < length ys → take i ys ≡ map f (take i xs)
      → take (i + 1) (set ys i (f (get_or xs i d))) ≡ map f (take (i + 1) xs)
  fill_more d hx hy e = rw (add-one i, take-suc-set ys i (f (get_or xs i d)) hy, take-suc xs i d hx, map-append, e)
