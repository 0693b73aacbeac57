-- Lists one after another, and tuples of numbers: those that a test keeps are chosen place by place.
use Rattle.std.specs.Prelude.{ℕ, zero, suc, ◌+◌, ◌-◌, ◌≤◌, ◌<◌, ◌≡◌, refl, Bool, true, false, ◌&&◌, List, [], ◌∷◌, ◌++◌, map}
use Rattle.std.proofs.Common.{sym, ap, ◌∙◌, add-zero, add-one, arith}
use Rattle.std.proofs.Math.Nat.{sub-zero}
use Rattle.lists.specs.Lists.{keep, keep_if, up_from, each, tuples}
use Rattle.lists.specs.Parts.{keep_append, keep-map}

module _ {A B : Type 0} where
  pub each_same : (f g : A → List B) → ((x : A) → f x ≡ g x) → (xs : List A) → each f xs ≡ each g xs
  each_same f g h [] = refl
  each_same f g h (x ∷ xs) = rw (h x, each_same f g h xs)

  pub keep-each : (p : B → Bool) (f : A → List B) (xs : List A) → keep p (each f xs) ≡ each (λ x. keep p (f x)) xs
  keep-each p f [] = refl
  keep-each p f (x ∷ xs) = keep_append p (f x) (each f xs) ∙ ap (λ l. keep p (f x) ++ l) (keep-each p f xs)

  -- the elements that give nothing may be left out
  pub each_keep : (b : A → Bool) (f g : A → List B) → ((x : A) → b x ≡ true → f x ≡ g x) → ((x : A) → b x ≡ false → f x ≡ [])
      → (xs : List A) → each f xs ≡ each g (keep b xs)
  each_keep b f g some none [] = refl
  each_keep b f g some none (x ∷ xs) = go (each_keep b f g some none xs) (b x) refl
    where
      go : each f xs ≡ each g (keep b xs) → (c : Bool) → b x ≡ c → f x ++ each f xs ≡ each g (keep_if (b x) x (keep b xs))
      go h true e = rw (some x e, h, e)
      go h false e = rw (none x e, h, e)

-- a test that reads a tuple from the front: `fits` says whether a number may stand next, and `after` what is known behind it
module _ {S : Type 0} (fits : S → ℕ → Bool) (after : S → ℕ → S) where
  abbrev pub reads : S → List ℕ → Bool
  reads s [] = true
  reads s (p ∷ ps) = fits s p && reads (after s p) ps

  abbrev pub chosen : ℕ → S → ℕ → List (List ℕ)
  chosen n s zero = [] ∷ []
  chosen n s (suc k) = each (λ p. map (λ ps. p ∷ ps) (chosen n (after s p) k)) (keep (fits s) (up_from 0 n))

  none_read : (s : S) (p : ℕ) → fits s p ≡ false → (xs : List (List ℕ)) → keep (reads s) (map (λ ps. p ∷ ps) xs) ≡ []
  none_read s p e [] = refl
  none_read s p e (x ∷ xs) = rw (e, none_read s p e xs)

  some_read : (s : S) (p : ℕ) → fits s p ≡ true → (xs : List (List ℕ))
      → keep (reads s) (map (λ ps. p ∷ ps) xs) ≡ map (λ ps. p ∷ ps) (keep (reads (after s p)) xs)
  some_read s p e xs = keep-map (λ ps. p ∷ ps) (reads s) xs ∙ rw e

  pub keep-tuples : (n : ℕ) (s : S) (k : ℕ) → keep (reads s) (tuples n k) ≡ chosen n s k
  keep-tuples n s zero = refl
  keep-tuples n s (suc k) =
      keep-each (reads s) (λ p. map (λ ps. p ∷ ps) (tuples n k)) (up_from 0 n)
      ∙ each_keep (fits s) (λ p. keep (reads s) (map (λ ps. p ∷ ps) (tuples n k))) (λ p. map (λ ps. p ∷ ps) (chosen n (after s p) k))
      (λ p e. some_read s p e (tuples n k) ∙ ap (map (λ ps. p ∷ ps)) (keep-tuples n (after s p) k)) (λ p e. none_read s p e (tuples n k))
      (up_from 0 n)

-- f of the numbers from p on and below n of which q holds: what a loop over them has still before it
module _ {B : Type 0} (f : ℕ → List B) (q : ℕ → Bool) (n : ℕ) where
  abbrev pub each_from : ℕ → List B
  each_from p = each f (keep q (up_from p (n - p)))

  pub from_start : each_from 0 ≡ each f (keep q (up_from 0 n))
  from_start = rw sub-zero

  pub from_end : (p : ℕ) → n ≤ p → each_from p ≡ []
  from_end p h = let e : n - p ≡ 0 = omega arith in rw e

  module _ (p : ℕ) (h : p < n) where
    step : up_from p (n - p) ≡ p ∷ up_from (p + 1) (n - (p + 1))
    step = let e : n - p ≡ suc (n - (p + 1)) = omega arith in rw (e, add-one)

    pub from-pass : q p ≡ false → each_from p ≡ each_from (p + 1)
    from-pass e = rw (step, e)

    pub from-here : q p ≡ true → each_from p ≡ f p ++ each_from (p + 1)
    from-here e = rw (step, e)

  -- several that do not count
  skip-some : (d p : ℕ) → p + d ≤ n → ((j : ℕ) → p ≤ j → j < p + d → q j ≡ false) → each_from p ≡ each_from (p + d)
  skip-some zero p l h = ap each_from (sym (add-zero p))
  skip-some (suc d) p l h =
      let e : p + 1 + d ≡ p + suc d = omega arith in
      from-pass p (omega arith) (h p (omega arith) (omega arith)) ∙ skip-some d (p + 1) (omega arith) (λ j a b. h j (omega arith) (omega arith))
      ∙ ap each_from e

  pub from-skip : (p r : ℕ) → p ≤ r → r ≤ n → ((j : ℕ) → p ≤ j → j < r → q j ≡ false) → each_from p ≡ each_from r
  from-skip p r l u h =
      let e : p + (r - p) ≡ r = omega arith in
      skip-some (r - p) p (omega arith) (λ j a b. h j a (omega arith)) ∙ ap each_from e

-- the same where every number counts
module _ {B : Type 0} (f : ℕ → List B) (n : ℕ) where
  abbrev pub each_up : ℕ → List B
  each_up p = each f (up_from p (n - p))

  pub up_start : each_up 0 ≡ each f (up_from 0 n)
  up_start = rw sub-zero

  pub up-end : (p : ℕ) → n ≤ p → each_up p ≡ []
  up-end p h = let e : n - p ≡ 0 = omega arith in rw e

  pub up-here : (p : ℕ) → p < n → each_up p ≡ f p ++ each_up (p + 1)
  up-here p h = rw (step f (λ _. true) n p h)

pub each-up : {B : Type 0} (f g : ℕ → List B) (i n : ℕ) → ((r : ℕ) → r < i + n → f r ≡ g r) → each f (up_from i n) ≡ each g (up_from i n)
each-up f g i zero h = refl
each-up f g i (suc n) h =
    let r = each-up f g (suc i) n (λ r l. h r (omega arith)) in
    rw (h i (omega arith), r)
