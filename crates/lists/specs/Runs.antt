-- A list whose keys never fall, run by run: the elements of one key stand together, and where a test holds of every element the runs make up the
-- whole list.
use Rattle.std.specs.Prelude.{ℕ, suc, ◌+◌, ◌≤◌, ◌<◌, List, [], ◌∷◌, Bool, true, false, ◌&&◌, cond, ◌≡◌, refl, leb, eqb, length, get_or, drop}
use Rattle.std.proofs.Math.Bool.{and-true}
use Rattle.std.proofs.Common.{sym, ap, ◌∙◌, arith, eqb-true, le-leb, ne_eqb, length-drop, drop_of_length-le}
use Rattle.std.proofs.lemmas.Bool.{eqb-false, lt-leb}
use Rattle.lists.specs.Lists.{all, count_if, rises_from}
use Rattle.lists.specs.Tests.{and_both, and-right-false}
use Rattle.lists.specs.Members.{all-intro}
use Rattle.lists.specs.Walk.{drop-step}
use Rattle.lists.specs.Rising.{Order, before, equal, after, order, keyed, none-keyed}

module _ {A : Type 0} where
  -- what is left of a list behind the elements at its front of which p holds
  abbrev pub skip : (A → Bool) → List A → List A
  skip p [] = []
  skip p (x ∷ xs) = cond (p x) (skip p xs) (x ∷ xs)

  skip-same : (p q : A → Bool) → ((x : A) → p x ≡ q x) → (xs : List A) → skip p xs ≡ skip q xs
  skip-same p q e [] = refl
  skip-same p q e (x ∷ xs) = rw (e x, skip-same p q e xs)

  -- place i is behind the elements from place `from` on of which p holds
  pub record RunEnd (p : A → Bool) (xs : List A) (from i : ℕ) : Type 0 where
    pub onward : from ≤ i
    pub within : i ≤ length xs
    pub rest : drop i xs ≡ skip p (drop from xs)

  pub run-same : (p q : A → Bool) {xs : List A} {from i : ℕ} → ((x : A) → p x ≡ q x) → RunEnd p xs from i → RunEnd q xs from i
  run-same p q {xs} {from} e r = record { onward = r.onward; within = r.within; rest = r.rest ∙ skip-same p q e (drop from xs) }

  -- ---- a loop that finds the place

  -- its invariant: p holds of the elements up to place i
  pub record Skipping (p : A → Bool) (xs : List A) (from i : ℕ) : Type 0 where
    pub onward : from ≤ i
    pub within : i ≤ length xs
    pub ahead : skip p (drop i xs) ≡ skip p (drop from xs)

  pub skipping-start : (p : A → Bool) (xs : List A) (from : ℕ) → from ≤ length xs → Skipping p xs from from
  skipping-start p xs from l = record { onward = omega arith; within = l; ahead = refl }

  module _ {p : A → Bool} {xs : List A} {from i : ℕ} (s : Skipping p xs from i) where
    module _ (d : A) (l : i < length xs) where
      turn : cond (p (get_or xs i d)) (skip p (drop (i + 1) xs)) (get_or xs i d ∷ drop (i + 1) xs) ≡ skip p (drop from xs)
      turn = ap (skip p) (sym (drop-step xs i d l)) ∙ s.ahead

      pub skipping-next : p (get_or xs i d) ≡ true → Skipping p xs from (i + 1)
      skipping-next e = record { onward = omega (arith, s.onward); within = omega arith; ahead = rw e at turn }

      pub skipping-here : p (get_or xs i d) ≡ false → RunEnd p xs from i
      skipping-here e = record { onward = s.onward; within = s.within; rest = drop-step xs i d l ∙ (rw e at turn) }

    pub skipping-done : length xs ≤ i → RunEnd p xs from i
    skipping-done l =
        let none = drop_of_length-le xs l in
        record { onward = s.onward; within = s.within; rest = none ∙ (rw none at s.ahead) }

dead : (b c : Bool) → b && false ≡ c && false
dead b c = and-right-false b refl ∙ sym (and-right-false c refl)

-- a number that is not m is at least m where it is more
at_least : (m k : ℕ) → eqb k m ≡ false → leb m k ≡ leb (suc m) k
at_least m k e = go (order m k)
  where
    go : Order m k → leb m k ≡ leb (suc m) k
    go (before l) = rw (le-leb m k (omega arith), le-leb (suc m) k (omega arith))
    go (equal q) = absurd (eqb-false k m e (sym q))
    go (after l) = rw (lt-leb m k (omega arith), lt-leb (suc m) k (omega arith))

module _ {A : Type 0} (key : A → ℕ) (a : A → Bool) where
  -- keys never fall from m on, and a holds of every element
  abbrev pub goes : ℕ → List A → Bool
  goes m xs = rises_from m key xs && all a xs

  -- x is in the run of key m
  abbrev pub in_run : ℕ → A → Bool
  in_run m x = keyed key m x && a x

  onward : (m : ℕ) (xs : List A) → goes m xs ≡ goes (suc m) (skip (in_run m) xs)
  onward m [] = refl
  onward m (x ∷ xs) = go (keyed key m x) (a x) refl refl (onward m xs)
    where
      go : (k b : Bool) → keyed key m x ≡ k → a x ≡ b → goes m xs ≡ goes (suc m) (skip (in_run m) xs)
          → goes m (x ∷ xs) ≡ goes (suc m) (skip (in_run m) (x ∷ xs))
      go true true e f ih = rw (e, f, eqb-true (key x) m e, le-leb m m (omega arith)) ih
      go true false e f ih = rw (e, f, f) (dead (leb m (key x) && rises_from (key x) key xs) (leb (suc m) (key x) && rises_from (key x) key xs))
      go false b e f ih = rw (e, at_least m (key x) e)

  counted : (m : ℕ) (xs : List A) → count_if (keyed key m) xs + length (skip (in_run m) xs) ≡ length xs + count_if (keyed key m) (skip (in_run m) xs)
  counted m [] = refl
  counted m (x ∷ xs) = go (in_run m x) refl (counted m xs)
    where
      go :
          (b : Bool) → in_run m x ≡ b → count_if (keyed key m) xs + length (skip (in_run m) xs) ≡ length xs + count_if (keyed key m) (skip (in_run m) xs)
          → count_if (keyed key m) (x ∷ xs) + length (skip (in_run m) (x ∷ xs)) ≡ length (x ∷ xs) + count_if (keyed key m) (skip (in_run m) (x ∷ xs))
      go true e ih = rw (e, (and_both (keyed key m x) (a x) e).0) (omega arith)
      go false e ih = rw e (omega arith)

  others : (m r : ℕ) → (m ≡ r → ⊥) → (xs : List A) → count_if (keyed key r) xs ≡ count_if (keyed key r) (skip (in_run m) xs)
  others m r n [] = refl
  others m r n (x ∷ xs) = go (in_run m x) refl (others m r n xs)
    where
      go :
          (b : Bool) → in_run m x ≡ b → count_if (keyed key r) xs ≡ count_if (keyed key r) (skip (in_run m) xs)
          → count_if (keyed key r) (x ∷ xs) ≡ count_if (keyed key r) (skip (in_run m) (x ∷ xs))
      go true e ih =
          let k = eqb-true (key x) m (and_both (keyed key m x) (a x) e).0 in
          rw (e, ne_eqb (key x) r (λ q. n (sym k ∙ q))) (omega arith)
      go false e ih = rw e

  module _ (m : ℕ) {xs : List A} {from i : ℕ} (r : RunEnd (in_run m) xs from i) where
    pub run-next : goes m (drop from xs) ≡ goes (suc m) (drop i xs)
    run-next = onward m (drop from xs) ∙ ap (goes (suc m)) (sym r.rest)

    -- the run has every element of its key ..
    pub run-count : goes m (drop from xs) ≡ true → from + count_if (keyed key m) (drop from xs) ≡ i
    run-count h =
        let (up, t) = and_both (rises_from (suc m) key (drop i xs)) (all a (drop i xs)) (sym run-next ∙ h) in
        let c = rw (← r.rest) at (counted m (drop from xs)) in
        omega (arith, c, none-keyed key (suc m) (drop i xs) up m (omega arith), length-drop from xs, length-drop i xs)

    -- .. and none of another
    pub run-other : (k : ℕ) → (m ≡ k → ⊥) → count_if (keyed key k) (drop from xs) ≡ count_if (keyed key k) (drop i xs)
    run-other k n = others m k n (drop from xs) ∙ ap (count_if (keyed key k)) (sym r.rest)

-- a run of keys alone, where they never fall
pub keys-count :
    {A : Type 0} (key : A → ℕ) (m : ℕ) {xs : List A} {from i : ℕ}
    → RunEnd (keyed key m) xs from i
    → rises_from m key (drop from xs) ≡ true
    → from + count_if (keyed key m) (drop from xs) ≡ i
keys-count {A} key m {xs} {from} r up =
    run-count
    key
    (λ x. true)
    m
    (run-same (keyed key m) (λ x. keyed key m x && true) (λ x. sym (and-true (keyed key m x))) r)
    (rw (up, all-intro (λ (x : A). true) (drop from xs) (λ x m. refl)))
