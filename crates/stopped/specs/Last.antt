-- The last element of a list, and lists that rise.
use Rattle.std.specs.Prelude.{ℕ, ◌+◌, ◌-◌, ◌≤◌, ◌<◌, Bool, true, false, ◌||◌, List, [], ◌∷◌, ◌++◌, ◌≡◌, refl, leb}
use Rattle.std.proofs.Common.{ap, ◌∙◌, zero-add, arith, leb-true, le-leb}
use Rattle.lists.specs.Lists.{any, keep_if, keep, rises_from}
use Rattle.lists.specs.Choices.{by_bool, and_intro, and_left, and_right}
use Rattle.lists.specs.Tests.{or-right-true, true-or}
use Rattle.lists.specs.Rows.{rows, rows_more}

module _ {A : Type 0} where
  -- the last element, or d where there is none
  abbrev pub last_or : A → List A → A
  last_or d [] = d
  last_or d (x ∷ xs) = last_or x xs

  pub last-append : (d : A) (xs : List A) (y : A) (ys : List A) → last_or d (xs ++ (y ∷ ys)) ≡ last_or y ys
  last-append d [] y ys = refl
  last-append d (x ∷ xs) y ys = last-append x xs y ys

  pub last-rows : (d : A) (f : ℕ → A) (n : ℕ) → 0 < n → last_or d (rows f 0 n) ≡ f (n - 1)
  last-rows d f n l =
      let e : n ≡ n - 1 + 1 = omega arith in
      ap (λ (k : ℕ). last_or d (rows f 0 k)) e
      ∙ ap (last_or d) (rows_more f 0 (n - 1)) ∙ last-append d (rows f 0 (n - 1)) (f (0 + (n - 1))) [] ∙ ap f (zero-add (n - 1))

  last_found : (p : A → Bool) (d : A) (xs : List A) → p (last_or d xs) ≡ true → p d || any p xs ≡ true
  last_found p d [] h = true-or false h
  last_found p d (x ∷ xs) h = or-right-true (p d) (last_found p x xs h)

  -- what the last element has, some element has
  pub last-any : (p : A → Bool) (d : A) (xs : List A) → p d ≡ false → any p xs ≡ p (last_or d xs) || any p xs
  last-any p d xs n = by_bool (p (last_or d xs)) (λ h. rw h (rw n at (last_found p d xs h))) (λ h. rw h)

module _ {A : Type 0} (key : A → ℕ) where
  rises-lower : (k m : ℕ) (xs : List A) → k ≤ m → rises_from m key xs ≡ true → rises_from k key xs ≡ true
  rises-lower k m [] l h = refl
  rises-lower k m (x ∷ xs) l h =
      let low = leb-true m (key x) (and_left (leb m (key x)) (rises_from (key x) key xs) h) in
      and_intro (le-leb k (key x) (omega arith)) (and_right (leb m (key x)) (rises_from (key x) key xs) h)

  -- a part of a list that rises does too
  pub rises-keep : (p : A → Bool) (m : ℕ) (xs : List A) → rises_from m key xs ≡ true → rises_from m key (keep p xs) ≡ true
  rises-keep p m [] h = refl
  rises-keep p m (x ∷ xs) h =
      go (p x) (and_left (leb m (key x)) (rises_from (key x) key xs) h) (rises-keep p (key x) xs (and_right (leb m (key x)) (rises_from (key x) key xs) h))
    where
      go : (b : Bool) → leb m (key x) ≡ true → rises_from (key x) key (keep p xs) ≡ true → rises_from m key (keep_if b x (keep p xs)) ≡ true
      go true l r = and_intro l r
      go false l r = rises-lower m (key x) (keep p xs) (leb-true m (key x) l) r
