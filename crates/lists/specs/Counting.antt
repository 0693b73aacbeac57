-- Laws of `count_if`, `keep`, `all` and `any`.
use Rattle.std.specs.Prelude.{ℕ, suc, ◌+◌, ◌≤◌, List, [], ◌∷◌, ◌++◌, map, Bool, true, false, ◌&&◌, ◌||◌, not, ◌≡◌, refl, leb, length}
use Rattle.std.proofs.Common.{sym, ap, ◌∙◌, arith, le-leb}
use Rattle.lists.specs.Lists.{all, any, keep, keep_if, count_if, one_if}
use Rattle.lists.specs.Tests.{and_both, and-turn}
use Rattle.lists.specs.Choices.{is_false, clash}
use Rattle.lists.specs.Neither.{or_left_false, or_right_false}

module _ {A : Type 0} (p : A → Bool) where
  pub count-le : (xs : List A) → count_if p xs ≤ length xs
  count-le [] = omega arith
  count-le (x ∷ xs) = more (p x) (count-le xs)
    where
      more : (b : Bool) → count_if p xs ≤ length xs → one_if b + count_if p xs ≤ suc (length xs)
      more true h = omega arith
      more false h = omega arith

  pub count-append : (xs ys : List A) → count_if p (xs ++ ys) ≡ count_if p xs + count_if p ys
  count-append [] ys = omega arith
  count-append (x ∷ xs) ys = omega (arith, count-append xs ys)

  pub all_append : (xs ys : List A) → all p xs ≡ true → all p ys ≡ true → all p (xs ++ ys) ≡ true
  all_append [] ys h k = k
  all_append (x ∷ xs) ys h k =
      let (a, b) = and_both (p x) (all p xs) h in
      rw (a, all_append xs ys b k)

  pub count-all : (xs : List A) → all p xs ≡ true → count_if p xs ≡ length xs
  count-all [] h = refl
  count-all (x ∷ xs) h =
      let (a, b) = and_both (p x) (all p xs) h in
      rw (a, count-all xs b) (omega arith)

  length-keep_if : (b : Bool) (x : A) (xs : List A) → length (keep_if b x xs) ≡ one_if b + length xs
  length-keep_if true x xs = omega arith
  length-keep_if false x xs = omega arith

  pub length-keep : (xs : List A) → length (keep p xs) ≡ count_if p xs
  length-keep [] = refl
  length-keep (x ∷ xs) = length-keep_if (p x) x (keep p xs) ∙ ap (λ (n : ℕ). one_if (p x) + n) (length-keep xs)

  -- what a test keeps and what it does not keep
  pub length-parts : (xs : List A) → length (keep p xs) + length (keep (λ x. not (p x)) xs) ≡ length xs
  length-parts [] = refl
  length-parts (x ∷ xs) = more (p x) (length-parts xs)
    where
      more : (b : Bool) → length (keep p xs) + length (keep (λ x. not (p x)) xs) ≡ length xs
          → length (keep_if b x (keep p xs)) + length (keep_if (not b) x (keep (λ x. not (p x)) xs)) ≡ suc (length xs)
      more true h = omega arith
      more false h = omega arith

  pub any-count : (xs : List A) → any p xs ≡ leb 1 (count_if p xs)
  any-count [] = refl
  any-count (x ∷ xs) = more (p x) (any-count xs)
    where
      more : (b : Bool) → any p xs ≡ leb 1 (count_if p xs) → b || any p xs ≡ leb 1 (one_if b + count_if p xs)
      more true h = sym (le-leb 1 (1 + count_if p xs) (omega arith))
      more false h =
          let e : count_if p xs ≡ 0 + count_if p xs = omega arith in
          h ∙ ap (leb 1) e

-- ---- of images
module _ {A B : Type 0} (f : A → B) (p : B → Bool) where
  pub count_map : (xs : List A) → count_if p (map f xs) ≡ count_if (λ x. p (f x)) xs
  count_map [] = refl
  count_map (x ∷ xs) = ap (λ (n : ℕ). one_if (p (f x)) + n) (count_map xs)

-- ---- of either of two tests
module _ {A : Type 0} (p q : A → Bool) where
  pub count-or : (xs : List A) → count_if (λ x. p x || q x) xs ≤ count_if p xs + count_if q xs
  count-or [] = omega arith
  count-or (x ∷ xs) = more (p x) (q x) (count-or xs)
    where
      more : (b c : Bool) → count_if (λ x. p x || q x) xs ≤ count_if p xs + count_if q xs
          → one_if (b || c) + count_if (λ x. p x || q x) xs ≤ one_if b + count_if p xs + (one_if c + count_if q xs)
      more true c h = omega arith
      more false c h = omega arith

-- ---- of both of two tests
module _ {A : Type 0} (p q : A → Bool) where
  pub all-and : (xs : List A) → all (λ x. p x && q x) xs ≡ all p xs && all q xs
  all-and [] = refl
  all-and (x ∷ xs) = rw (all-and xs) (and-turn (p x) (q x) (all p xs) (all q xs))

-- ---- of two tests, of which the first holds only where the second does
module _ {A : Type 0} (p q : A → Bool) (f : (x : A) → p x ≡ true → q x ≡ true) where
  pub all_weaker : (xs : List A) → all p xs ≡ true → all q xs ≡ true
  all_weaker [] h = refl
  all_weaker (x ∷ xs) h =
      let (a, b) = and_both (p x) (all p xs) h in
      rw (f x a, all_weaker xs b)

  pub any-weaker : (xs : List A) → any q xs ≡ false → any p xs ≡ false
  any-weaker [] h = refl
  any-weaker (x ∷ xs) h =
      rw (is_false (p x) (λ e. clash (f x e) (or_left_false (q x) (any q xs) h)), any-weaker xs (or_right_false (q x) (any q xs) h))

  pub count-weaker : (xs : List A) → count_if p xs ≤ count_if q xs
  count-weaker [] = omega arith
  count-weaker (x ∷ xs) = more (p x) (q x) (f x) (count-weaker xs)
    where
      more : (b c : Bool) → (b ≡ true → c ≡ true) → count_if p xs ≤ count_if q xs → one_if b + count_if p xs ≤ one_if c + count_if q xs
      more true c g h = rw (g refl) (omega arith)
      more false c g h = omega arith
