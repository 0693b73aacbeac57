-- A type for each element of a list, and laws of all, any, keep and count_if, for every element type.
use Rattle.std.specs.Prelude.{ℕ, zero, suc, ◌+◌, ◌<◌, Bool, true, false, ◌&&◌, ◌||◌, cond, ◌≡◌, refl, length, get_or}
use mathlib.Core.List.{List, [], ◌∷◌, ◌++◌, map, nil≢cons}
use Rattle.std.proofs.Math.Bool.{and-true, and-false}
use Rattle.std.proofs.Common.{true≢false, arith}
use Rattle.std.proofs.lemmas.Bool.{false≢true}
use Rattle.lists.specs.Lists.{all, any, keep, keep_if, count_if, one_if, is_empty}
use Rattle.lists.specs.Choices.{and_intro, and_left, and_right}

pub head-eq : {A : Type 0} {x y : A} {xs ys : List A} → Path (List A) (x ∷ xs) (y ∷ ys) → x ≡ y
head-eq r = cc

pub tail-eq : {A : Type 0} {x y : A} {xs ys : List A} → Path (List A) (x ∷ xs) (y ∷ ys) → xs ≡ ys
tail-eq r = cc

-- P of each element
abbrev pub All {ℓ} : {A : Type 0} → (A → Type ℓ) → List A → Type ℓ
All P [] = Unit
All P (x ∷ xs) = P x × All P xs

pub All-map {ℓ κ} : {A : Type 0} {P : A → Type ℓ} {Q : A → Type κ} → ((x : A) → P x → Q x) → (xs : List A) → All P xs → All Q xs
All-map f [] h = tt
All-map f (x ∷ xs) h = (f x h.0, All-map f xs h.1)

pub All-two : {A : Type 0} {P Q R : A → Type 0} → ((x : A) → P x → Q x → R x) → (xs : List A) → All P xs → All Q xs → All R xs
All-two f [] p q = tt
All-two f (x ∷ xs) p q = (f x p.0 q.0, All-two f xs p.1 q.1)

module _ {A : Type 0} where
  pub All-append : (P : A → Type 0) (xs ys : List A) → All P xs → All P ys → All P (xs ++ ys)
  All-append P [] ys h k = k
  All-append P (x ∷ xs) ys h k = (h.0, All-append P xs ys h.1 k)

  -- a test of each element as a type for each
  pub All-of : (p : A → Bool) (xs : List A) → all p xs ≡ true → All (λ x. p x ≡ true) xs
  All-of p [] h = tt
  All-of p (x ∷ xs) h = (and_left (p x) (all p xs) h, All-of p xs (and_right (p x) (all p xs) h))

  pub all_of : (p : A → Bool) (xs : List A) → All (λ x. p x ≡ true) xs → all p xs ≡ true
  all_of p [] h = refl
  all_of p (x ∷ xs) h = and_intro h.0 (all_of p xs h.1)

  pub All-keep : (P : A → Type 0) (p : A → Bool) (xs : List A) → All (λ x. p x ≡ true → P x) xs → All P (keep p xs)
  All-keep P p [] h = tt
  All-keep P p (x ∷ xs) h = go (p x) h.0 (All-keep P p xs h.1)
    where
      go : (b : Bool) → (b ≡ true → P x) → All P (keep p xs) → All P (keep_if b x (keep p xs))
      go true k ih = (k refl, ih)
      go false k ih = ih

  -- of a test that fails for each element
  pub any_none : (p : A → Bool) (xs : List A) → any p xs ≡ false → All (λ x. p x ≡ false) xs
  any_none p [] h = tt
  any_none p (x ∷ xs) h = go (p x) refl h (any_none p xs)
    where
      go : (b : Bool) → p x ≡ b → (b || any p xs) ≡ false → (any p xs ≡ false → All (λ x. p x ≡ false) xs) → (p x ≡ false) × All (λ x. p x ≡ false) xs
      go true q w ih = absurd (true≢false w)
      go false q w ih = (q, ih w)

  -- an element of which p holds, with its P
  pub any_found : (P : A → Type 0) (p : A → Bool) (xs : List A) → any p xs ≡ true → All P xs → (x : A) × (p x ≡ true) × P x
  any_found P p [] h k = absurd (false≢true h)
  any_found P p (x ∷ xs) h k = go (p x) refl h (λ w. any_found P p xs w k.1)
    where
      go : (b : Bool) → p x ≡ b → (b || any p xs) ≡ true → (any p xs ≡ true → (x : A) × (p x ≡ true) × P x) → (x : A) × (p x ≡ true) × P x
      go true q w ih = (x, q, k.0)
      go false q w ih = ih w

  -- ---- tests that agree or fail on each element

  pub any_same : (p q : A → Bool) (xs : List A) → All (λ x. p x ≡ q x) xs → any p xs ≡ any q xs
  any_same p q [] h = refl
  any_same p q (x ∷ xs) h = λ j. h.0 j || any_same p q xs h.1 j

  pub keep_same : (p q : A → Bool) (xs : List A) → All (λ x. p x ≡ q x) xs → keep p xs ≡ keep q xs
  keep_same p q [] h = refl
  keep_same p q (x ∷ xs) h = rw (h.0, keep_same p q xs h.1)

  pub keep-none : (p : A → Bool) (xs : List A) → All (λ x. p x ≡ false) xs → keep p xs ≡ []
  keep-none p [] h = refl
  keep-none p (x ∷ xs) h = rw (h.0, keep-none p xs h.1)

  -- a test that has a part which is the same for all
  pub keep-cond : (p : A → Bool) (b : Bool) (xs : List A) → keep (λ x. p x && b) xs ≡ cond b (keep p xs) []
  keep-cond p true [] = refl
  keep-cond p true (x ∷ xs) = rw (and-true (p x), keep-cond p true xs)
  keep-cond p false [] = refl
  keep-cond p false (x ∷ xs) = rw (and-false (p x), keep-cond p false xs)

  -- one test after another
  pub keep-both : (p q : A → Bool) (xs : List A) → keep q (keep p xs) ≡ keep (λ x. p x && q x) xs
  keep-both p q [] = refl
  keep-both p q (x ∷ xs) = go (p x) (keep-both p q xs)
    where
      go : (b : Bool) → keep q (keep p xs) ≡ keep (λ x. p x && q x) xs → keep q (keep_if b x (keep p xs)) ≡ keep_if (b && q x) x (keep (λ x. p x && q x) xs)
      go true e = rw e
      go false e = e

  pub count_none : (p : A → Bool) (xs : List A) → All (λ x. p x ≡ false) xs → count_if p xs ≡ 0
  count_none p [] h = refl
  count_none p (x ∷ xs) h = rw (h.0, count_none p xs h.1)

  pub count-zero : (p : A → Bool) (xs : List A) → count_if p xs ≡ 0 → All (λ x. p x ≡ false) xs
  count-zero p [] h = tt
  count-zero p (x ∷ xs) h = go (p x) refl h (count-zero p xs)
    where
      go : (b : Bool) → p x ≡ b → one_if b + count_if p xs ≡ 0 → (count_if p xs ≡ 0 → All (λ x. p x ≡ false) xs) → (p x ≡ false) × All (λ x. p x ≡ false) xs
      go true q w ih = absurd (omega arith)
      go false q w ih = (q, ih (omega arith))

  pub count_same : (p q : A → Bool) (xs : List A) → All (λ x. p x ≡ q x) xs → count_if p xs ≡ count_if q xs
  count_same p q [] h = refl
  count_same p q (x ∷ xs) h = rw (h.0, count_same p q xs h.1)

  pub All-forall : {I : Type 0} (Q : I → Type 0) (P : I → A → Type 0) (xs : List A) → ((v : I) → Q v → All (P v) xs)
      → All (λ x. (v : I) → Q v → P v x) xs
  All-forall Q P [] h = tt
  All-forall Q P (x ∷ xs) h = (λ v q. (h v q).0, All-forall Q P xs (λ v q. (h v q).1))

  pub All-get_or : (P : A → Type 0) (d : A) (xs : List A) (j : ℕ) → All P xs → j < length xs → P (get_or xs j d)
  All-get_or P d [] j h k = absurd (omega arith)
  All-get_or P d (x ∷ xs) zero h k = h.0
  All-get_or P d (x ∷ xs) (suc j) h k = All-get_or P d xs j h.1 (omega arith)

  -- the elements at these places
  pub All-at : (P : A → Type 0) (d : A) (xs : List A) (ps : List ℕ) → All P xs → All (λ p. p < length xs) ps → All P (map (λ p. get_or xs p d) ps)
  All-at P d xs [] h k = tt
  All-at P d xs (p ∷ ps) h k = (All-get_or P d xs p h k.0, All-at P d xs ps h k.1)

  pub empty-nil : (xs : List A) → is_empty xs ≡ true → xs ≡ []
  empty-nil [] h = refl
  empty-nil (x ∷ xs) h = absurd (false≢true h)

module _ {A B : Type 0} (f : A → B) where
  pub All-unmap : (P : B → Type 0) (xs : List A) → All (λ x. P (f x)) xs → All P (map f xs)
  All-unmap P [] h = tt
  All-unmap P (x ∷ xs) h = (h.0, All-unmap P xs h.1)

  pub all-kept : (p : B → Bool) (q : A → Bool) (xs : List A) → ((x : A) → q x ≡ true → p (f x) ≡ true) → all p (map f (keep q xs)) ≡ true
  all-kept p q [] h = refl
  all-kept p q (x ∷ xs) h = go (q x) (h x) (all-kept p q xs h)
    where
      go : (b : Bool) → (b ≡ true → p (f x) ≡ true) → all p (map f (keep q xs)) ≡ true → all p (map f (keep_if b x (keep q xs))) ≡ true
      go true k ih = and_intro (k refl) ih
      go false k ih = ih

  -- a place in a mapped list is one in the list
  pub map-split : (zs : List A) (xs ys : List B) (y : B) → map f zs ≡ xs ++ y ∷ ys
      → (us : List A) × (u : A) × (vs : List A) × (zs ≡ us ++ u ∷ vs) × (map f us ≡ xs) × (f u ≡ y) × (map f vs ≡ ys)
  map-split [] [] ys y h = absurd (nil≢cons h)
  map-split [] (x ∷ xs) ys y h = absurd (nil≢cons h)
  map-split (z ∷ zs) [] ys y h = ([], z, zs, refl, refl, head-eq h, tail-eq h)
  map-split (z ∷ zs) (x ∷ xs) ys y h =
      let r = map-split zs xs ys y (tail-eq h) in (z ∷ r.0, r.1, r.2, (λ j. z ∷ r.3 j), (λ j. head-eq h j ∷ r.4 j), r.5, r.6)
