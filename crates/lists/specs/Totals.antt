-- Counts: of what is kept, of a sum of tests; and how often a number occurs in a list without repetitions.
use Rattle.std.specs.Prelude.{ℕ, ◌+◌, ◌≤◌, Bool, true, false, ◌&&◌, ◌||◌, not, List, [], ◌∷◌, ◌≡◌, refl, eqb}
use Rattle.std.proofs.Common.{true≢false, arith, eqb-true}
use Rattle.lists.specs.Lists.{keep_if, keep, one_if, count_if, is_in, distinct}
use Rattle.lists.specs.Choices.{and_left, and_right}
use Rattle.std.proofs.lemmas.Bool.{not-true}

module _ {A : Type 0} where
  module _ (p : A → Bool) where
    pub count-keep : (q : A → Bool) (xs : List A) → count_if p (keep q xs) ≡ count_if (λ x. q x && p x) xs
    count-keep q [] = refl
    count-keep q (x ∷ xs) = go (q x) (count-keep q xs)
      where
        go : (b : Bool) → count_if p (keep q xs) ≡ count_if (λ x. q x && p x) xs
            → count_if p (keep_if b x (keep q xs)) ≡ one_if (b && p x) + count_if (λ x. q x && p x) xs
        go true e = omega arith
        go false e = omega arith

    pub count-keep-le : (q : A → Bool) (xs : List A) → count_if p (keep q xs) ≤ count_if p xs
    count-keep-le q [] = omega arith
    count-keep-le q (x ∷ xs) = go (q x) (count-keep-le q xs)
      where
        go : (b : Bool) → count_if p (keep q xs) ≤ count_if p xs → count_if p (keep_if b x (keep q xs)) ≤ one_if (p x) + count_if p xs
        go true e = omega arith
        go false e = omega arith

module _ {A : Type 0} where
  pub count-never : (p : A → Bool) → ((x : A) → p x ≡ false) → (xs : List A) → count_if p xs ≡ 0
  count-never p f [] = refl
  count-never p f (x ∷ xs) = rw (f x, count-never p f xs)

  pub count-sum : (p q r : A → Bool) → ((x : A) → one_if (p x) ≡ one_if (q x) + one_if (r x)) → (xs : List A) → count_if p xs ≡ count_if q xs + count_if r xs
  count-sum p q r f [] = refl
  count-sum p q r f (x ∷ xs) = let h = f x in let k = count-sum p q r f xs in omega arith

pub count-absent : (n : ℕ) (ns : List ℕ) → is_in n ns ≡ false → count_if (eqb n) ns ≡ 0
count-absent n [] h = refl
count-absent n (m ∷ ms) h = go (count-absent n ms) (eqb n m) h
  where
    go : (is_in n ms ≡ false → count_if (eqb n) ms ≡ 0) → (b : Bool) → b || is_in n ms ≡ false → one_if b + count_if (eqb n) ms ≡ 0
    go ih true k = absurd (true≢false k)
    go ih false k = let e = ih k in omega arith

-- a number occurs once or not at all where none occurs twice
pub count-distinct : (n : ℕ) (ns : List ℕ) → distinct ns ≡ true → count_if (eqb n) ns ≡ one_if (is_in n ns)
count-distinct n [] h = refl
count-distinct n (m ∷ ms) h = go (count-distinct n ms (and_right (not (is_in m ms)) (distinct ms) h)) (eqb n m) refl
  where
    go : count_if (eqb n) ms ≡ one_if (is_in n ms) → (b : Bool) → eqb n m ≡ b → one_if b + count_if (eqb n) ms ≡ one_if (b || is_in n ms)
    go ih true e = let k : is_in n ms ≡ false = rw (eqb-true n m e) (not-true (is_in m ms) (and_left (not (is_in m ms)) (distinct ms) h)) in
        let c = count-absent n ms k in omega arith
    go ih false e = omega arith
