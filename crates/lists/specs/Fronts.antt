-- The front of a list: its length, and what is read of it.
use Rattle.std.specs.Prelude.{ℕ, zero, suc, ◌+◌, ◌≤◌, List, [], ◌∷◌, map, ◌≡◌, refl, take, drop}
use Rattle.std.proofs.Common.{sym, ap, ◌∙◌, arith, take-take}
use Rattle.std.proofs.Math.Seq.{take-nil}

module _ {A : Type 0} where
  part-of-front : (a k n : ℕ) (xs : List A) → a + k ≤ n → take k (drop a (take n xs)) ≡ take k (drop a xs)
  part-of-front zero k n xs l = take-take k n xs (omega arith)
  part-of-front (suc a) k n [] l = rw (take-nil {A = A} n)
  part-of-front (suc a) k zero (x ∷ xs) l = absurd (omega arith)
  part-of-front (suc a) k (suc n) (x ∷ xs) l = part-of-front a k n xs (omega arith)

  -- a part before place n is the same if the first n are
  pub part-kept : (a k n : ℕ) (xs ys : List A) → take n xs ≡ take n ys → a + k ≤ n → take k (drop a xs) ≡ take k (drop a ys)
  part-kept a k n xs ys e l = sym (part-of-front a k n xs l) ∙ ap (λ (zs : List A). take k (drop a zs)) e ∙ part-of-front a k n ys l

pub take-map : {A B : Type 0} (f : A → B) (n : ℕ) (xs : List A) → take n (map f xs) ≡ map f (take n xs)
take-map f zero xs = refl
take-map f (suc n) [] = refl
take-map f (suc n) (x ∷ xs) = rw (take-map f n xs)
