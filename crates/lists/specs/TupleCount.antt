-- How long `each` and `tuples` are, and that what is kept of a list is no longer.
use Rattle.std.specs.Prelude.{ℕ, zero, suc, ◌*◌, ◌^◌, ◌≤◌, Bool, List, [], ◌∷◌, map, ◌≡◌, refl, length}
use Rattle.std.proofs.Common.{inl, inr, sym, ap, ◌∙◌, arith, length-append}
use Rattle.std.proofs.Math.Nat.{pow-zero, pow-succ'}
use Rattle.std.proofs.lemmas.List.{length-map}
use Rattle.lists.specs.Lists.{keep, up_from, each, tuples}
use Rattle.lists.specs.Members.{Among}
use Rattle.lists.specs.Counting.{length-keep, count-le}

pub length_up : (i n : ℕ) → length (up_from i n) ≡ n
length_up i zero = refl
length_up i (suc n) = ap suc (length_up (suc i) n)

pub keep-le : {A : Type 0} (p : A → Bool) (xs : List A) → length (keep p xs) ≤ length xs
keep-le p xs = let a = length-keep p xs in let b = count-le p xs in omega arith

module _ {A B : Type 0} (f : A → List B) (c : ℕ) where
  pub length-each : (xs : List A) → ((x : A) → length (f x) ≡ c) → length (each f xs) ≡ length xs * c
  length-each [] h = omega arith
  length-each (x ∷ xs) h = let a = length-append (f x) (each f xs) in let b = h x in let i = length-each xs h in omega arith

  pub length-each-le : (xs : List A) → ((x : A) → Among x xs → length (f x) ≤ c) → length (each f xs) ≤ length xs * c
  length-each-le [] h = omega arith
  length-each-le (x ∷ xs) h =
      let a = length-append (f x) (each f xs) in
      let b = h x (inl refl) in
      let i = length-each-le xs (λ y m. h y (inr m)) in
      omega arith

pub length-tuples : (n k : ℕ) → length (tuples n k) ≡ n ^ k
length-tuples n zero = sym (pow-zero n)
length-tuples n (suc k) =
    length-each (λ p. map (λ ps. p ∷ ps) (tuples n k)) (n ^ k) (up_from 0 n) (λ p. length-map (tuples n k) (λ ps. p ∷ ps) ∙ length-tuples n k)
    ∙ ap (λ (l : ℕ). l * n ^ k) (length_up 0 n) ∙ sym (pow-succ' n k)
