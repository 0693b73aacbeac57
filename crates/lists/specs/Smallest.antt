-- The smallest of a list of numbers: it is one of them and none is below it.
use Rattle.std.specs.Prelude.{ℕ, min, ◌≤◌, Bool, true, ◌&&◌, List, [], ◌∷◌, ◌⊎◌, ◌≡◌, refl, leb, eqb}
use Rattle.std.proofs.Common.{inl, inr, sym, subst, arith, leb-true, leb-false, eqb-true}
use Rattle.lists.specs.Lists.{all, least}
use Rattle.lists.specs.Choices.{by_bool, and_right}
use Rattle.lists.specs.Members.{Among, all-each}
use Rattle.lists.specs.Tests.{same_test}

pub min_cases : (a b : ℕ) → (min a b ≡ a) ⊎ (min a b ≡ b)
min_cases a b = by_bool (leb a b) (λ e. inl (let h = leb-true a b e in omega arith)) (λ e. inr (let h = leb-false a b e in omega arith))

pub least-among : (n : ℕ) (ns : List ℕ) → Among (least (n ∷ ns)) (n ∷ ns)
least-among n [] = inl refl
least-among n (m ∷ ms) = go (min_cases n (least (m ∷ ms))) (least-among m ms)
  where
    go : (min n (least (m ∷ ms)) ≡ n) ⊎ (min n (least (m ∷ ms)) ≡ least (m ∷ ms)) → Among (least (m ∷ ms)) (m ∷ ms)
        → Among (min n (least (m ∷ ms))) (n ∷ m ∷ ms)
    go (inl e) k = inl e
    go (inr e) k = subst (λ (x : ℕ). Among x (n ∷ m ∷ ms)) (sym e) (inr k)

pub least-le : (ns : List ℕ) (n : ℕ) → Among n ns → least ns ≤ n
least-le [] n m = absurd m
least-le (k ∷ []) n (inl e) = omega arith
least-le (k ∷ []) n (inr m) = absurd m
least-le (k ∷ l ∷ ls) n (inl e) = omega arith
least-le (k ∷ l ∷ ls) n (inr m) = let h = least-le (l ∷ ls) n m in omega arith

-- the smallest of a list that has an element is an element
pub least-of : (ns : List ℕ) (n : ℕ) → Among n ns → Among (least ns) ns
least-of [] n m = absurd m
least-of (k ∷ ks) n m = least-among k ks

-- all are the smallest exactly where all are any one of them
pub all-least : (p : ℕ → Bool) (ns : List ℕ) (n : ℕ) → Among n ns → all (λ m. p m && eqb m n) ns ≡ all (λ m. p m && eqb m (least ns)) ns
all-least p ns n k = same_test _ _ there back
  where
    there : all (λ m. p m && eqb m n) ns ≡ true → all (λ m. p m && eqb m (least ns)) ns ≡ true
    there h =
        let e : least ns ≡ n = eqb-true (least ns) n
        (and_right (p (least ns)) (eqb (least ns) n) (all-each (λ m. p m && eqb m n) ns h (least ns) (least-of ns n k))) in
        rw e h

    back : all (λ m. p m && eqb m (least ns)) ns ≡ true → all (λ m. p m && eqb m n) ns ≡ true
    back h =
        let e : n ≡ least ns = eqb-true n (least ns) (and_right (p n) (eqb n (least ns)) (all-each (λ m. p m && eqb m (least ns)) ns h n k)) in
        rw e h
