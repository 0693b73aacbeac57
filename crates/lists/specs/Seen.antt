-- A loop that keeps the set of what it saw decides `distinct`.
use Rattle.std.specs.Prelude.{ℕ, ◌≡◌, refl, Bool, true, false, ◌&&◌, ◌||◌, not, List, [], ◌∷◌, eqb}
use Rattle.std.proofs.Common.{sym, ap}
use Rattle.std.proofs.Math.Bool.{and-true, and-false}
use Rattle.lists.specs.Lists.{all, is_in, distinct}
use Rattle.lists.specs.Tests.{eqb_swap}

module _ {A : Type 0} where
  pub all-ext : {p q : A → Bool} → ((x : A) → p x ≡ q x) → (xs : List A) → all p xs ≡ all q xs
  all-ext e [] = refl
  all-ext e (x ∷ xs) = rw (e x, all-ext e xs)

-- no number is one of those seen before it, at the start those of p
abbrev pub unseen : (ℕ → Bool) → List ℕ → Bool
unseen p [] = true
unseen p (m ∷ ms) = not (p m) && unseen (λ u. eqb u m || p u) ms

pub unseen-ext : {p q : ℕ → Bool} → ((u : ℕ) → p u ≡ q u) → (ms : List ℕ) → unseen p ms ≡ unseen q ms
unseen-ext e [] = refl
unseen-ext {p = p} {q = q} e (m ∷ ms) =
    rw (e m, unseen-ext {p = λ x. eqb x m || p x} {q = λ x. eqb x m || q x} (λ u. ap (λ b. eqb u m || b) (e u)) ms)

sort-out : (a b c d : Bool) → not (a || b) && (not c && d) ≡ not (a || c) && (not b && d)
sort-out true b c d = refl
sort-out false true true d = refl
sort-out false true false d = refl
sort-out false false true d = refl
sort-out false false false d = refl

-- one number more is seen
unseen-one : (p : ℕ → Bool) (m : ℕ) (ms : List ℕ) → all (λ u. not (eqb u m || p u)) ms ≡ not (is_in m ms) && all (λ u. not (p u)) ms
unseen-one p m [] = refl
unseen-one p m (n ∷ ns) = rw (unseen-one p m ns, eqb_swap n m) (sort-out (eqb m n) (p n) (is_in m ns) (all (λ u. not (p u)) ns))

regroup : (a b c d : Bool) → a && (b && (c && d)) ≡ c && b && (a && d)
regroup true b true d = refl
regroup true true false d = refl
regroup true false false d = refl
regroup false b c d = sym (and-false (c && b))

unseen-parts : (p : ℕ → Bool) (ms : List ℕ) → unseen p ms ≡ distinct ms && all (λ u. not (p u)) ms
unseen-parts p [] = refl
unseen-parts p (m ∷ ms) =
    rw (unseen-parts (λ u. eqb u m || p u) ms, unseen-one p m ms) (regroup (not (p m)) (distinct ms) (not (is_in m ms)) (all (λ u. not (p u)) ms))

all_true : (ms : List ℕ) → all (λ u. true) ms ≡ true
all_true [] = refl
all_true (m ∷ ms) = all_true ms

pub unseen-distinct : (ms : List ℕ) → unseen (λ u. false) ms ≡ distinct ms
unseen-distinct ms = rw (unseen-parts (λ u. false) ms, all_true ms) (and-true (distinct ms))
