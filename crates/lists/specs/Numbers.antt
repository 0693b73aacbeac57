-- Numbers in a list of numbers by the test `is_in`: the smallest, tests on each, images.
use Rattle.std.specs.Prelude.{ℕ, ◌≤◌, List, [], ◌∷◌, map, Bool, true, false, ◌≡◌, refl, ◌⊎◌, eqb}
use Rattle.std.proofs.lemmas.Bool.{false≢true}
use Rattle.std.proofs.Common.{sym, ◌∙◌, inl, inr, arith, eqb-true, eq-eqb}
use Rattle.lists.specs.Lists.{all, is_empty, is_in, least}
use Rattle.lists.specs.Tests.{or-right-true, same_test}
use Rattle.lists.specs.Choices.{by_bool, clash, or_cases}
use Rattle.lists.specs.Members as Members
use Rattle.lists.specs.Members.{all-each, among-map, map-among, is_in-among, among-is_in}
use Rattle.lists.specs.Smallest as Smallest
use Rattle.lists.specs.Smallest.{least-among, least-of}

pub is_in-head : (n : ℕ) (ns : List ℕ) → is_in n (n ∷ ns) ≡ true
is_in-head n ns = rw (eq-eqb n n refl)

pub is_in-cons : (n m : ℕ) (ns : List ℕ) → is_in n ns ≡ true → is_in n (m ∷ ns) ≡ true
is_in-cons n m ns h = or-right-true (eqb n m) h

pub is_in-cases : (n m : ℕ) (ns : List ℕ) → is_in n (m ∷ ns) ≡ true → (n ≡ m) ⊎ (is_in n ns ≡ true)
is_in-cases n m ns h = go (or_cases (eqb n m) (is_in n ns) h)
  where
    go : (eqb n m ≡ true) ⊎ (is_in n ns ≡ true) → (n ≡ m) ⊎ (is_in n ns ≡ true)
    go (inl e) = inl (eqb-true n m e)
    go (inr e) = inr e

pub is_in-one : (n m : ℕ) → is_in n (m ∷ []) ≡ true → n ≡ m
is_in-one n m h = go (is_in-cases n m [] h)
  where
    go : (n ≡ m) ⊎ (false ≡ true) → n ≡ m
    go (inl e) = e
    go (inr e) = absurd (false≢true e)

-- ---- the smallest

pub least-in : (b : ℕ) (bs : List ℕ) → is_in (least (b ∷ bs)) (b ∷ bs) ≡ true
least-in b bs = among-is_in (least (b ∷ bs)) (b ∷ bs) (least-among b bs)

-- the smallest of some numbers is one of them
pub least-some : (v : ℕ) (ns : List ℕ) → is_in v ns ≡ true → is_in (least ns) ns ≡ true
least-some v ns h = among-is_in (least ns) ns (least-of ns v (is_in-among v ns h))

pub least-full : (ns : List ℕ) → is_empty ns ≡ false → is_in (least ns) ns ≡ true
least-full [] h = absurd (false≢true (sym h))
least-full (n ∷ ns) h = least-in n ns

-- a smallest that is not the 0 of none
pub least-pos : (ns : List ℕ) → (least ns ≡ 0 → ⊥) → is_in (least ns) ns ≡ true
least-pos [] h = absurd (h refl)
least-pos (n ∷ ns) h = least-in n ns

pub least-le-in : (v : ℕ) (ns : List ℕ) → is_in v ns ≡ true → least ns ≤ v
least-le-in v ns h = Smallest.least-le ns v (is_in-among v ns h)

-- a number in the list that no other is below
pub least-is : (b : ℕ) (ns : List ℕ) → is_in b ns ≡ true → ((v : ℕ) → is_in v ns ≡ true → b ≤ v) → least ns ≡ b
least-is b ns h k = let x = least-le-in b ns h in let y = k (least ns) (least-some b ns h) in omega arith

-- the smallest depends on nothing but which numbers there are
pub least-same : (b : ℕ) (bs ns : List ℕ) → ((v : ℕ) → is_in v (b ∷ bs) ≡ is_in v ns) → least ns ≡ least (b ∷ bs)
least-same b bs ns same = least-is (least (b ∷ bs)) ns (sym (same (least (b ∷ bs))) ∙ least-in b bs) (λ v k. least-le-in v (b ∷ bs) (same v ∙ k))

-- ---- a test on each number

pub all-is_in : (p : ℕ → Bool) (ns : List ℕ) → ((v : ℕ) → is_in v ns ≡ true → p v ≡ true) → all p ns ≡ true
all-is_in p ns h = Members.all-intro p ns (λ v m. h v (among-is_in v ns m))

pub all-use : (p : ℕ → Bool) (ns : List ℕ) (v : ℕ) → all p ns ≡ true → is_in v ns ≡ true → p v ≡ true
all-use p ns v h k = all-each p ns h v (is_in-among v ns k)

pub all-not : (p : ℕ → Bool) (ns : List ℕ) (v : ℕ) → all p ns ≡ true → p v ≡ false → is_in v ns ≡ false
all-not p ns v h k = by_bool (is_in v ns) (λ q. absurd (clash (all-use p ns v h q) k)) (λ q. q)

-- all depend on nothing but which numbers there are
pub all_same : (p : ℕ → Bool) (ns ms : List ℕ) → ((v : ℕ) → is_in v ns ≡ is_in v ms) → all p ns ≡ all p ms
all_same p ns ms same =
    same_test _ _ (λ h. all-is_in p ms (λ v k. all-use p ns v h (same v ∙ k))) (λ h. all-is_in p ns (λ v k. all-use p ms v h (sym (same v) ∙ k)))

-- ---- under a function

pub is_in-map : (f : ℕ → ℕ) (v : ℕ) (ns : List ℕ) → is_in v ns ≡ true → is_in (f v) (map f ns) ≡ true
is_in-map f v ns h = among-is_in (f v) (map f ns) (map-among f ns v (is_in-among v ns h))

pub is_in-unmap : (f : ℕ → ℕ) (w : ℕ) (ns : List ℕ) → is_in w (map f ns) ≡ true → (v : ℕ) × (is_in v ns ≡ true) × (f v ≡ w)
is_in-unmap f w ns h = let r = among-map f ns w (is_in-among w (map f ns) h) in (r.0, among-is_in r.0 ns r.1, sym r.2)
