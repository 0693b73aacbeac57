-- Numbers each above the one before it, and the search for one of them by halves.
use Rattle.std.specs.Prelude.{ℕ, zero, suc, ◌+◌, ◌-◌, ◌/◌, ◌≤◌, ◌<◌, ◌≡◌, refl, Bool, true, false, cond, List, ◌∷◌, leb, length, get_or, take}
use Rattle.std.proofs.Common.{arith, get_or-take, leb-true, leb-false}
use Rattle.lists.specs.Lists.{keep_if, keep, up_from}
use Rattle.lists.specs.Each.{All, All-keep, All-get_or}
use Rattle.lists.specs.Rising.{Order, before, equal, after, order}
use Rattle.lists.specs.UpFrom.{up-each}

-- the first m numbers rise
pub record Ascending (xs : List ℕ) (m : ℕ) : Type 0 where
  pub rise : (i j : ℕ) → i < j → j < m → get_or xs i 0 < get_or xs j 0

module _ {xs : List ℕ} {m : ℕ} (a : Ascending xs m) where
  -- a number that is not above another stands no further back
  not-before : (i j : ℕ) → i < m → get_or xs i 0 ≤ get_or xs j 0 → i ≤ j
  not-before i j h l = go (order i j)
    where
      go : Order i j → i ≤ j
      go (before k) = omega arith
      go (equal q) = omega arith
      go (after k) = absurd (omega (arith, a.rise j i k h))

  -- equal numbers stand at one place
  pub ascending-same : (i j : ℕ) → i < m → j < m → get_or xs i 0 ≡ get_or xs j 0 → i ≡ j
  ascending-same i j h k e = omega (arith, not-before i j h (omega arith), not-before j i k (omega arith))

-- what rises in the front of a list rises there
pub ascending-front : (xs : List ℕ) (m : ℕ) → Ascending (take m xs) m → Ascending xs m
ascending-front xs m a = record { rise = λ i j l h. rw (← get_or-take m xs i 0 (omega arith), ← get_or-take m xs j 0 h) (a.rise i j l h) }

ascending-cons : (x : ℕ) (xs : List ℕ) → All (λ y. x < y) xs → Ascending xs (length xs) → Ascending (x ∷ xs) (length (x ∷ xs))
ascending-cons x xs above a = record { rise = go }
  where
    go : (i j : ℕ) → i < j → j < suc (length xs) → get_or (x ∷ xs) i 0 < get_or (x ∷ xs) j 0
    go i zero l h = absurd (omega arith)
    go zero (suc j) l h = All-get_or (λ y. x < y) 0 xs j above (omega arith)
    go (suc i) (suc j) l h = a.rise i j (omega arith) (omega arith)

-- numbers kept of those one after another
pub keep-ascending : (p : ℕ → Bool) (i n : ℕ) → Ascending (keep p (up_from i n)) (length (keep p (up_from i n)))
keep-ascending p i zero = record { rise = λ j k l h. absurd (omega arith) }
keep-ascending p i (suc n) = go (p i) (keep-ascending p (suc i) n)
  where
    go : (b : Bool) → Ascending (keep p (up_from (suc i) n)) (length (keep p (up_from (suc i) n)))
        → Ascending (keep_if b i (keep p (up_from (suc i) n))) (length (keep_if b i (keep p (up_from (suc i) n))))
    go true a =
        ascending-cons i (keep p (up_from (suc i) n))
        (All-keep (λ y. i < y) p (up_from (suc i) n) (up-each (λ y. p y ≡ true → i < y) (suc i) n (λ x l h e. l))) a
    go false a = a

-- ---- a search by halves

-- x stands at one of `size` places from `from` on
pub record PlaceIn (xs : List ℕ) (x from size : ℕ) : Type 0 where
  pub place : ℕ
  pub low : from ≤ place
  pub high : place < from + size
  pub here : get_or xs place 0 ≡ x

module _ {xs : List ℕ} {m : ℕ} (a : Ascending xs m) {x from size : ℕ} (p : PlaceIn xs x from size) (h : from + size ≤ m) (l : 1 < size) where
  half-by : (mid : ℕ) → mid ≡ from + size / 2 → (b : Bool) → leb (get_or xs mid 0) x ≡ b
      → PlaceIn xs x (cond b mid from) (size - size / 2) × (cond b mid from + (size - size / 2) ≤ m)
  half-by mid e true q =
      let low = not-before a mid p.place (omega arith) (omega (arith, leb-true (get_or xs mid 0) x q, p.here)) in
      (record { place = p.place; low = low; high = omega (arith, p.high); here = p.here }, omega arith)
  half-by mid e false q =
      let below = leb-false (get_or xs mid 0) x q in
      let k : p.place < m = omega (arith, p.high) in
      let i = not-before a p.place mid k (omega (arith, p.here)) in
      let n : p.place ≡ mid → ⊥ = λ g. let here = rw g at p.here in omega arith in
      (record { place = p.place; low = p.low; high = omega arith; here = p.here }, omega arith)

  -- the number in the middle says in which half
  pub place-half : {r : ℕ} → r ≡ cond (leb (get_or xs (from + size / 2) 0) x) (from + size / 2) from
      → PlaceIn xs x r (size - size / 2) × (r + (size - size / 2) ≤ m)
  place-half e = rw e (half-by (from + size / 2) refl (leb (get_or xs (from + size / 2) 0) x) refl)

-- one place is left
pub place-left : {xs : List ℕ} {x from size : ℕ} → PlaceIn xs x from size → size ≤ 1 → (get_or xs from 0 ≡ x) × (1 ≤ size)
place-left {xs} {x} {from} p h =
    let e : p.place ≡ from = omega (arith, p.low, p.high) in
    (rw e at p.here, omega (arith, p.low, p.high))
