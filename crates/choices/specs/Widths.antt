-- How many choices are below a pick: the figures that the code computes, and what they are.
use Prim.Native.Nat.{ℕ, zero, suc, ◌+◌, ◌-◌, ◌*◌, ◌≤◌, ◌<◌}
use Rattle.std.specs.Prelude.{◌≡◌, Bool, true, false, cond, List, [], ◌∷◌, eqb, ltb, length, take, drop}
use Rattle.std.proofs.Math.Path.{refl, ap}
use Rattle.std.proofs.Common.{mul-one, mul-le-mul}
use native.Mathlib.Omega.{arith}
use Rattle.std.proofs.Math.ListN.{get_or}
use Rattle.lists.specs.Lists.{one_if}
use Rattle.lists.specs.Keys.{times_in}
use Rattle.lists.specs.Ways.{ways}

-- the ways at each number behind the first, 1 where fewer than so many are wanted
abbrev pub second_ways : List ℕ → List ℕ → ℕ → ℕ
second_ways ts ls k = cond (ltb 1 k) (get_or ls 1 0 - one_if (eqb (get_or ts 0 0) (get_or ts 1 0))) 1

abbrev pub third_ways : List ℕ → List ℕ → ℕ → ℕ
third_ways ts ls k = cond (ltb 2 k) (get_or ls 2 0 - (one_if (eqb (get_or ts 0 0) (get_or ts 2 0)) + one_if (eqb (get_or ts 1 0) (get_or ts 2 0)))) 1

abbrev pub fourth_ways : List ℕ → List ℕ → ℕ → ℕ
fourth_ways ts ls k =
    cond (ltb 3 k)
    (get_or ls 3 0 - (one_if (eqb (get_or ts 0 0) (get_or ts 3 0)) + one_if (eqb (get_or ts 1 0) (get_or ts 3 0))
    + one_if (eqb (get_or ts 2 0) (get_or ts 3 0)))) 1

unfoldable pub widths_of : List ℕ → List ℕ → ℕ → List ℕ
widths_of ts ls k =
    (second_ways ts ls k * (third_ways ts ls k * fourth_ways ts ls k))
    ∷ (third_ways ts ls k * fourth_ways ts ls k)
    ∷ fourth_ways ts ls k
    ∷ 1
    ∷ []

-- below a pick for each of the numbers wanted there are so many choices, where `count` says how many places a number has
pub record Widths (count : ℕ → ℕ) (ts ws : List ℕ) : Type 0 where
  pub below : (i : ℕ) → i < length ts → get_or ws i 0 ≡ ways count (take (suc i) ts) (drop (suc i) ts)

-- `left` has the places of each of the first k numbers; those of the first number do not matter
abbrev pub Lefts : (ℕ → ℕ) → List ℕ → List ℕ → ℕ → Type 0
Lefts count ts ls k = (j : ℕ) → 1 ≤ j → j < k → get_or ls j 0 ≡ count (get_or ts j 0)

module _ (count : ℕ → ℕ) (a b c d : ℕ) (ls : List ℕ) where
  abbrev ts : List ℕ
  ts = a ∷ b ∷ c ∷ d ∷ []

  two : count b - one_if (eqb a b) ≡ count b - times_in b (a ∷ [])
  unfolding times_in
  two = let e : one_if (eqb a b) ≡ one_if (eqb a b) + 0 = omega arith in ap (λ (x : ℕ). count b - x) e

  three : count c - (one_if (eqb a c) + one_if (eqb b c)) ≡ count c - times_in c (a ∷ b ∷ [])
  unfolding times_in
  three = let e : one_if (eqb a c) + one_if (eqb b c) ≡ one_if (eqb a c) + (one_if (eqb b c) + 0) = omega arith in ap (λ (x : ℕ). count c - x) e

  four : count d - (one_if (eqb a d) + one_if (eqb b d) + one_if (eqb c d)) ≡ count d - times_in d (a ∷ b ∷ c ∷ [])
  unfolding times_in
  four =
      let e : one_if (eqb a d) + one_if (eqb b d) + one_if (eqb c d) ≡ one_if (eqb a d) + (one_if (eqb b d) + (one_if (eqb c d) + 0)) = omega arith in
      ap (λ (x : ℕ). count d - x) e

  widths-four : (k : ℕ) → 1 ≤ k → k ≤ 4 → Lefts count ts ls k → Widths count (take k ts) (widths_of ts ls k)
  unfolding widths_of
  widths-four zero l u h = absurd (omega arith)
  widths-four (suc zero) l u h = record { below = below }
    where
      below : (i : ℕ) → i < 1 → get_or (1 ∷ 1 ∷ 1 ∷ 1 ∷ []) i 0 ≡ ways count (take (suc i) (a ∷ [])) (drop (suc i) (a ∷ []))
      below zero h = refl
      below (suc i) h = absurd (omega arith)
  widths-four (suc (suc zero)) l u h = record { below = below }
    where
      below : (i : ℕ) → i < 2 → get_or (widths_of ts ls 2) i 0 ≡ ways count (take (suc i) (a ∷ b ∷ [])) (drop (suc i) (a ∷ b ∷ []))
      below zero q = rw (h 1 (omega arith) (omega arith), two)
      below (suc zero) q = refl
      below (suc (suc i)) h = absurd (omega arith)
  widths-four (suc (suc (suc zero))) l u h = record { below = below }
    where
      below : (i : ℕ) → i < 3 → get_or (widths_of ts ls 3) i 0 ≡ ways count (take (suc i) (a ∷ b ∷ c ∷ [])) (drop (suc i) (a ∷ b ∷ c ∷ []))
      below zero q = rw (h 1 (omega arith) (omega arith), h 2 (omega arith) (omega arith), two, three)
      below (suc zero) q = rw (h 2 (omega arith) (omega arith), three)
      below (suc (suc zero)) q = refl
      below (suc (suc (suc i))) h = absurd (omega arith)
  widths-four (suc (suc (suc (suc zero)))) l u h = record { below = below }
    where
      below : (i : ℕ) → i < 4 → get_or (widths_of ts ls 4) i 0 ≡ ways count (take (suc i) (a ∷ b ∷ c ∷ d ∷ [])) (drop (suc i) (a ∷ b ∷ c ∷ d ∷ []))
      below zero q = rw (h 1 (omega arith) (omega arith), h 2 (omega arith) (omega arith), h 3 (omega arith) (omega arith), two, three, four, mul-one)
      below (suc zero) q = rw (h 2 (omega arith) (omega arith), h 3 (omega arith) (omega arith), three, four, mul-one)
      below (suc (suc zero)) q = rw (h 3 (omega arith) (omega arith), four, mul-one)
      below (suc (suc (suc zero))) q = refl
      below (suc (suc (suc (suc i)))) h = absurd (omega arith)
  widths-four (suc (suc (suc (suc (suc k))))) l u h = absurd (omega arith)

pub widths-are : (count : ℕ → ℕ) (ts ls : List ℕ) → length ts ≡ 4 → (k : ℕ) → 1 ≤ k → k ≤ 4 → Lefts count ts ls k
    → Widths count (take k ts) (widths_of ts ls k)
widths-are count [] ls h = absurd (omega arith)
widths-are count (a ∷ []) ls h = absurd (omega arith)
widths-are count (a ∷ b ∷ []) ls h = absurd (omega arith)
widths-are count (a ∷ b ∷ c ∷ []) ls h = absurd (omega arith)
widths-are count (a ∷ b ∷ c ∷ d ∷ []) ls h = widths-four count a b c d ls
widths-are count (a ∷ b ∷ c ∷ d ∷ e ∷ r) ls h = absurd (omega arith)

-- as the code puts them together
pub widths-as : (ts ls : List ℕ) (k x y z : ℕ) → x ≡ second_ways ts ls k → y ≡ third_ways ts ls k → z ≡ fourth_ways ts ls k
    → (x * (y * z)) ∷ (y * z) ∷ z ∷ 1 ∷ [] ≡ widths_of ts ls k
unfolding widths_of
widths-as ts ls k x y z e f g = rw (e, f, g)

-- the first is the largest, and is no more than three numbers have
pub widths-small : (ts ls : List ℕ) (k : ℕ) → ((j : ℕ) → get_or ls j 0 ≤ 1024) → get_or (widths_of ts ls k) 0 0 ≤ 1073741824
unfolding widths_of
widths-small ts ls k h = mul-le-mul (at (ltb 1 k) 1 _) (mul-le-mul (at (ltb 2 k) 2 _) (at (ltb 3 k) 3 _))
  where
    at : (b : Bool) (j d : ℕ) → cond b (get_or ls j 0 - d) 1 ≤ 1024
    at true j d = let x = h j in omega arith
    at false j d = omega arith
