-- The zeros at the low end of a word, and the numbers that they leave out.
use mathlib.Core.Path.{◌≡◌, refl, ◌∙◌}
use mathlib.Core.Bool.{true, false}
use mathlib.Core.List.{List}
use Prim.Native.Nat.{ℕ, zero, suc, ◌+◌, ◌-◌, ◌*◌, ◌/◌, ◌%◌, ◌^◌, ◌<◌, min}
use native.Mathlib.Nat.{div-one}
use native.Mathlib.Omega.{arith}
use lib.Count.{count_trailing_zeros, under, trailing_le}
use lib.ListN.{get_or}
use lib.Pow.{shr-shr}
use Rattle.idset.specs.IdSet.{bit, has, Behind}

-- No bit among the low zeros is set.
low_clear : (n x j : ℕ) → j < count_trailing_zeros n x → bit x j ≡ false
unfolding count_trailing_zeros
low_clear zero x j h = absurd (omega arith)
low_clear (suc n) x j h = go (low_clear n (x / 2)) (x % 2) j refl h
  where
    go : ((i : ℕ) → i < count_trailing_zeros n (x / 2) → bit (x / 2) i ≡ false) → (d i : ℕ) → x % 2 ≡ d → i < under d (count_trailing_zeros n (x / 2))
        → bit x i ≡ false
    go higher zero zero e l = rw (div-one, e)
    go higher zero (suc i) e l =
        let s : suc i ≡ 1 + i = omega arith in
        rw (s, ← shr-shr x 1 i) (higher i (omega arith))
    go higher (suc d) i e l = absurd (omega arith)

-- The bit behind them is, where there is one.
low-set : (n x : ℕ) → count_trailing_zeros n x < n → bit x (count_trailing_zeros n x) ≡ true
unfolding count_trailing_zeros
low-set zero x h = absurd (omega arith)
low-set (suc n) x h = go (low-set n (x / 2)) (x % 2) refl h
  where
    go : (count_trailing_zeros n (x / 2) < n → bit (x / 2) (count_trailing_zeros n (x / 2)) ≡ true) → (d : ℕ) → x % 2 ≡ d
        → under d (count_trailing_zeros n (x / 2)) < suc n
        → bit x (under d (count_trailing_zeros n (x / 2))) ≡ true
    go higher zero e l =
        let s : suc (count_trailing_zeros n (x / 2)) ≡ 1 + count_trailing_zeros n (x / 2) = omega arith in
        rw (s, ← shr-shr x 1 (count_trailing_zeros n (x / 2))) (higher (omega arith))
    go higher (suc d) e l = let one : x % 2 ≡ 1 = omega arith in rw (div-one, one)

-- The code's sum of a number and such zeros does not wrap.
pub zeros-fit : (v n : ℕ) → v < 65536 → v + 1 + count_trailing_zeros 64 n < 2 ^ 32
zeros-fit v n h = omega (arith, trailing_le 64 n)

module _ (ws : List ℕ) (v end : ℕ) where
  -- The bits of v's word above v's, as the code reads them.
  abbrev above : ℕ
  above = get_or ws (v / 64) 0 / 2 ^ (v % 64) / 2

  -- A number behind v, in v's word, is in the set if its bit above v is set.
  there : (u : ℕ) → v < u → u < (v / 64 + 1) * 64 → has ws u ≡ bit above (u - v - 1)
  unfolding has
  there u l w =
      let word : u / 64 ≡ v / 64 = omega arith in
      let place : u % 64 ≡ v % 64 + (1 + (u - v - 1)) = omega arith in
      rw (word, place, ← shr-shr (get_or ws (v / 64) 0) (v % 64) (1 + (u - v - 1)), ← shr-shr (get_or ws (v / 64) 0 / 2 ^ (v % 64)) 1 (u - v - 1))

  pub zeros-skipped : {a r : ℕ} → v < end → a ≡ min (v + 1 + count_trailing_zeros 64 above) ((v / 64 + 1) * 64) → r ≡ min a end → Behind ws v end r
  zeros-skipped {a} {r} h e f = record {
    onward = omega arith;
    within = omega arith;
    in-word = omega arith;
    none = λ u l m. there u l (omega arith) ∙ low_clear 64 above (u - v - 1) (omega arith);
    member = found;
  }
    where
      found : r < end → r < (v / 64 + 1) * 64 → has ws r ≡ true
      found l w =
          let z : r - v - 1 ≡ count_trailing_zeros 64 above = omega arith in
          let few : count_trailing_zeros 64 above < 64 = omega arith in
          there r (omega arith) w ∙ rw z (low-set 64 above few)
