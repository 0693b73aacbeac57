-- A set of numbers below 65,536 as a list of 1024 words of 64 bits: what it holds, and what an insertion and a removal do.
use Rattle.std.specs.Prelude.{◌≡◌, refl, Bool, true, false, ◌&&◌, ◌||◌, not, List, ℕ, zero, suc, ◌+◌, ◌*◌, ◌/◌, ◌%◌, ◌^◌, ◌≤◌, ◌<◌, length, get_or, replicate, eqb}
use Rattle.std.proofs.Math.Nat.{zero-div}
use Rattle.std.proofs.Common.{arith}
use Rattle.std.proofs.Math.ListN.{get_or-eq_default}

-- Bit k of the number w is set: the one place where a word is read as bits.
abbrev pub bit : ℕ → ℕ → Bool
bit w k = eqb (w / 2 ^ k % 2) 1

-- v is in the set. Shut by default, so that a caller's goals name it and not its bits.
unfoldable pub has : List ℕ → ℕ → Bool
has ws v = bit (get_or ws (v / 64) 0) (v % 64)

-- `after` holds v and what `before` holds, at every number u, and can be lent again.
pub record Inserted (v : ℕ) (before after : List ℕ) : Type 0 where
  pub size : length after ≡ 1024
  pub holds : (u : ℕ) → has after u ≡ (eqb u v || has before u)

-- `after` holds what `before` holds, but for v
pub record Removed (v : ℕ) (before after : List ℕ) : Type 0 where
  pub size : length after ≡ 1024
  pub holds : (u : ℕ) → has after u ≡ (not (eqb u v) && has before u)

-- v is put in where b holds; else `after` holds what `before` holds
pub record InsertedIf (b : Bool) (v : ℕ) (before after : List ℕ) : Type 0 where
  pub size : length after ≡ 1024
  pub holds : (u : ℕ) → has after u ≡ (b && eqb u v || has before u)

-- r is the least of these: the next member behind v, the first number of the next word, and end.
pub record Behind (ws : List ℕ) (v end r : ℕ) : Type 0 where
  pub onward : v < r
  pub within : r ≤ end
  pub in-word : r ≤ (v / 64 + 1) * 64
  pub none : (u : ℕ) → v < u → u < r → has ws u ≡ false
  pub member : r < end → r < (v / 64 + 1) * 64 → has ws r ≡ true

-- a set that can be lent and holds nothing
pub record EmptySet (ws : List ℕ) : Type 0 where
  pub size : length ws ≡ 1024
  pub none : (u : ℕ) → has ws u ≡ false

-- Zeros read as zero past their end too, so that `empty` needs no bound.
zeros : (n i : ℕ) → get_or (replicate n zero) i zero ≡ zero
zeros zero i = refl
zeros (suc n) zero = refl
zeros (suc n) (suc i) = zeros n i

-- `[0; 1024]` is the empty set: where a caller starts.
pub empty : (u : ℕ) → has (replicate 1024 0) u ≡ false
unfolding has
empty u = rw (zeros 1024 (u / 64), zero-div)

pub zeros-empty : EmptySet (replicate 1024 0)
zeros-empty = record { size = refl; none = empty }

-- No number from 65,536 on is in a set.
pub beyond : (ws : List ℕ) (u : ℕ) → length ws ≡ 1024 → 65536 ≤ u → has ws u ≡ false
unfolding has
beyond ws u size large =
    let past : length ws ≤ u / 64 = omega arith in
    rw (get_or-eq_default ws 0 past, zero-div)
