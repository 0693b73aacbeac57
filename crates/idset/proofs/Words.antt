-- The bits of a word after `|` and `^` with a power of two, and the set after a store of such a word.
use mathlib.Core.Path.{◌≡◌, refl, ap, ◌∙◌}
use mathlib.Core.Bool.{Bool, true, false, ◌&&◌, ◌||◌, not, cond, or_comm}
use mathlib.Core.List.{List}
use Prim.Native.Nat.{ℕ, zero, suc, ◌*◌, ◌/◌, ◌%◌, ◌^◌, ◌<◌}
use native.Mathlib.Nat.{zero-lt-suc, one-mul, div-eq_of_lt, div-one, mul-mod_left, mul-div-mul_right, pow-suc}
use native.Mathlib.Omega.{arith}
use lib.ListN.{length, get_or, set, length-set}
use lib.Seq.{get_or-set_same, get_or-set_other}
use lib.Dec.{eqb, eqb-zero-suc, eqb-suc-zero, eqb-suc-suc}
use lib.Pow.{pow-lt, shl_exact}
use lib.Bits.{bit_or, or_shr, or_mod, bit_xor, xor_shr, xor_mod}
use borrow.Author.Tests.{eqb-true, eqb-false, eq-eqb, ne_eqb}
use Rattle.idset.specs.IdSet.{bit, has, Inserted, Removed}

-- Of 2 ^ k just bit k is set: what the code's shifted 1 adds to a word.
bit-pow : (k j : ℕ) → bit (2 ^ k) j ≡ eqb j k
bit-pow zero zero = refl
bit-pow zero (suc j) = rw (div-eq_of_lt (pow-lt {i = zero} {j = suc j} (zero-lt-suc j)), eqb-suc-zero)
bit-pow (suc k) zero = rw (div-one, pow-suc, mul-mod_left, eqb-zero-suc k)
bit-pow (suc k) (suc j) = rw (pow-suc 2 k, pow-suc 2 j, mul-div-mul_right (2 ^ k) (2 ^ j) (zero-lt-suc 1), eqb-suc-suc) (bit-pow k j)

-- `|` on single digits, by cases: all that `bit-or` leaves.
or-digit : (x y : ℕ) → x < 2 → y < 2 → eqb (bit_or x y) 1 ≡ (eqb x 1 || eqb y 1)
or-digit zero y p q = refl
or-digit (suc zero) zero p q = refl
or-digit (suc zero) (suc zero) p q = refl
or-digit (suc zero) (suc (suc y)) p q = absurd (omega arith)
or-digit (suc (suc x)) y p q = absurd (omega arith)

-- `|` works on each bit apart, so the other members of the word stay.
bit-or : (a b k : ℕ) → bit (bit_or a b) k ≡ (bit a k || bit b k)
bit-or a b k = rw (or_shr, or_mod (a / 2 ^ k) (b / 2 ^ k) 1) (or-digit (a / 2 ^ k % 2) (b / 2 ^ k % 2) (omega arith) (omega arith))

-- the same of `^`, which turns a bit where the other word has one
xor-digit : (x y : ℕ) → x < 2 → y < 2 → eqb (bit_xor x y) 1 ≡ cond (eqb y 1) (not (eqb x 1)) (eqb x 1)
xor-digit zero zero p q = refl
xor-digit zero (suc zero) p q = refl
xor-digit zero (suc (suc y)) p q = absurd (omega arith)
xor-digit (suc zero) zero p q = refl
xor-digit (suc zero) (suc zero) p q = refl
xor-digit (suc zero) (suc (suc y)) p q = absurd (omega arith)
xor-digit (suc (suc x)) y p q = absurd (omega arith)

bit-xor : (a b k : ℕ) → bit (bit_xor a b) k ≡ cond (bit b k) (not (bit a k)) (bit a k)
bit-xor a b k = rw (xor_shr, xor_mod (a / 2 ^ k) (b / 2 ^ k) 1) (xor-digit (a / 2 ^ k % 2) (b / 2 ^ k % 2) (omega arith) (omega arith))

-- In one word two numbers are equal where their bits are, so the bit test is a test of the number.
same_place : (u v : ℕ) → u / 64 ≡ v / 64 → eqb (u % 64) (v % 64) ≡ eqb u v
same_place u v e = go (eqb u v) refl
  where
    go : (t : Bool) → eqb u v ≡ t → eqb (u % 64) (v % 64) ≡ t
    go true q = eq-eqb (u % 64) (v % 64) (ap (λ (x : ℕ). x % 64) (eqb-true u v q))
    go false q = ne_eqb (u % 64) (v % 64) (λ d. eqb-false u v q (omega arith))

module _ (ws : List ℕ) (v : ℕ) (small : v < 65536) (sized : length ws ≡ 1024) where
  -- What the code stores, in the code's own shape.
  abbrev word : ℕ
  word = bit_or (get_or ws (v / 64) 0) (1 * 2 ^ (v % 64) % 2 ^ 64)

  -- Its bits, in the order of the contract; the shift loses nothing.
  word-bit : (k : ℕ) → bit word k ≡ (eqb k (v % 64) || bit (get_or ws (v / 64) 0) k)
  word-bit k = rw (bit-or, shl_exact {a = 1} 1 (v % 64) 64 (omega arith) (omega arith), one-mul, bit-pow)
      (or_comm (bit (get_or ws (v / 64) 0) k) (eqb k (v % 64)))

  -- One number after the store: in v's word its bit decides, any other word is as it was.
  has-stored : (u : ℕ) (t : Bool) → eqb (u / 64) (v / 64) ≡ t → has (set ws (v / 64) word) u ≡ (eqb u v || has ws u)
  unfolding has
  has-stored u true q =
      let e = eqb-true (u / 64) (v / 64) q in
      let inside : v / 64 < length ws = omega arith in
      rw (e, get_or-set_same ws (v / 64) word 0 inside, word-bit, same_place u v e)
  has-stored u false q =
      let apart = eqb-false (u / 64) (v / 64) q in
      rw (get_or-set_other ws (v / 64) (u / 64) word 0 apart, ne_eqb u v (λ d. apart (ap (λ (x : ℕ). x / 64) d)))

  -- The store inserts v: what `insert` returns with.
  pub store-inserts : Inserted v ws (set ws (v / 64) word)
  store-inserts = record { size = length-set ws (v / 64) word ∙ sized; holds = λ u. has-stored u (eqb (u / 64) (v / 64)) refl }

  -- .. and where it is taken out
  abbrev turned : ℕ
  turned = bit_xor (get_or ws (v / 64) 0) (1 * 2 ^ (v % 64) % 2 ^ 64)

  turned_bit : (k : ℕ) → bit turned k ≡ cond (eqb k (v % 64)) (not (bit (get_or ws (v / 64) 0) k)) (bit (get_or ws (v / 64) 0) k)
  turned_bit k = rw (bit-xor, shl_exact {a = 1} 1 (v % 64) 64 (omega arith) (omega arith), one-mul, bit-pow)

  has-turned : has ws v ≡ true → (u : ℕ) (t : Bool) → eqb (u / 64) (v / 64) ≡ t → has (set ws (v / 64) turned) u ≡ (not (eqb u v) && has ws u)
  unfolding has
  has-turned there u true q =
      let e = eqb-true (u / 64) (v / 64) q in
      let inside : v / 64 < length ws = omega arith in
      rw (e, get_or-set_same ws (v / 64) turned 0 inside, turned_bit, same_place u v e) (go (eqb u v) refl)
    where
      go : (b : Bool) → eqb u v ≡ b → cond b (not (bit (get_or ws (v / 64) 0) (u % 64))) (bit (get_or ws (v / 64) 0) (u % 64))
          ≡ (not b && bit (get_or ws (v / 64) 0) (u % 64))
      go true b = rw (eqb-true u v b, there)
      go false b = refl
  has-turned there u false q =
      let apart = eqb-false (u / 64) (v / 64) q in
      rw (get_or-set_other ws (v / 64) (u / 64) turned 0 apart, ne_eqb u v (λ d. apart (ap (λ (x : ℕ). x / 64) d)))

  pub store-removes : has ws v ≡ true → Removed v ws (set ws (v / 64) turned)
  store-removes there = record { size = length-set ws (v / 64) turned ∙ sized; holds = λ u. has-turned there u (eqb (u / 64) (v / 64)) refl }
