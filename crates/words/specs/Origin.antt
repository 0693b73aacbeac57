-- An origin as one number: a place of the start is itself, below 1,024, and product k of the maker m is 16 (m + 63) + k. Two origins are the same
-- only as the same number.
use Rattle.std.specs.Prelude.{ℕ, suc, ◌+◌, ◌-◌, ◌*◌, ◌/◌, ◌%◌, ◌≤◌, ◌<◌, cond, ◌≡◌, ltb}
use Rattle.std.proofs.Common.{arith, lt-ltb, le-ltb, ltb-true, ltb-false}
use Rattle.lists.specs.Choices.{by_bool}
use Rattle.semantics.specs.State.{Origin}

-- moves are makers by their places in a log, counted from 1
abbrev pub Maker : ℕ → Type 0
Maker m = (1 ≤ m) × (m ≤ 1024)

unfoldable pub maker_in : ℕ → ℕ
maker_in o = o / 16 - 63

unfoldable pub index_in : ℕ → ℕ
index_in o = cond (ltb o 1024) o (o % 16)

abbrev pub origin_of : ℕ → Origin
origin_of o = record { maker = maker_in o; index = index_in o }

abbrev pub origin_word : ℕ → ℕ → ℕ
origin_word maker index = (maker + 63) * 16 + index

-- the first product of the move at place i: maker i + 1, index 0
abbrev pub first_product : ℕ → ℕ
first_product i = origin_word (i + 1) 0

pub origin-of-start : (i : ℕ) → i < 1024 → origin_of i ≡ record { maker = 0; index = i }
unfolding maker_in index_in
origin-of-start i h =
    let m : i / 16 - 63 ≡ 0 = omega arith in
    rw (lt-ltb i 1024 h, m)

product : (maker index : ℕ) → 1 ≤ maker → index < 16 → origin_of (origin_word maker index) ≡ record { maker = maker; index = index }
unfolding maker_in index_in
product maker index low few =
    let m : ((maker + 63) * 16 + index) / 16 - 63 ≡ maker = omega arith in
    let k : ((maker + 63) * 16 + index) % 16 ≡ index = omega arith in
    rw (le-ltb ((maker + 63) * 16 + index) 1024 (omega arith), m, k)

pub origin-of-product : (maker index : ℕ) → Maker maker → index < 16 → origin_of (origin_word maker index) ≡ record { maker = maker; index = index }
origin-of-product maker index m few = product maker index m.0 few

pub origin-of-first : (i : ℕ) → origin_of (first_product i) ≡ record { maker = suc i; index = 0 }
origin-of-first i =
    let e : i + 1 ≡ suc i = omega arith in
    rw (product (i + 1) 0 (omega arith) (omega arith), e)

-- a word tells maker and index, and they tell the word
pub origin-word : (a b : ℕ) → maker_in a ≡ maker_in b → index_in a ≡ index_in b → a ≡ b
unfolding maker_in index_in
origin-word a b m k =
    by_bool (ltb a 1024)
    (λ p. by_bool (ltb b 1024)
    (λ q. rw (p, q) at k)
    (λ q. let u = ltb-true a 1024 p in let v = ltb-false b 1024 q in absurd (omega arith)))
    (λ p. by_bool (ltb b 1024)
    (λ q. let u = ltb-false a 1024 p in let v = ltb-true b 1024 q in absurd (omega arith))
    (λ q. let u = ltb-false a 1024 p in let v = ltb-false b 1024 q in let r : a % 16 ≡ b % 16 = rw (p, q) at k in omega arith))
