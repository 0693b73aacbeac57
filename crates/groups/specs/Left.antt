-- The numbers of one group, taken out of its word.
use Rattle.std.specs.Prelude.{ℕ, zero, suc, ◌+◌, ◌*◌, ◌/◌, ◌%◌, ◌≤◌, ◌<◌, ◌≡◌, List, get_or}
use Rattle.std.proofs.Common.{arith}
use Rattle.lists.specs.Keys.{times_in, times-le}
use Rattle.groups.specs.Groups.{Sized, Grouped, on_first, left_in}

module _ {ks : List ℕ} {a b c d : ℕ} {counts : List ℕ} (h : Grouped ks a b c d counts) where
  times-few : (u : ℕ) → times_in u ks ≤ 1024
  times-few u = omega (arith, times-le u ks, h.few)

  module _ (g : ℕ) (low : g < 1024) where
    abbrev x : ℕ
    x = times_in (g * 512 + b) ks

    abbrev y : ℕ
    y = times_in (g * 512 + c) ks

    abbrev z : ℕ
    z = times_in (g * 512 + d) ks

    few-each : (x ≤ 1024) × (y ≤ 1024) × (z ≤ 1024) × (times_in (g * 512 + a) ks ≤ 1024)
    few-each = (times-few (g * 512 + b), times-few (g * 512 + c), times-few (g * 512 + d), times-few (g * 512 + a))

    pub first-left : on_first counts g ≡ times_in (g * 512 + a) ks
    first-left = omega (arith, h.each g low, few-each)

    pub second-left : get_or counts g 0 % 1048576 ≡ x
    second-left = omega (arith, h.each g low, few-each)

    pub third-left : get_or counts g 0 / 1048576 % 1048576 ≡ y
    third-left = omega (arith, h.each g low, few-each)

    pub fourth-left : get_or counts g 0 / 1099511627776 % 4096 ≡ z
    fourth-left = omega (arith, h.each g low, few-each)

    left-few : (j : ℕ) → get_or (left_in counts g) j 0 ≤ 1024
    left-few zero = omega arith
    left-few (suc zero) = rw second-left (times-few (g * 512 + b))
    left-few (suc (suc zero)) = rw third-left (times-few (g * 512 + c))
    left-few (suc (suc (suc zero))) = rw fourth-left (times-few (g * 512 + d))
    left-few (suc (suc (suc (suc j)))) = omega arith

  pub grouped-sized : Sized counts
  grouped-sized = record { size = h.size; few = left-few; firsts = λ g l. rw (first-left g l) (times-few (g * 512 + a)) }
