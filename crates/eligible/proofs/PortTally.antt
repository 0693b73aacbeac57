-- The loop that counts by port.
use Prim.Native.Nat.{ℕ, ◌+◌, min, ◌≤◌, ◌<◌}
use native.Mathlib.Nat.{min-le_right}
use mathlib.Core.Bool.{true, false}
use mathlib.Core.Path.{◌≡◌, sym, ◌∙◌}
use mathlib.Core.List.{List}
use native.Mathlib.Omega.{arith}
use borrow.Author.Tests.{eqb-true, eqb-false}
use lib.Dec.{eqb}
use lib.ListN.{length, get_or, take, set, length-set}
use lib.Seq.{get_or-set_same, get_or-set_other, take_all}
use Rattle.lists.specs.Choices.{by_bool}
use Rattle.lists.specs.Keys.{times_in, times_none, times-same, times-other}
use Rattle.eligible.specs.Ports.{PortCounts}

-- the first i keys are counted, and no place has more than i
pub record PortTally (ks : List ℕ) (i : ℕ) (counts : List ℕ) : Type 0 where
  pub within : i ≤ length ks
  pub few : (t : ℕ) → get_or counts t 0 ≤ i
  pub counted : PortCounts (take i ks) counts

pub tally-start : (ks counts : List ℕ) → length counts ≡ 512 → ((t : ℕ) → get_or counts t 0 ≡ 0) → PortTally ks 0 counts
tally-start ks counts h z = record {
  within = omega arith;
  few = λ t. omega (arith, z t);
  counted = record { size = h; each = λ t l. z t ∙ sym (times_none t) };
}

pub tally-done : {ks : List ℕ} {i : ℕ} {counts : List ℕ} → PortTally ks i counts → length ks ≤ i → PortCounts ks counts
tally-done {ks} {i} h l = rw (take_all i ks l) at h.counted

-- one key more, counted at its bin
pub tally-next : {ks : List ℕ} {i : ℕ} {counts : List ℕ} → PortTally ks i counts → i < length ks → {key bin : ℕ} → get_or ks i 0 ≡ key
    → bin ≡ min key 511 → PortTally ks (i + 1) (set counts bin (get_or counts bin 0 + 1))
tally-next {ks} {i} {counts} h low {key} {bin} is e = record {
  within = omega arith;
  few = few;
  counted = record { size = length-set counts bin _ ∙ h.counted.size; each = each };
}
  where
    inside : bin < length counts
    inside = omega (arith, h.counted.size, min-le_right key 511)

    few : (t : ℕ) → get_or (set counts bin (get_or counts bin 0 + 1)) t 0 ≤ i + 1
    few t = by_bool (eqb t bin)
        (λ q. rw (eqb-true t bin q, get_or-set_same counts bin (get_or counts bin 0 + 1) 0 inside) (omega (arith, h.few bin)))
        (λ q. rw (get_or-set_other counts bin t (get_or counts bin 0 + 1) 0 (eqb-false t bin q)) (omega (arith, h.few t)))

    each : (t : ℕ) → t < 511 → get_or (set counts bin (get_or counts bin 0 + 1)) t 0 ≡ times_in t (take (i + 1) ks)
    each t l = by_bool (eqb t bin) here other
      where
        here : eqb t bin ≡ true → get_or (set counts bin (get_or counts bin 0 + 1)) t 0 ≡ times_in t (take (i + 1) ks)
        here q =
            let r = eqb-true t bin q in
            let k : get_or ks i 0 ≡ t = omega arith in
            let in' : t < length counts = omega (arith, h.counted.size) in
            let s : get_or (set counts bin (get_or counts bin 0 + 1)) t 0 ≡ get_or counts t 0 + 1 =
            rw (← r) (get_or-set_same counts t (get_or counts t 0 + 1) 0 in') in
            omega (arith, s, h.counted.each t l, times-same t i ks low k)

        other : eqb t bin ≡ false → get_or (set counts bin (get_or counts bin 0 + 1)) t 0 ≡ times_in t (take (i + 1) ks)
        other q =
            let n = eqb-false t bin q in
            get_or-set_other counts bin t (get_or counts bin 0 + 1) 0 n
            ∙ h.counted.each t l ∙ sym (times-other t i ks low (λ r. n (omega arith)))
