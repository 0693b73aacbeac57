-- A search that has passed some places, none of which has the key.
use Prim.Native.Nat.{ℕ, min, ◌+◌, ◌≤◌, ◌<◌}
use mathlib.Core.Path.{◌≡◌}
use mathlib.Core.List.{List}
use native.Mathlib.Omega.{arith}
use borrow.Author.Tests.{eqb-true, eqb-false, leb-true, leb-false}
use lib.Dec.{eqb, leb}
use lib.ListN.{get_or}
use Rattle.lists.specs.Choices.{by_bool}
use Rattle.choices.specs.Next.{NextKey}

pub record PassedOver (ks : List ℕ) (t from p : ℕ) : Type 0 where
  pub onward : from ≤ p
  pub none : (j : ℕ) → from ≤ j → j < p → get_or ks j 0 ≡ t → ⊥

pub passed_start : {ks : List ℕ} {t from : ℕ} → PassedOver ks t from from
passed_start = record { onward = omega arith; none = λ j l u e. absurd (omega arith) }

module _ {ks : List ℕ} {t from p : ℕ} (h : PassedOver ks t from p) where
  pub passed-next : (get_or ks p 0 ≡ t → ⊥) → PassedOver ks t from (p + 1)
  passed-next n = record { onward = omega (arith, h.onward); none = none }
    where
      none : (j : ℕ) → from ≤ j → j < p + 1 → get_or ks j 0 ≡ t → ⊥
      none j l u e = by_bool (eqb j p) (λ q. let r = eqb-true j p q in n (rw (← r) e)) (λ q. let r = eqb-false j p q in h.none j l (omega arith) e)

  pub passed-found : {end : ℕ} → p ≤ end → get_or ks p 0 ≡ t → NextKey ks t from end p
  passed-found l e = record { low = h.onward; high = l; none = h.none; here = λ _. e }

  -- all are passed
  pub passed-past : {end : ℕ} → from ≤ end → end ≤ p → NextKey ks t from end end
  passed-past k l = record { low = k; high = omega arith; none = λ j a b. h.none j a (omega arith); here = λ u. absurd (omega arith) }

  pub passed-end : {end : ℕ} → p ≤ end → end ≤ p → NextKey ks t from end end
  passed-end k l = passed-past (omega (arith, h.onward)) l

  module _ {end r : ℕ} (k : NextKey ks t p end r) where
    both : (j : ℕ) → from ≤ j → j < r → get_or ks j 0 ≡ t → ⊥
    both j l u e = by_bool (leb p j) (λ q. k.none j (leb-true p j q) u e) (λ q. let w = leb-false p j q in h.none j l (omega arith) e)

    -- the chunk has none
    pub passed-chunk : end ≤ r → PassedOver ks t from end
    passed-chunk l = record { onward = omega (arith, h.onward, k.low, k.high); none = λ j a b. both j a (omega (arith, k.high)) }

    -- the chunk has one, which may stand behind the last place
    pub passed-place : {n x : ℕ} → r < end → p < n → x ≡ min r n → NextKey ks t from n x
    passed-place {n} {x} l u e = record {
      low = omega (arith, h.onward, k.low);
      high = omega arith;
      none = λ j a b. both j a (omega arith);
      here = λ w. let s : x ≡ r = omega arith in rw s (k.here l);
    }
