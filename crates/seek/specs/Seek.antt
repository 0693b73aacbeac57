-- The next place in columns that has a message on a port, by owners.
use Rattle.std.specs.Prelude.{ℕ, ◌+◌, ◌/◌, ◌≤◌, ◌<◌, Bool, true, false, ◌&&◌, not, List, ◌≡◌, eqb, leb, get_or}
use Rattle.std.proofs.Common.{◌∙◌, arith, eqb-true, leb-true, leb-false}
use Rattle.std.proofs.lemmas.Bool.{eqb-false}
use Rattle.lists.specs.Choices.{by_bool}
use Rattle.idset.specs.IdSet.{has}

-- an owner between two, and a message on this port, which is below 256: the item of a message is its port and its value
abbrev pub may_fit : ℕ → ℕ → ℕ → ℕ → ℕ → Bool
may_fit low high port o w = leb low o && leb o high && eqb (w / 65536) port

-- .. and the owner is not in the set
abbrev pub fits_for : ℕ → ℕ → List ℕ → ℕ → ℕ → ℕ → Bool
fits_for low high stopped port o w = may_fit low high port o w && not (has stopped o)

-- the same of a place in columns
abbrev pub fits_at : List ℕ → List ℕ → ℕ → ℕ → List ℕ → ℕ → ℕ → Bool
fits_at os ws low high stopped port p = fits_for low high stopped port (get_or os p 0) (get_or ws p 0)

-- r is the first place from `from` on and below `end` where the test holds, or end if there is none
pub record NextFit (q : ℕ → Bool) (from end r : ℕ) : Type 0 where
  pub low : from ≤ r
  pub high : r ≤ end
  pub none : (j : ℕ) → from ≤ j → j < r → q j ≡ false
  pub here : r < end → q r ≡ true

-- another test that says the same of these places
pub next-same : {q s : ℕ → Bool} {from end r : ℕ} → ((p : ℕ) → p < end → s p ≡ q p) → NextFit q from end r → NextFit s from end r
next-same e m = record {
  low = m.low;
  high = m.high;
  none = λ j l u. e j (omega (arith, m.high)) ∙ m.none j l u;
  here = λ l. e _ l ∙ m.here l;
}

-- ---- a search that has passed some places, none of which fits

pub record Sought (q : ℕ → Bool) (from p : ℕ) : Type 0 where
  pub onward : from ≤ p
  pub none : (j : ℕ) → from ≤ j → j < p → q j ≡ false

pub sought-start : {q : ℕ → Bool} {from : ℕ} → Sought q from from
sought-start = record { onward = omega arith; none = λ j l u. absurd (omega arith) }

module _ {q : ℕ → Bool} {from p : ℕ} (h : Sought q from p) where
  pub sought-next : q p ≡ false → Sought q from (p + 1)
  sought-next n = record { onward = omega (arith, h.onward); none = none }
    where
      none : (j : ℕ) → from ≤ j → j < p + 1 → q j ≡ false
      none j l u = by_bool (eqb j p) (λ e. rw (eqb-true j p e) n) (λ e. let d = eqb-false j p e in h.none j l (omega arith))

  pub sought-found : {end : ℕ} → p ≤ end → q p ≡ true → NextFit q from end p
  sought-found l e = record { low = h.onward; high = l; none = h.none; here = λ _. e }

  -- all are passed
  pub sought-end : {end : ℕ} → p ≤ end → end ≤ p → NextFit q from end end
  sought-end k l = record {
    low = omega (arith, h.onward);
    high = omega arith;
    none = λ j a b. h.none j a (omega arith);
    here = λ u. absurd (omega arith);
  }

  module _ {end r : ℕ} (k : NextFit q p end r) where
    both : (j : ℕ) → from ≤ j → j < r → q j ≡ false
    both j l u = by_bool (leb p j) (λ e. k.none j (leb-true p j e) u) (λ e. let w = leb-false p j e in h.none j l (omega arith))

    -- the chunk has none
    pub sought-chunk : end ≤ r → Sought q from end
    sought-chunk l = record { onward = omega (arith, h.onward, k.low, k.high); none = λ j a b. both j a (omega (arith, k.high)) }

    -- the chunk has one
    pub sought-place : {n : ℕ} → end ≤ n → r < end → NextFit q from n r
    sought-place u l = record { low = omega (arith, h.onward, k.low); high = omega arith; none = both; here = λ _. k.here l }
