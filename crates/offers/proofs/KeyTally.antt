-- A loop that counts keys by port.
use Prim.Native.Nat.{ℕ, ◌+◌, ◌%◌, ◌≤◌, ◌<◌}
use mathlib.Core.List.{List, [], ◌∷◌}
use mathlib.Core.Path.{◌≡◌, refl, ap, ◌∙◌}
use native.Mathlib.Omega.{arith}
use borrow.Author.Tests.{eqb-true, eqb-false}
use lib.Dec.{eqb}
use lib.ListN.{length, get_or, set, length-set}
use lib.Seq.{get_or-set_same, get_or-set_other}
use Rattle.lists.specs.Lists.{one_if, count_if}
use Rattle.lists.specs.Counting.{count-le}
use Rattle.lists.specs.Choices.{by_bool}
use Rattle.lists.specs.Filled.{Filled}
use Rattle.lists.specs.Rows.{rows, rows_none}
use Rattle.lists.specs.Counts.{CountedTo, counted-from, counted-turn, counted-done}
use Rattle.offers.specs.Offers.{KeyTotals}

-- the keys before place i are counted, each at its port
pub record KeyTally (key : ℕ → ℕ) (n i : ℕ) (totals : List ℕ) : Type 0 where
  pub size : length totals ≡ 512
  pub each : (t : ℕ) → t < 512 → CountedTo (λ k. eqb (k % 512) t) key n i (get_or totals t 0) (count_if (λ k. eqb (k % 512) t) (rows key 0 n))

pub port-start : (key : ℕ → ℕ) (n : ℕ) {totals : List ℕ} → Filled 0 (λ p. 0) 512 512 totals → KeyTally key n 0 totals
port-start key n zero = record {
  size = zero.size;
  each = λ t l. rw (zero.each t l) (counted-from (λ k. eqb (k % 512) t) key n 0 0 (omega arith) (ap (count_if (λ k. eqb (k % 512) t)) (rows_none key 0)));
}

module _ {key : ℕ → ℕ} {n i : ℕ} {totals : List ℕ} (h : KeyTally key n i totals) where
  -- no more are counted than there are places
  pub port-few : n ≤ 1024 → (k : ℕ) → get_or totals (k % 512) 0 < 65535
  port-few few k =
      let l : k % 512 < 512 = omega arith in
      omega (arith, (h.each (k % 512) l).few, (h.each (k % 512) l).within)

  one_more : (port t : ℕ) → port < 512 → get_or (set totals port (get_or totals port 0 + 1)) t 0 ≡ get_or totals t 0 + one_if (eqb port t)
  one_more port t l = by_bool (eqb port t)
      (λ q. rw (q, ← eqb-true port t q) (get_or-set_same totals port (get_or totals port 0 + 1) 0 (omega (arith, h.size))))
      (λ q. rw q (get_or-set_other totals port t (get_or totals port 0 + 1) 0 (λ e. eqb-false port t q (omega arith)) ∙ omega arith))

  pub port-next : i < n → {k : ℕ} {totals' : List ℕ} → k ≡ key i → totals' ≡ set totals (k % 512) (get_or totals (k % 512) 0 + 1)
      → KeyTally key n (i + 1) totals'
  port-next l {k} e f = rw f (record {
    size = length-set totals (k % 512) _ ∙ h.size;
    each = λ t b. rw (one_more (k % 512) t (omega arith))
        (counted-turn (λ k. eqb (k % 512) t) (h.each t b) l (ap (λ (x : ℕ). one_if (eqb (x % 512) t)) e)
        (omega (arith, count-le (λ x. eqb (x % 512) t) (k ∷ []))) key (λ k a. refl));
  })

  pub port-done : n ≤ i → KeyTotals (rows key 0 n) totals
  port-done l = record { size = h.size; each = λ t b. counted-done (λ k. eqb (k % 512) t) (h.each t b) l }
