-- Four ports: how often one is among the first of them, and four wants in a word.
use Prim.Native.Nat.{ℕ, zero, suc, ◌+◌, ◌*◌, ◌/◌, ◌%◌, ◌≤◌, ◌<◌}
use mathlib.Core.Bool.{◌&&◌}
use mathlib.Core.List.{List, [], ◌∷◌}
use mathlib.Core.Path.{◌≡◌, refl, ap}
use native.Mathlib.Omega.{arith}
use lib.Dec.{eqb, ltb}
use lib.ListN.{length, get_or, take}
use Rattle.lists.specs.Lists.{one_if}
use Rattle.lists.specs.Keys.{times_in}
use Rattle.wants.specs.Wants.{WantedBy, WantedWord}

pub times-four : (ts : List ℕ) → length ts ≡ 4 → (k : ℕ) → k ≤ 4 → (p : ℕ)
    → one_if (ltb 0 k && eqb (get_or ts 0 0) p) + (one_if (ltb 1 k && eqb (get_or ts 1 0) p)
    + (one_if (ltb 2 k && eqb (get_or ts 2 0) p) + one_if (ltb 3 k && eqb (get_or ts 3 0) p))) ≡ times_in p (take k ts)
unfolding times_in
times-four [] h k l p = absurd (omega arith)
times-four (a ∷ []) h k l p = absurd (omega arith)
times-four (a ∷ b ∷ []) h k l p = absurd (omega arith)
times-four (a ∷ b ∷ c ∷ []) h k l p = absurd (omega arith)
times-four (a ∷ b ∷ c ∷ d ∷ []) h zero l p = refl
times-four (a ∷ b ∷ c ∷ d ∷ []) h (suc zero) l p = refl
times-four (a ∷ b ∷ c ∷ d ∷ []) h (suc (suc zero)) l p = refl
times-four (a ∷ b ∷ c ∷ d ∷ []) h (suc (suc (suc zero))) l p = refl
times-four (a ∷ b ∷ c ∷ d ∷ []) h (suc (suc (suc (suc zero)))) l p =
    let e : one_if (eqb d p) ≡ one_if (eqb d p) + 0 = omega arith in
    ap (λ (n : ℕ). one_if (eqb a p) + (one_if (eqb b p) + (one_if (eqb c p) + n))) e
times-four (a ∷ b ∷ c ∷ d ∷ []) h (suc (suc (suc (suc (suc k))))) l p = absurd (omega arith)
times-four (a ∷ b ∷ c ∷ d ∷ e ∷ r) h k l p = absurd (omega arith)

-- a port with the number of times that it is there
wanted : (ts : List ℕ) (p w : ℕ) → p < 256 → w ≡ times_in p ts * 512 + p → WantedBy ts w
wanted ts p w l e =
    let q : w % 512 ≡ p = omega arith in
    let d : w / 512 ≡ times_in p ts = omega arith in
    rw (q, d) (l, omega arith)

-- what is below 65,536, and what is above it
parts : (a y : ℕ) → a < 65536 → ((a + 65536 * y) % 65536 ≡ a) × ((a + 65536 * y) / 65536 ≡ y)
parts a y l = (omega arith, omega arith)

pub wanted-word : (ts : List ℕ) (p q r s a b c d : ℕ) → p < 256 → q < 256 → r < 256 → s < 256
    → (a ≡ times_in p ts * 512 + p) × (a < 65536) → (b ≡ times_in q ts * 512 + q) × (b < 65536)
    → (c ≡ times_in r ts * 512 + r) × (c < 65536) → (d ≡ times_in s ts * 512 + s) × (d < 65536)
    → WantedWord ts (a + 65536 * (b + 65536 * (c + 65536 * d)))
wanted-word ts p q r s a b c d lp lq lr ls (ea, la) (eb, lb) (ec, lc) (ed, ld) =
    let z = c + 65536 * d in
    let y = b + 65536 * z in
    let (first, behind) = parts a y la in
    let (second, last) = parts b z lb in
    let (third, rest) = parts c d lc in
    let fourth : d % 65536 ≡ d = omega arith in
    record {
      first = rw first (wanted ts p a lp ea);
      second = rw (behind, second) (wanted ts q b lq eb);
      third = rw (behind, last, third) (wanted ts r c lr ec);
      fourth = rw (behind, last, rest, fourth) (wanted ts s d ls ed);
    }
