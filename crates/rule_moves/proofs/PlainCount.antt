-- A rule without groups: how many choices it has.
use Prim.Native.Nat.{ℕ, zero, suc, ◌*◌, ◌-◌, ◌≤◌, ◌<◌}
use mathlib.Core.Path.{◌≡◌, sym, ap, ◌∙◌}
use mathlib.Core.List.{List, [], ◌∷◌}
use native.Mathlib.Nat.{sub-zero, mul-le-mul}
use native.Mathlib.Omega.{arith}
use lib.ListN.{length, get_or, take, drop}
use lib.Seq.{length-take-le}
use Rattle.lists.specs.Keys.{times_in, times_none, times-le}
use Rattle.lists.specs.Choosing.{choices_from}
use Rattle.lists.specs.Ways.{ways, used-none, choices-ways}
use Rattle.choices.specs.Widths.{widths_of, Widths, widths-are, widths-small}
use Rattle.eligible.specs.Ports.{PortCounts}
use Rattle.rule_moves.specs.Takes.{SmallPorts, counts_at}

module _ (ks counts takes : List ℕ) (few : length ks ≤ 1024) (h : PortCounts ks counts) (small : SmallPorts takes) where
  pub counts-few : (t : ℕ) → t < 511 → get_or counts t 0 ≤ 1024
  counts-few t l = omega (arith, h.each t l, times-le t ks)

  at : (j : ℕ) → get_or counts (get_or takes j 0) 0 ≤ 1024
  at j = let s = small j in counts-few (get_or takes j 0) (omega arith)

  pub left-few : (j : ℕ) → get_or (counts_at counts takes) j 0 ≤ 1024
  left-few zero = at 0
  left-few (suc zero) = at 1
  left-few (suc (suc zero)) = at 2
  left-few (suc (suc (suc zero))) = at 3
  left-few (suc (suc (suc (suc j)))) = omega arith

  is : (j : ℕ) → get_or counts (get_or takes j 0) 0 ≡ times_in (get_or takes j 0) ks
  is j = let s = small j in h.each (get_or takes j 0) (omega arith)

  left_is : (j : ℕ) → j < 4 → get_or (counts_at counts takes) j 0 ≡ times_in (get_or takes j 0) ks
  left_is zero l = is 0
  left_is (suc zero) l = is 1
  left_is (suc (suc zero)) l = is 2
  left_is (suc (suc (suc zero))) l = is 3
  left_is (suc (suc (suc (suc j)))) l = absurd (omega arith)

  module _ (four : length takes ≡ 4) (k : ℕ) (some : 1 ≤ k) (most : k ≤ 4) where
    abbrev ws : List ℕ
    ws = widths_of takes (counts_at counts takes) k

    pub plain-widths : Widths (λ t. times_in t ks) (take k takes) ws
    plain-widths = widths-are (λ t. times_in t ks) takes (counts_at counts takes) four k some most (λ j l u. left_is j (omega arith))

    front : (ts : List ℕ) → length ts ≡ 4 → take k ts ≡ get_or ts 0 0 ∷ drop 1 (take k ts)
    front [] e = absurd (omega arith)
    front (t ∷ ts) e = let s : k ≡ suc (k - 1) = omega arith in rw s

    first : take 1 (take k takes) ≡ get_or takes 0 0 ∷ []
    first = rw (front takes four)

    pub plain-length : get_or counts (get_or takes 0 0) 0 * get_or ws 0 0 ≡ length (choices_from ks [] (take k takes))
    plain-length =
        let within : 0 < length (take k takes) = rw (length-take-le k takes (omega arith)) some in
        let t = get_or takes 0 0 in
        sym (choices-ways ks (take k takes) [] [] (used-none ks)
        ∙ ap (ways (λ t. times_in t ks) []) (front takes four)
        ∙ ap (λ (x : ℕ). (times_in t ks - x) * ways (λ t. times_in t ks) (t ∷ []) (drop 1 (take k takes))) (times_none t)
        ∙ ap (λ (x : ℕ). x * ways (λ t. times_in t ks) (t ∷ []) (drop 1 (take k takes))) (sub-zero (times_in t ks) ∙ sym (is 0))
        ∙ ap (λ (x : ℕ). get_or counts t 0 * x)
        (sym (plain-widths.below 0 within ∙ ap (λ (l : List ℕ). ways (λ t. times_in t ks) l (drop 1 (take k takes))) first)))

    pub length-small : get_or counts (get_or takes 0 0) 0 * get_or ws 0 0 ≤ 1099511627776
    length-small = mul-le-mul (at 0) (widths-small takes (counts_at counts takes) k left-few)
