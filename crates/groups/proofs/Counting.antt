-- The loop that counts by group.
use Prim.Native.Nat.{ℕ, ◌+◌, ◌*◌, ◌/◌, ◌%◌, ◌≤◌, ◌<◌}
use mathlib.Core.Bool.{true, false}
use mathlib.Core.Path.{◌≡◌, sym, ap, ◌∙◌}
use mathlib.Core.List.{List}
use native.Mathlib.Omega.{arith}
use borrow.Author.Tests.{eqb-true, eqb-false, eq-eqb}
use lib.Dec.{eqb}
use lib.ListN.{length, get_or, take, set, length-set}
use lib.Seq.{length-take-le, get_or-set_same, get_or-set_other, take_all}
use Rattle.lists.specs.Lists.{one_if}
use Rattle.lists.specs.Choices.{by_bool}
use Rattle.lists.specs.Tests.{same_test}
use Rattle.lists.specs.Keys.{times_in, times_none, times-le, times_more, times-other}
use Rattle.groups.specs.Groups.{packed, Grouped, TopGroup}

-- the first i keys are counted
pub record Grouping (ks : List ℕ) (a b c d i : ℕ) (counts : List ℕ) : Type 0 where
  pub within : i ≤ length ks
  pub counted : Grouped (take i ks) a b c d counts

pub grouping-start : (ks : List ℕ) (a b c d : ℕ) (counts : List ℕ) → length counts ≡ 1024 → ((g : ℕ) → get_or counts g 0 ≡ 0)
    → Grouping ks a b c d 0 counts
grouping-start ks a b c d counts h z = record {
  within = omega arith;
  counted = record {
    few = omega arith;
    size = h;
    each = λ g l. omega (arith, z g, times_none (g * 512 + b), times_none (g * 512 + c), times_none (g * 512 + d), times_none (g * 512 + a));
  };
}

pub grouping-done : {ks : List ℕ} {a b c d i : ℕ} {counts : List ℕ} → Grouping ks a b c d i counts → length ks ≤ i → Grouped ks a b c d counts
grouping-done {ks} {a} {b} {c} {d} {i} {counts} h l = rw (take_all i ks l) at h.counted

-- one key more, for one port
module _ (ks : List ℕ) (i : ℕ) (low : i < length ks) (key : ℕ) (is : get_or ks i 0 ≡ key) (g t : ℕ) (small : t < 512) where
  same-group : g ≡ key / 512 → times_in (g * 512 + t) (take (i + 1) ks) ≡ times_in (g * 512 + t) (take i ks) + one_if (eqb (key % 512) t)
  same-group j =
      let b : eqb (get_or ks i 0) (g * 512 + t) ≡ eqb (key % 512) t =
      rw is (same_test (eqb key (g * 512 + t)) (eqb (key % 512) t)
      (λ r. let r = eqb-true key (g * 512 + t) r in eq-eqb (key % 512) t (omega arith))
      (λ r. let r = eqb-true (key % 512) t r in eq-eqb key (g * 512 + t) (omega arith))) in
      omega (arith, ap one_if b, times_more (g * 512 + t) i ks low)

  other-group : (g ≡ key / 512 → ⊥) → times_in (g * 512 + t) (take (i + 1) ks) ≡ times_in (g * 512 + t) (take i ks)
  other-group n = times-other (g * 512 + t) i ks low (λ r. let r = sym is ∙ r in n (omega arith))

module _ {ks : List ℕ} {a b c d i : ℕ} {counts : List ℕ} (h : Grouping ks a b c d i counts) (low : i < length ks) (few : length ks ≤ 1024)
    (key : ℕ) (is : get_or ks i 0 ≡ key) (below : key < 524288) where
  pub word_fits : get_or counts (key / 512) 0 ≤ 4612811919407973376
  word_fits =
      let g : key / 512 < 1024 = omega arith in
      let f = h.counted.few in
      let at : (t : ℕ) → times_in (key / 512 * 512 + t) (take i ks) ≤ 1024 = λ t. omega (arith, times-le (key / 512 * 512 + t) (take i ks)) in
      omega (arith, h.counted.each (key / 512) g, at a, at b, at c, at d)

  module _ (a_small : a < 512) (b-small : b < 512) (c-small : c < 512) (d_small : d < 512) where
    abbrev after : ℕ → ℕ
    after g =
        packed (times_in (g * 512 + b) (take (i + 1) ks)) (times_in (g * 512 + c) (take (i + 1) ks)) (times_in (g * 512 + d) (take (i + 1) ks))
        (times_in (g * 512 + a) (take (i + 1) ks))

    pub grouping-next : {x : ℕ} → x ≡ packed (one_if (eqb (key % 512) b)) (one_if (eqb (key % 512) c)) (one_if (eqb (key % 512) d)) (one_if (eqb (key % 512) a))
        → Grouping ks a b c d (i + 1) (set counts (key / 512) (get_or counts (key / 512) 0 + x))
    grouping-next {x} e = record {
      within = omega arith;
      counted = record {
        few = rw (length-take-le (i + 1) ks (omega arith)) (omega arith);
        size = length-set counts (key / 512) _ ∙ h.counted.size;
        each = each;
      };
    }
      where
        each : (g : ℕ) → g < 1024 → get_or (set counts (key / 512) (get_or counts (key / 512) 0 + x)) g 0 ≡ after g
        each g l = by_bool (eqb g (key / 512)) same other
          where
            same : eqb g (key / 512) ≡ true → get_or (set counts (key / 512) (get_or counts (key / 512) 0 + x)) g 0 ≡ after g
            same q =
                let j = eqb-true g (key / 512) q in
                let inside : g < length counts = omega (arith, h.counted.size) in
                let here : get_or (set counts g (get_or counts g 0 + x)) g 0 ≡ get_or counts g 0 + x = get_or-set_same counts g _ 0 inside in
                let was = h.counted.each g l in
                let first = same-group ks i low key is g a a_small j in
                let second = same-group ks i low key is g b b-small j in
                let third = same-group ks i low key is g c c-small j in
                let fourth = same-group ks i low key is g d d_small j in
                rw (← j) (here ∙ omega (arith, e, was, first, second, third, fourth))

            other : eqb g (key / 512) ≡ false → get_or (set counts (key / 512) (get_or counts (key / 512) 0 + x)) g 0 ≡ after g
            other q =
                let n = eqb-false g (key / 512) q in
                let was = h.counted.each g l in
                let first = other-group ks i low key is g a a_small n in
                let second = other-group ks i low key is g b b-small n in
                let third = other-group ks i low key is g c c-small n in
                let fourth = other-group ks i low key is g d d_small n in
                get_or-set_other counts (key / 512) g _ 0 n ∙ omega (arith, was, first, second, third, fourth)

-- ---- the groups seen so far
pub top_start : (keys : List ℕ) → TopGroup 0 keys 0
top_start keys = record { few = omega arith; below = λ j l. absurd (omega arith) }

pub top-next : (i : ℕ) (keys : List ℕ) {top r : ℕ} → TopGroup i keys top → top ≤ r → get_or keys i 0 / 512 + 1 ≤ r → r ≤ 1024 → TopGroup (i + 1) keys r
top-next i keys {top} {r} h l m k = record { few = k; below = below }
  where
    below : (j : ℕ) → j < i + 1 → get_or keys j 0 < 512 * r
    below j u = by_bool (eqb j i) (λ q. rw (eqb-true j i q) (omega arith)) (λ q. earlier (eqb-false j i q))
      where
        earlier : (j ≡ i → ⊥) → get_or keys j 0 < 512 * r
        earlier n = let d : j < i = omega arith in omega (arith, h.below j d)

pub top-done : {i n : ℕ} {keys : List ℕ} {top : ℕ} → TopGroup i keys top → n ≤ i → TopGroup n keys top
top-done h l = record { few = h.few; below = λ j u. h.below j (omega arith) }
