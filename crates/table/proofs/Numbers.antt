-- The numbers of a well-formed table follow each other with no gap, so that one pass checks them and finds where each rule begins.
use Prim.Native.Nat.{ℕ, zero, suc, ◌+◌, ◌-◌, ◌≤◌, ◌<◌}
use mathlib.Core.List.{List, [], ◌∷◌, ◌++◌}
use mathlib.Core.Bool.{Bool, true, false, ◌&&◌, false≢true}
use mathlib.Core.Path.{◌≡◌, refl, sym, ap, ◌∙◌}
use native.Mathlib.Omega.{arith}
use native.Mathlib.Numerals.{add-one}
use borrow.Author.Tests.{ltb-true, leb-true, eqb-true, lt-ltb, le-ltb, le-leb, eq-eqb, ne_eqb}
use lib.Dec.{leb, ltb, eqb}
use lib.ListN.{length, get_or, take, drop, set, length-set}
use lib.Seq.{take-suc, take_all, get_or-set_same, get_or-set_other, length-take-le}
use Rattle.lists.specs.Lists.{all, count_if, rises_from, all_below}
use Rattle.lists.specs.Tests.{and_both, true-or, false-or, or-right-true, same_test}
use Rattle.lists.specs.Counting.{count-append, count-all, all_append, all_weaker, any-count}
use Rattle.lists.specs.Rising.{Order, before, equal, after, order, none-keyed}
use Rattle.lists.specs.Walk.{step, below_each, below-of-each}
use Rattle.semantics.specs.Table.{occurs, numbers_ok}
use Rattle.table.specs.Index.{Starts}

-- ---- the check as a pass over the numbers

-- n is the number of the last rule that has begun, or of the next one
abbrev pub follows : ℕ → ℕ → ℕ → Bool
follows rules seen n = ltb n rules && leb n seen && leb seen (n + 1)

-- the numbers go on from where seen rules have begun, up to the last rule
abbrev pub dense : ℕ → ℕ → List ℕ → Bool
dense rules seen [] = eqb seen rules
dense rules seen (n ∷ ns) = follows rules seen n && dense rules (n + 1) ns

pub dense-step :
    (rules seen : ℕ) (ns : List ℕ) (i : ℕ) {b : Bool}
    → i < length ns
    → follows rules seen (get_or ns i 0) ≡ b
    → dense rules seen (drop i ns) ≡ b && dense rules (get_or ns i 0 + 1) (drop (i + 1) ns)
dense-step rules seen ns i l e =
    step (dense rules seen) ns i 0 l ∙ ap (λ (t : Bool). t && dense rules (get_or ns i 0 + 1) (drop (i + 1) ns)) e

-- the same by 01's conditions
record Onward (rules seen : ℕ) (ns : List ℕ) : Type 0 where
  under : all (λ n. ltb n rules) ns ≡ true
  rises : rises_from (seen - 1) (λ n. n) ns ≡ true
  reach : (r : ℕ) → seen ≤ r → r < rules → occurs ns r ≡ true

pub record NextNumber (rules seen n : ℕ) : Type 0 where
  pub under : n < rules
  pub near : n ≤ seen
  pub next : seen ≤ n + 1

pub follows-true : (rules seen n : ℕ) → follows rules seen n ≡ true → NextNumber rules seen n
follows-true rules seen n h =
    let (a, c) = and_both (ltb n rules && leb n seen) (leb seen (n + 1)) h in
    let (a, b) = and_both (ltb n rules) (leb n seen) a in
    record { under = ltb-true n rules a; near = leb-true n seen b; next = leb-true seen (n + 1) c }

true-follows : (rules seen n : ℕ) → NextNumber rules seen n → follows rules seen n ≡ true
true-follows rules seen n f =
    rw (lt-ltb n rules f.under, le-leb n seen f.near, le-leb seen (n + 1) f.next)

module _ (rules : ℕ) where
  dense-onward : (seen : ℕ) (ns : List ℕ) → dense rules seen ns ≡ true → Onward rules seen ns
  dense-onward seen [] h =
      let e = eqb-true seen rules h in
      record { under = refl; rises = refl; reach = λ r a b. absurd (omega arith) }
  dense-onward seen (n ∷ ns) h =
      let (a, b) = and_both (follows rules seen n) (dense rules (n + 1) ns) h in
      let f = follows-true rules seen n a in
      let o = dense-onward (n + 1) ns b in
      let e : n + 1 - 1 ≡ n = omega arith in
      let rises : rises_from n (λ n. n) ns ≡ true = rw e at o.rises in
      record {
        under = rw (lt-ltb n rules f.under, o.under);
        rises = rw (le-leb (seen - 1) n (omega arith), rises);
        reach = λ r l m. reach f (o.reach r) l m (order n r);
      }
    where
      reach : {r : ℕ} → NextNumber rules seen n → (n + 1 ≤ r → r < rules → occurs ns r ≡ true) → seen ≤ r → r < rules → Order n r → occurs (n ∷ ns) r ≡ true
      reach {r} f o l m (before k) = or-right-true (eqb n r) (o (omega arith) m)
      reach {r} f o l m (equal e) = true-or (occurs ns r) (eq-eqb n r e)
      reach {r} f o l m (after k) = absurd (omega arith)

  onward-dense : (seen : ℕ) (ns : List ℕ) → seen ≤ rules → Onward rules seen ns → dense rules seen ns ≡ true
  onward-dense seen [] l o = go (order seen rules)
    where
      go : Order seen rules → eqb seen rules ≡ true
      go (before k) = absurd (false≢true (o.reach seen (omega arith) k))
      go (equal e) = eq-eqb seen rules e
      go (after k) = absurd (omega arith)
  onward-dense seen (n ∷ ns) l o =
      let (a, b) = and_both (ltb n rules) (all (λ n. ltb n rules) ns) o.under in
      let (c, d) = and_both (leb (seen - 1) n) (rises_from n (λ n. n) ns) o.rises in
      let u = ltb-true n rules a in
      let w = leb-true (seen - 1) n c in
      let e : n ≡ n + 1 - 1 = omega arith in
      let rises : rises_from (n + 1 - 1) (λ n. n) ns ≡ true = rw e at d in
      let f = true-follows rules seen n (record { under = u; near = near u d (order n seen); next = omega arith }) in
      rw (f, onward-dense (n + 1) ns (omega arith) (record { under = b; rises = rises; reach = λ r k m. later r w k m }))
    where
      near : n < rules → rises_from n (λ n. n) ns ≡ true → Order n seen → n ≤ seen
      near u d (before k) = omega arith
      near u d (equal e) = omega arith
      near u d (after k) =
          let none : occurs (n ∷ ns) seen ≡ false =
          false-or (occurs ns seen) (ne_eqb n seen (λ e. omega arith))
          ∙ any-count (λ m. eqb m seen) ns
          ∙ ap (leb 1) (none-keyed (λ n. n) n ns d seen k) in
          absurd (false≢true (sym none ∙ o.reach seen (omega arith) (omega arith)))

      later : (r : ℕ) → seen - 1 ≤ n → n + 1 ≤ r → r < rules → occurs ns r ≡ true
      later r w k m = sym (false-or (occurs ns r) (ne_eqb n r (λ e. omega arith))) ∙ o.reach r (omega arith) m

  pub numbers-dense : (ns : List ℕ) → numbers_ok rules ns ≡ dense rules 0 ns
  unfolding numbers_ok
  numbers-dense ns = same_test (numbers_ok rules ns) (dense rules 0 ns) there back
    where
      there : numbers_ok rules ns ≡ true → dense rules 0 ns ≡ true
      there h =
          let (a, c) = and_both (all (λ n. ltb n rules) ns && rises_from 0 (λ n. n) ns) (all_below rules (occurs ns)) h in
          let (a, b) = and_both (all (λ n. ltb n rules) ns) (rises_from 0 (λ n. n) ns) a in
          onward-dense 0 ns (omega arith) (record { under = a; rises = b; reach = λ r l. below_each (occurs ns) rules r c })

      back : dense rules 0 ns ≡ true → numbers_ok rules ns ≡ true
      back h =
          let o = dense-onward 0 ns h in
          rw (o.under, o.rises, below-of-each (occurs ns) rules (λ r l. o.reach r (omega arith) l))

-- ---- the index

-- what stands in the index when i numbers are read and seen rules have begun
pub record Marked (numbers : List ℕ) (i seen : ℕ) (starts : List ℕ) : Type 0 where
  pub room : length starts ≡ 65
  pub under : all (λ n. ltb n seen) (take i numbers) ≡ true
  pub each : (r : ℕ) → r ≤ seen → get_or starts r 0 ≡ count_if (λ n. ltb n r) (take i numbers)

pub marked_start : (numbers : List ℕ) (starts : List ℕ) → length starts ≡ 65 → Marked numbers 0 0 (set starts 0 0)
marked_start numbers starts e = record { room = length-set starts 0 0 ∙ e; under = refl; each = first }
  where
    first : (r : ℕ) → r ≤ 0 → get_or (set starts 0 0) r 0 ≡ 0
    first zero l = get_or-set_same starts 0 0 0 (omega arith)
    first (suc r) l = absurd (omega arith)

module _ (numbers : List ℕ) (i seen : ℕ) (starts : List ℕ) (was : Marked numbers i seen starts) where
  module _ (n : ℕ) (here : n ≡ get_or numbers i 0) (l : i < length numbers) (rules : ℕ) (few : rules ≤ 64) (f : NextNumber rules seen n) where
    grown : take (i + 1) numbers ≡ take i numbers ++ (n ∷ [])
    grown = rw (add-one i, take-suc numbers i 0 l, here)

    under : all (λ m. ltb m (n + 1)) (take (i + 1) numbers) ≡ true
    under =
        rw grown
        (all_append
        (λ m. ltb m (n + 1))
        (take i numbers)
        (n ∷ [])
        (all_weaker (λ m. ltb m seen) (λ m. ltb m (n + 1)) (λ m e. lt-ltb m (n + 1) (omega (arith, ltb-true m seen e, f.next))) (take i numbers) was.under)
        (rw (lt-ltb n (n + 1) (omega arith))))

    each : (r : ℕ) → r ≤ n + 1 → Order r (n + 1) → get_or (set starts (n + 1) (i + 1)) r 0 ≡ count_if (λ m. ltb m r) (take (i + 1) numbers)
    each r k (before b) =
        let same : count_if (λ m. ltb m r) (take (i + 1) numbers) ≡ count_if (λ m. ltb m r) (take i numbers) =
        rw (grown, count-append (λ m. ltb m r) (take i numbers) (n ∷ []), le-ltb n r (omega arith)) (omega arith) in
        get_or-set_other starts (n + 1) r (i + 1) 0 (λ e. omega arith) ∙ was.each r (omega (arith, f.near)) ∙ sym same
    each r k (equal e) =
        rw e
        (get_or-set_same starts (n + 1) (i + 1) 0 (omega (arith, f.under, was.room))
        ∙ sym (count-all (λ m. ltb m (n + 1)) (take (i + 1) numbers) under ∙ length-take-le (i + 1) numbers (omega arith)))
    each r k (after a) = absurd (omega arith)

    pub marked_next : Marked numbers (i + 1) (n + 1) (set starts (n + 1) (i + 1))
    marked_next = record { room = length-set starts (n + 1) (i + 1) ∙ was.room; under = under; each = λ r k. each r k (order r (n + 1)) }

  pub marked-done : (rules : ℕ) → length numbers ≤ i → seen ≡ rules → Starts numbers rules starts
  marked-done rules l e = record { room = was.room; each = λ r k. was.each r (omega arith) ∙ ap (count_if (λ n. ltb n r)) (take_all i numbers l) }
