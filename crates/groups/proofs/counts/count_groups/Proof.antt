-- `count_groups` meets its contract: what is counted so far are the first i keys.
use Prim.Native.Nat.{◌-◌, ◌%◌, ◌≤◌, ◌<◌}
use mathlib.Core.Path.{◌≡◌}
use native.Mathlib.Omega.{arith}
use lib.ListN.{length, get_or, take}
use lib.Seq.{length-take-le, get_or-take}
use Rattle.lists.specs.Padded.{get_or-replicate-any}
use Rattle.groups.specs.Groups.{KeysBelow, Weights, TopGroup}
use Rattle.groups.proofs.Weighing.{weight-small}
use Rattle.groups.proofs.Counting.{Grouping, grouping-start, grouping-done, grouping-next, word_fits, top_start, top-next, top-done}
use borrow.Author.Rules.{rules}
use Rattle.groups.proofs.counts.count_groups.Statement.{statement}
use Rattle.groups.proofs.counts.count_groups.Tie as tie

abbrev Inv : tie.invariant-loop-i
Inv keys n a b c d counts₀ weights top₀ i₀ counts top i =
    KeysBelow n keys × (a < 512) × (b < 512) × (c < 512) × (d < 512) × Weights a b c d weights × Grouping (take n keys) a b c d i counts × TopGroup i keys top

abbrev μ : tie.decreases-loop-i
μ keys n a b c d counts₀ weights top₀ i₀ counts top i = n - i

-- the key read in this turn
small : (c : tie.In-loop-i Inv μ) → get_or c.args.keys.now c.loop-i.i 0 < 524288
small c = c.loop-i.invariant.0.below c.loop-i.i c.loop-i-test.true

inside : (c : tie.In-loop-i Inv μ) → c.loop-i.i < length
    (take c.args.n c.args.keys.now)
inside c =
    let k = c.loop-i.invariant.0 in
    rw (length-take-le c.args.n c.args.keys.now (omega (arith, k.few, k.size)))
    c.loop-i-test.true

-- its port has a weight
low-port : (c : tie.In-loop-i Inv μ) → get_or c.args.keys.now c.loop-i.i 0 % 512 < 512
low-port c = omega arith

here : (c : tie.In-loop-i Inv μ) → get_or (take c.args.n c.args.keys.now)
    c.loop-i.i 0
    ≡ get_or c.args.keys.now c.loop-i.i 0
here c = get_or-take c.args.n c.args.keys.now c.loop-i.i 0
    c.loop-i-test.true

short : (c : tie.In-loop-i Inv μ) → length (take c.args.n c.args.keys.now) ≤ 1024
short c =
    let k = c.loop-i.invariant.0 in
    rw (length-take-le c.args.n c.args.keys.now (omega (arith, k.few, k.size)))
    k.few

add-counts : tie.Need-overflow_add-counts Inv μ
add-counts c =
    let (k, first, second, third, fourth, w, h, top) = c.loop-i.invariant in
    omega (
      arith,
      word_fits h (inside c.before.before.before.before) (short c.before.before.before.before) _ (here c.before.before.before.before)
          (small c.before.before.before.before),
      weight-small _ _ _ _ w _ (low-port c.before.before.before.before),
    )

loop-again : tie.Need-loop-i-preserved Inv μ
loop-again c =
    let (k, first, second, third, fourth, w, h, top) = c.loop-i.invariant in
    let (low, high, most) = c.larger-top.ensures in (
      k,
      first,
      second,
      third,
      fourth,
      w,
      grouping-next h (inside c.before.before.before.before.before) (short c.before.before.before.before.before) _
          (here c.before.before.before.before.before) (small c.before.before.before.before.before) first second third fourth
          (w.each _ (low-port c.before.before.before.before.before)),
      top-next c.loop-i.i c.args.keys.now top low high most,
    )

returns : tie.Need-returns Inv μ
returns c =
    let (k, first, second, third, fourth, w, h, top) = c.loop-i.invariant in
    let a = c.args in (
      grouping-done h (rw (length-take-le a.n a.keys.now (omega (arith, k.few, k.size))) c.loop-i-test.false),
      top-done top c.loop-i-test.false,
    )

few : (c : tie.In-loop-i Inv μ) → c.loop-i.i < 1024
few c = omega (arith, c.loop-i-test.true, c.loop-i.invariant.0.few)

pub count_groups_spec : {M : Type 1} → statement M
count_groups_spec =
    tie.close
    (tie.spec
    Inv
    μ
    (λ c κs. let p = c.requires.0 in ((p.1, p.2, p.3, p.4), (search rules, λ t. get_or-replicate-any 512 t 0)))
    (λ c.
    let (p, q) = c.requires in
    (p.0, p.1, p.2, p.3, p.4, c.weigh.ensures, grouping-start _ _ _ _ _ _ q.0 q.1, top_start _))
    (λ c. omega (arith, few c))
    (λ c. omega (arith, few c.before))
    (λ c. omega (arith, small c.before.before))
    (λ c. search rules)
    (λ c. search rules)
    (λ c. search rules)
    (λ c. omega (arith, small c.before.before))
    (λ c. omega (arith, small c.before.before.before, c.loop-i.invariant.6.counted.size))
    add-counts
    (λ c. omega (arith, small c.before.before.before.before, c.loop-i.invariant.6.counted.size))
    (λ c. omega (arith, small c.before.before.before.before))
    (λ c κs. (c.loop-i.invariant.7.few, omega (arith, small c.before.before.before.before)))
    (λ c. omega (arith, few c.before.before.before.before.before))
    (λ c. omega (arith, c.loop-i-test.true))
    loop-again
    returns)
