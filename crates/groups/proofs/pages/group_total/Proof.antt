-- `group_total` meets its contract: the choices of the groups below g.
use Prim.Native.Nat.{◌-◌, ◌*◌, ◌≤◌, ◌<◌}
use mathlib.Core.Path.{◌≡◌, refl, ◌∙◌}
use native.Mathlib.Numerals.{add-one}
use native.Mathlib.Omega.{arith}
use lib.ListN.{length, take}
use lib.Seq.{length-take-le, get_or-take}
use Rattle.groups.specs.Groups.{ways_in}
use Rattle.groups.specs.Left.{grouped-sized}
use Rattle.groups.proofs.BySums.{sum_up, choices-by-sums}
use borrow.Author.Rules.{rules}
use Rattle.groups.proofs.pages.group_total.Statement.{statement}
use Rattle.groups.proofs.pages.group_total.Tie as tie

abbrev Inv : tie.invariant-loop-g
Inv keys n takes k counts top total₀ g₀ total g = (total ≤ g * 1099511627776) × (g ≤ top) × (total ≡ sum_up (ways_in takes k counts) g)

abbrev μ : tie.decreases-loop-g
μ keys n takes k counts top total₀ g₀ total g = top - g

loop-again : tie.Need-loop-g-preserved Inv μ
loop-again c =
    let l = c.loop-g in
    let w = c.group_ways-total.ensures in
    (omega (arith, l.invariant.0, w.1), omega (arith, c.loop-g-test.true), rw add-one (omega (arith, l.invariant.2, w.0)))

returns : tie.Need-returns Inv μ
returns c =
    let a = c.args in
    let l = c.loop-g in
    let (p, q) = c.requires in
    let four : length a.takes ≡ 4 = search rules in
    let long = length-take-le a.n a.keys.now (omega (arith, p.0.few, p.0.size)) in
    let all : l.g ≡ a.top = omega (arith, l.invariant.1, c.loop-g-test.false) in
    let sum = choices-by-sums (take a.n a.keys.now) a.k p.1 p.2 a.takes four q.1 p.3 a.top q.0.few
    (λ i u. let v : i < a.n = rw long at u in rw (get_or-take a.n a.keys.now i 0 v) (q.0.below i v)) in
    (l.invariant.2 ∙ rw all sum, omega (arith, l.invariant.0, l.invariant.1, q.0.few))

few : (c : tie.In-loop-g Inv μ) → c.loop-g.g < 1024
few c = omega (arith, c.loop-g-test.true, c.requires.1.0.few)

pub group_total_spec : {M : Type 1} → statement M
group_total_spec =
    tie.close
    (tie.spec
    Inv
    μ
    (λ c. (omega arith, omega arith, refl))
    (λ c κs. (grouped-sized c.requires.0.3, few c))
    (λ c. omega (arith, c.loop-g.invariant.0, c.group_ways-total.ensures.1, few c.before))
    (λ c. omega (arith, few c.before))
    (λ c. omega (arith, c.loop-g-test.true))
    loop-again
    returns)
