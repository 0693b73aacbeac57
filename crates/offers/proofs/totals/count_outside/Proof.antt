-- `count_outside` meets its contract: what is counted so far are the keys before i.
use borrow.Author.Rules.{rules}
use Prim.Native.Nat.{◌-◌, ◌<◌}
use mathlib.Core.Bool.{not}
use Rattle.idset.specs.IdSet.{has}
use native.Mathlib.Omega.{arith}
use Rattle.offers.specs.Offers.{row_key}
use Rattle.offers.proofs.KeyTally.{KeyTally, port-start, port-few, port-next, port-done}
use Rattle.offers.proofs.totals.count_outside.Statement.{statement}
use Rattle.offers.proofs.totals.count_outside.Tie as tie

abbrev Inv : tie.invariant-loop-i
Inv z owners items n stopped totals₀ i₀ totals i = KeyTally (row_key z (λ v. not (has stopped v)) owners items) n i totals

abbrev μ : tie.decreases-loop-i
μ z owners items n stopped totals₀ i₀ totals i = n - i

few : (c : tie.In-loop-i Inv μ) → c.loop-i.i < 1024
few c = omega (arith, c.loop-i-test.true, c.requires.0.fits)

count-one-requires : tie.Need-count_one-requires Inv μ
count-one-requires c κs =
    (c.loop-i.invariant.size, port-few c.loop-i.invariant c.requires.0.fits _)

loop-again : tie.Need-loop-i-preserved Inv μ
loop-again c =
    port-next c.loop-i.invariant c.loop-i-test.true (c.key_outside-key.ensures.0 0) c.count_one.ensures

pub count_outside_spec : {M : Type 1} → statement M
count_outside_spec =
    tie.close
    (tie.spec
    Inv
    μ
    (λ c. port-start _ _ c.requires.2)
    (λ c. omega (arith, few c))
    (λ c. omega (arith, few c.before, c.requires.0.owners))
    (λ c. omega (arith, few c.before.before))
    (λ c. omega (arith, few c.before.before.before, c.requires.0.items))
    (λ c κs. search rules)
    count-one-requires
    (λ c. search rules)
    (λ c. search rules)
    loop-again
    (λ c. port-done c.loop-i.invariant c.loop-i-test.false))
