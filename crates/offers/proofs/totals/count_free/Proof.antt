-- `count_free` meets its contract: what is counted so far are the keys before i.
use borrow.Author.Rules.{rules}
use Prim.Native.Nat.{◌-◌, ◌<◌}
use mathlib.Core.Bool.{true}
use mathlib.Core.Path.{refl}
use native.Mathlib.Omega.{arith}
use Rattle.offers.specs.Offers.{row_key}
use Rattle.offers.proofs.KeyTally.{KeyTally, port-start, port-few, port-next, port-done}
use Rattle.offers.proofs.totals.count_free.Statement.{statement}
use Rattle.offers.proofs.totals.count_free.Tie as tie

abbrev Inv : tie.invariant-loop-i
Inv z owners items n totals₀ i₀ totals i = KeyTally (row_key z (λ o. true) owners items) n i totals

abbrev μ : tie.decreases-loop-i
μ z owners items n totals₀ i₀ totals i = n - i

few : (c : tie.In-loop-i Inv μ) → c.loop-i.i < 1024
few c = omega (arith, c.loop-i-test.true, c.requires.0.fits)

count-one-requires : tie.Need-count_one-requires Inv μ
count-one-requires c κs =
    (c.loop-i.invariant.size, port-few c.loop-i.invariant c.requires.0.fits _)

loop-again : tie.Need-loop-i-preserved Inv μ
loop-again c =
    port-next c.loop-i.invariant c.loop-i-test.true (c.key_if-key.ensures.0 (λ o. true) 0 refl) c.count_one.ensures

pub count_free_spec : {M : Type 1} → statement M
count_free_spec =
    tie.close
    (tie.spec
    Inv
    μ
    (λ c. port-start _ _ c.requires.2)
    (λ c. omega (arith, few c))
    (λ c. omega (arith, few c.before, c.requires.0.owners))
    (λ c. omega (arith, few c.before.before))
    (λ c. omega (arith, few c.before.before.before, c.requires.0.items))
    (λ c κs. search rules)
    count-one-requires
    (λ c. search rules)
    (λ c. search rules)
    loop-again
    (λ c. port-done c.loop-i.invariant c.loop-i-test.false))
