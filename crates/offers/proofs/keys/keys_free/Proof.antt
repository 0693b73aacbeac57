-- `keys_free` meets its contract: the column is filled from the front.
use borrow.Author.Rules.{rules}
use Prim.Native.Nat.{◌-◌, ◌≤◌, ◌<◌}
use mathlib.Core.Bool.{true}
use mathlib.Core.Path.{◌≡◌, refl}
use native.Mathlib.Omega.{arith}
use Rattle.offers.specs.Offers.{OwnerKeys}
use Rattle.offers.proofs.KeyRows.{keys_none, keys-more}
use Rattle.offers.proofs.keys.keys_free.Statement.{statement}
use Rattle.offers.proofs.keys.keys_free.Tie as tie

abbrev Inv : tie.invariant-loop-p
Inv z owners items n keys₀ p₀ keys p = (p ≤ n) × OwnerKeys z (λ o. true) owners items p keys

abbrev μ : tie.decreases-loop-p
μ z owners items n keys₀ p₀ keys p = n - p

few : (c : tie.In-loop-p Inv μ) → c.loop-p.p < 1024
few c = omega (arith, c.loop-p-test.true, c.requires.0.fits)

loop-again : tie.Need-loop-p-preserved Inv μ
loop-again c =
    let l = c.loop-p in
    let (key, small) = c.key_if.ensures in
    (omega (arith, c.loop-p-test.true), keys-more l.invariant.1 (few c.before.before.before.before.before.before) (key (λ o. true) 0 refl) small)

returns : tie.Need-returns Inv μ
returns c =
    let l = c.loop-p in
    let e : l.p ≡ c.args.n = omega (arith, l.invariant.0, c.loop-p-test.false) in
    rw e at l.invariant.1

pub keys_free_spec : {M : Type 1} → statement M
keys_free_spec =
    tie.close
    (tie.spec
    Inv
    μ
    (λ c. (omega arith, keys_none c.requires.2))
    (λ c. omega (arith, few c))
    (λ c. omega (arith, few c.before, c.requires.0.owners))
    (λ c. omega (arith, few c.before.before))
    (λ c. omega (arith, few c.before.before.before, c.requires.0.items))
    (λ c κs. search rules)
    (λ c. omega (arith, few c.before.before.before.before.before))
    (λ c. omega (arith, few c.before.before.before.before.before.before, c.loop-p.invariant.1.filled.size))
    (λ c. omega (arith, few c.before.before.before.before.before.before))
    (λ c. omega (arith, c.loop-p-test.true))
    loop-again
    returns)
