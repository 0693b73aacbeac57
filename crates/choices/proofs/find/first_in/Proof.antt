-- `first_in` meets its contract: no place before p has the key.
use Prim.Native.Nat.{◌-◌, ◌≤◌, ◌<◌}
use native.Mathlib.Omega.{arith}
use Rattle.choices.proofs.Passed.{PassedOver, passed_start, passed-next, passed-found, passed-end}
use Rattle.choices.proofs.find.first_in.Statement.{statement}
use Rattle.choices.proofs.find.first_in.Tie as tie

abbrev Inv : tie.invariant-loop-p
Inv keys from end t p₀ p = (p ≤ end) × PassedOver keys t from p

abbrev μ : tie.decreases-loop-p
μ keys from end t p₀ p = end - p

few : (c : tie.In-loop-p Inv μ) → c.loop-p.p < 1024
few c = omega (arith, c.loop-p-test.true, c.requires)

pub first_in_spec : {M : Type 1} → statement M
first_in_spec =
    tie.close
    (tie.spec
    Inv
    μ
    (λ c. (c.requires.0, passed_start))
    (λ c. omega (arith, few c))
    (λ c. omega (arith, few c.before, c.requires.2))
    (λ c. passed-found c.loop-p.invariant.1 c.loop-p.invariant.0 c.if-keys-p.true)
    (λ c. omega (arith, few c.before.before.before))
    (λ c. omega (arith, c.loop-p-test.true))
    (λ c. (omega (arith, c.loop-p-test.true), passed-next c.loop-p.invariant.1 c.if-keys-p.false))
    (λ c. passed-end c.loop-p.invariant.1 c.loop-p.invariant.0 c.loop-p-test.false))
