-- `first_in` meets its contract: no place before p fits.
use Prim.Native.Nat.{◌-◌, ◌≤◌, ◌<◌}
use mathlib.Core.Path.{sym, ◌∙◌}
use native.Mathlib.Omega.{arith}
use borrow.Author.Rules.{rules}
use Rattle.seek.specs.Seek.{fits_at, Sought, sought-start, sought-next, sought-found, sought-end}
use Rattle.seek.proofs.first_in.Statement.{statement}
use Rattle.seek.proofs.first_in.Tie as tie

abbrev Inv : tie.invariant-loop-p
Inv owners items from end low high port stopped p₀ p = (p ≤ end) × Sought (fits_at owners items low high stopped port) from p

abbrev μ : tie.decreases-loop-p
μ owners items from end low high port stopped p₀ p = end - p

few : (c : tie.In-loop-p Inv μ) → c.loop-p.p < 1024
few c = omega (arith, c.loop-p-test.true, c.requires.0.fits)

pub first_in_spec : {M : Type 1} → statement M
first_in_spec =
    tie.close
    (tie.spec
    Inv
    μ
    (λ c. (c.requires.1, sought-start))
    (λ c. omega (arith, few c))
    (λ c. omega (arith, few c.before, c.requires.0.owners))
    (λ c. omega (arith, few c.before.before))
    (λ c. omega (arith, few c.before.before.before, c.requires.0.items))
    (λ c κs. search rules)
    (λ c.
    let l = c.loop-p in
    sought-found l.invariant.1 l.invariant.0 (sym c.fits.ensures ∙ c.if-fits.true))
    (λ c. omega (arith, few c.before.before.before.before.before.before))
    (λ c. omega (arith, c.loop-p-test.true))
    (λ c.
    (omega (arith, c.loop-p-test.true), sought-next c.loop-p.invariant.1 (sym c.fits.ensures ∙ c.if-fits.false)))
    (λ c. sought-end c.loop-p.invariant.1 c.loop-p.invariant.0 c.loop-p-test.false))
