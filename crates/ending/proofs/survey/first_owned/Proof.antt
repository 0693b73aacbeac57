use borrow.Author.Rules.{rules}
use borrow.Author.Tests.{ne_eqb}
use Prim.Native.Nat.{◌-◌}
use mathlib.Core.Path.{◌≡◌, refl}
use native.Mathlib.Omega.{arith}
use Rattle.lists.specs.Walk.{below_next}
use Rattle.ending.specs.End.{NoneBefore}
use Rattle.ending.proofs.survey.first_owned.Statement.{statement}
use Rattle.ending.proofs.survey.first_owned.Tie as tie

abbrev Inv : tie.invariant-loop-i
Inv owners n id i₀ i = NoneBefore owners id n i

abbrev μ : tie.decreases-loop-i
μ owners n id i₀ i = n - i

loop-again : tie.Need-loop-i-preserved Inv μ
loop-again c =
    let l = c.loop-i in
    record { within = search rules; none = below_next _ l.i l.invariant.none (rw (ne_eqb _ _ c.if-owners-i.false)) }

returns-2 : tie.Need-returns Inv μ
returns-2 c =
    let l = c.loop-i in
    let e : l.i ≡ c.args.n = omega (arith, l.invariant.within, c.loop-i-test.false) in
    (rw e at l.invariant, λ h. absurd (omega arith))

pub first_owned_spec : {M : Type 1} → statement M
first_owned_spec =
    tie.close
    (tie.spec
    Inv μ (λ c. record { within = search rules; none = refl }) (λ c. search rules) (λ c. search rules)
    (λ c. (c.loop-i.invariant, λ h. c.if-owners-i.true)) (λ c. search rules) (λ c. search rules) loop-again returns-2)
