-- `choose_within`: the keys wanted are those of the place's owner, and the place is picked already.
use Prim.Native.Nat.{◌%◌, ◌≤◌, ◌<◌}
use mathlib.Core.Path.{◌≡◌, refl, ap, ◌∙◌}
use native.Mathlib.Omega.{arith}
use borrow.Author.Tests.{eqb-true}
use lib.ListN.{length, get_or}
use Rattle.first_choice.specs.Choice.{first_choice}
use Rattle.first_choice.proofs.Places.{within-used, within-choices}
use Rattle.first_choice.proofs.within.choose_within.Statement.{statement}
use Rattle.first_choice.proofs.within.choose_within.Tie as tie

returns : tie.Need-returns
returns c ks h =
    let a = c.args in
    let some : 1 ≤ length a.takes.now = omega (arith, c.requires.4) in
    let low : a.p < length ks = omega (arith, h.size, c.requires.3) in
    let on : get_or ks a.p 0 % 512 ≡ get_or a.takes.now 0 0 = eqb-true _ _ (h.first a.p c.requires.3 ∙ c.requires.5) in
    c.choose.ensures ks _ (h.within a.p c.requires.3 c.requires.5) (within-used ks a.takes.now a.k a.p some low on)
    ∙ ap first_choice (within-choices ks a.takes.now a.k a.p some low on)

pub choose_within_spec : {M : Type 1} → statement M
choose_within_spec =
    tie.close
    (tie.spec
    (λ c. omega (arith, c.requires.3, c.requires.0.fits))
    (λ c. omega (arith, c.requires.3, c.requires.0.fits, c.requires.0.owners))
    (λ c. omega (arith, c.requires.3, c.requires.0.fits))
    (λ c κs. let p = c.requires in (p.0, p.1, p.2, p.4, (refl, (refl, (refl, tt)))))
    returns)
