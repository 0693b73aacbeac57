-- `first_plain`: the first choice behind no picks.
use mathlib.Core.Path.{refl, ◌∙◌}
use mathlib.Core.List.{[]}
use native.Mathlib.Omega.{arith}
use borrow.Author.Rules.{rules}
use lib.ListN.{take}
use Rattle.lists.specs.Choosing.{choices_from}
use Rattle.lists.specs.Ways.{used-none}
use Rattle.offers.specs.Offers.{column_keys}
use Rattle.first_choice.proofs.Picking.{first_alone}
use Rattle.first_choice.proofs.Fits.{columns-plain}
use Rattle.first_choice.proofs.first_plain.Statement.{statement}
use Rattle.first_choice.proofs.first_plain.Tie as tie

choose-requires : tie.Need-choose-requires
choose-requires c κs = let p = c.requires in (p.0, omega arith, p.2, p.3, (refl, (refl, (refl, (refl, tt)))))

returns : tie.Need-returns
returns c z of d =
    let a = c.args in
    let ks = column_keys z a.stopped.now a.owners.now a.items.now a.n in
    let h = columns-plain z a.stopped.now a.owners.now a.items.now a.n a.takes.now a.k
    (omega (arith, c.requires.2, c.requires.3)) c.requires.1 of d in
    c.choose.ensures ks a.takes.now (rw c.last_owner.ensures h) (used-none ks)
    ∙ first_alone (choices_from ks [] (take a.k a.takes.now))

pub first_plain_spec : {M : Type 1} → statement M
first_plain_spec = tie.close (tie.spec (λ c κs. search rules) choose-requires returns)
