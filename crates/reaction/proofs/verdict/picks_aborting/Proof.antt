-- `picks_aborting` meets its contract: by the rule's class.
use mathlib.Core.Path.{sym, ap}
use mathlib.Core.Bool.{not}
use native.Mathlib.Omega.{arith}
use lib.ListN.{take}
use Rattle.wellformed.specs.Picks.{fit-positive}
use Rattle.state.specs.Lent.{state_from}
use Rattle.reaction.specs.Places.{column}
use Rattle.reaction.proofs.Aborting.{global-part}
use Rattle.reaction.proofs.verdict.picks_aborting.Statement.{statement}
use Rattle.reaction.proofs.verdict.picks_aborting.Tie as tie

returns-2 : tie.Need-returns
returns-2 c gs =
    let a = c.args in
    ap not (sym (global-part (state_from a.owners.now a.items.now gs a.at) a.class
    (column a.owners.now (take a.k a.picks)) c.requires.5 (omega (arith, c.if-class-ne0.false))))

some-aborting-requires : tie.Need-some_aborting-requires
some-aborting-requires c κs =
    let a = c.args in
    let p = c.requires in
    (p.0, p.1, p.2, p.3, p.4, fit-positive a.class (column a.owners.now (take a.k a.picks)) p.5 (λ e. c.if-class-ne0.true e))

pub picks_aborting_spec : {M : Type 1} → statement M
picks_aborting_spec = tie.close (tie.spec some-aborting-requires (λ c gs. c.some_aborting.ensures gs) returns-2)
