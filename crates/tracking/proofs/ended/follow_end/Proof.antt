-- `follow_end` meets its contract (`Making`).
use Prim.Native.Nat.{◌+◌}
use native.Mathlib.Omega.{arith}
use borrow.Author.Rules.{rules}
use Rattle.semantics.specs.Table.{sizes_of, table_of}
use Rattle.state.specs.Lent.{state_from}
use Rattle.tracking.proofs.Making.{given-columns, narrow, told-supply, in-set, ended-kept}
use Rattle.tracking.proofs.ended.follow_end.Statement.{statement}
use Rattle.tracking.proofs.ended.follow_end.Tie as tie

count-freed-requires : tie.Need-count_freed-requires
count-freed-requires c κs =
    let (t, _, _, _, _, _, g) = c.requires.1 in
    (given-columns g, (sizes_of t, g.tracked.supply))

unstop-ended-requires : tie.Need-unstop_ended-requires
unstop-ended-requires c κs =
    let (_, _, _, _, gs, _, g) = c.requires.1 in
    ((g.tracked.stops gs).size, in-set g c.requires.0 c.kind_of-kind.ensures c.id_of-id.ensures)

returns : tie.Need-returns
returns c t index i ceiling gs picks g =
    let a = c.args in
    let other = c.requires.0 in
    let stops = c.unstop_ended.ensures (table_of t) (i + 1) (state_from a.owners.now a.items.now gs a.at) (g.tracked.stops gs) in
    ended-kept g other c.kind_of-kind.ensures c.id_of-id.ensures stops (told-supply g other c.count_freed.ensures.1)

pub follow_end_spec : {M : Type 1} → statement M
follow_end_spec =
    tie.close
    (tie.spec
    (λ c κs. search rules)
    (λ c κs. let (_, _, _, _, _, _, g) = c.requires.1 in narrow g c.requires.0)
    (λ c. omega (arith, c.kind_of-kind.ensures, c.requires.0))
    count-freed-requires
    unstop-ended-requires
    returns)
