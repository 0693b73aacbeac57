-- `counted_moves` meets its contract: `group_total` tells the length, and the page is `group_page`'s.
use native.Mathlib.Omega.{arith}
use Rattle.lists.specs.Pages.{paged-past, paged-length}
use Rattle.rule_moves.proofs.grouped.counted_moves.Statement.{statement}
use Rattle.rule_moves.proofs.grouped.counted_moves.Tie as tie

group-total-requires : tie.Need-group_total-length-requires
group-total-requires c κs = let p = c.requires.0 in ((p.0, p.2, p.3, p.4), (p.5, omega (arith, p.1 0)))

returns : tie.Need-returns-then-length-first
returns c =
    let g = c.group_total-length.ensures in
    (record { total = g.0; paged = paged-past _ 5 _ _ _ _ _ (rw (← g.0) c.if-length-first.true) }, g.1)

group-page-requires : tie.Need-group_page-written-requires
group-page-requires c κs =
    let p = c.requires in
    ((p.0.0, p.0.2, p.0.3, p.0.4), (p.1.0, p.1.1, λ j. omega (arith, p.0.1 j)))

returns-2 : tie.Need-returns
returns-2 c =
    let g = c.group_total-length.ensures in
    (record { total = g.0; paged = c.group_page-written.ensures }, g.1)

pub counted_moves_spec : {M : Type 1} → statement M
counted_moves_spec =
    tie.close (tie.spec group-total-requires returns group-page-requires (λ c. paged-length _ 5 c.group_page-written.ensures) returns-2)
