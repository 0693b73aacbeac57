-- `react` meets its contract: the picks taken out, the owners merged and the products appended are the reaction (`Reacted`).
use mathlib.Core.Path.{◌≡◌}
use native.Mathlib.Omega.{arith}
use borrow.Author.Rules.{rules}
use lib.ListN.{length, take}
use Rattle.reaction.specs.Places.{Places}
use Rattle.products.proofs.Reacted.{Reactable, reactable, reacted-holds}
use Rattle.products.proofs.react.react.Statement.{statement}
use Rattle.products.proofs.react.react.Tie as tie

four : (c : tie.Start) → length c.args.picks ≡ 4
four c = search rules

facts : (c : tie.Start) → Reactable c.args.rule c.args.picks c.args.at.len c.args.at.next
facts c =
    let a = c.args in
    reactable a.rule c.requires.ready.rule a.picks (four c) a.owners.now a.items.now a.origins.now a.at c.requires.verdict

in_place : (c : tie.Start) → Places 1024 (take c.args.rule.consumes c.args.picks)
in_place c p m = let l = (facts c).in_place p m in omega (arith, c.requires.fits)

owners-at-requires : tie.Need-owners_at-found-requires
owners-at-requires c κs = (search rules, search rules, in_place c)

items-at-requires : tie.Need-items_at-received-requires
items-at-requires c κs = (search rules, search rules, in_place c.before)

remove-requires : tie.Need-remove-requires
remove-requires c κs =
    let f = facts c.before.before.before.before.before.before in
    (c.requires.arrays, c.requires.fits, search rules, search rules, f.different, f.in_place)

append-products-requires : tie.Need-append_products-requires
append-products-requires c κs =
    let f = facts c.before.before.before.before.before.before.before.before.before.before.before.before.before in
    let a = c.remove.ensures.0 in
    (record { owners = c.merge.ensures.0; items = a.items; origins = a.origins }, (f.room, (c.requires.ready, f.id)))

returns : tie.Need-returns
returns c =
    let a = c.args in
    let l = c.remove.new in
    reacted-holds a.rule c.requires.ready.rule a.picks
    (four c.before.before.before.before.before.before.before.before.before.before.before.before.before.before) a.owners.now a.items.now a.origins.now a.at
    c.requires.verdict a.maker c.smallest-home.result
    l.owners l.items l.origins c.merge.new.owners c.owners_at-found.ensures c.items_at-received.ensures
    c.smallest-home.ensures
    c.remove.ensures.1 c.merge.ensures.1 c.append_products.ensures

pub react_spec : {M : Type 1} → statement M
react_spec =
    tie.close
    (tie.spec owners-at-requires items-at-requires (λ c κs. search rules) remove-requires
    (λ c. (facts c.before.before.before.before.before.before.before.before).enough) (λ c κs. search rules)
    append-products-requires returns)
