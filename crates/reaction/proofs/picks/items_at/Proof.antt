use borrow.Author.Rules.{rules}
use borrow.Author.Tests.{ltb-true}
use Prim.Native.Nat.{ℕ, ◌<◌}
use mathlib.Core.Path.{◌≡◌}
use mathlib.Core.Bool.{true}
use native.Mathlib.Omega.{arith}
use lib.Dec.{ltb}
use lib.ListN.{length, get_or}
use Rattle.reaction.specs.Places.{place-at}
use Rattle.reaction.proofs.Picking.{four-at}
use Rattle.reaction.proofs.picks.items_at.Statement.{statement}
use Rattle.reaction.proofs.picks.items_at.Tie as tie

four : (c : tie.Start) → length c.args.picks ≡ 4
four c = search rules

-- a pick in use is a place
place : (c : tie.Start) (i : ℕ) → ltb i c.args.k ≡ true → get_or c.args.picks i 0 < 1024
place c i h = place-at 1024 c.args.k c.args.picks c.requires.2 (omega (arith, four c, c.requires.0)) i (ltb-true i c.args.k h)

returns : tie.Need-returns
returns c =
    let a = c.args in
    rw (c.item_at-d.ensures, c.item_at-c.ensures, c.item_at-b.ensures, c.item_at-a.ensures)
    (four-at a.column.now a.picks a.k (four c.before.before.before.before) c.requires.0)

pub items_at_spec : {M : Type 1} → statement M
items_at_spec =
    tie.close
    (tie.spec
    (λ c. search rules) (λ c κs. (c.requires.1, place c 0)) (λ c. search rules) (λ c κs. (c.requires.1, place c.before 1)) (λ c. search rules)
    (λ c κs. (c.requires.1, place c.before.before 2))
    (λ c. search rules) (λ c κs. (c.requires.1, place c.before.before.before 3)) returns)
