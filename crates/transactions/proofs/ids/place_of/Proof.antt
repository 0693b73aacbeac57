-- `place_of` meets its contract: the place of the id is among those that are left.
use Prim.Native.Nat.{◌+◌, ◌≤◌}
use borrow.Author.Rules.{rules}
use native.Mathlib.Omega.{arith}
use Rattle.lists.specs.Ascending.{PlaceIn, place-half, place-left}
use Rattle.transactions.proofs.ids.place_of.Statement.{statement}
use Rattle.transactions.proofs.ids.place_of.Tie as tie

abbrev Inv : tie.invariant-loop-size
Inv ids m id from₀ size₀ from size = PlaceIn ids id from size × (from + size ≤ m)

abbrev μ : tie.decreases-loop-size
μ ids m id from₀ size₀ from size = size

loop-holds : tie.Need-loop-size-init Inv μ
loop-holds c = (c.requires.2, omega arith)

loop-again : tie.Need-loop-size-preserved Inv μ
loop-again c =
    let (p, w) = c.loop-size.invariant in
    place-half c.requires.1 p w (omega (arith, c.loop-size-test.true)) c.later-from.ensures

returns : tie.Need-returns Inv μ
returns c =
    let (p, w) = c.loop-size.invariant in
    let (here, some) = place-left p c.loop-size-test.false in
    (omega arith, here)

pub place_of_spec : {M : Type 1} → statement M
place_of_spec =
    tie.close
    (tie.spec
    Inv μ loop-holds (λ c. search rules) (λ c. search rules) (λ c. search rules) (λ c. search rules)
    (λ c κs. search rules) (λ c. search rules) (λ c. search rules) loop-again returns)
