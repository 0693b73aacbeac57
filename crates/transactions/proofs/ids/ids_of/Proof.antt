-- `ids_of` meets its contract: a walk through the set from 1 to next.
use Prim.Native.Nat.{◌-◌}
use borrow.Author.Rules.{rules}
use Rattle.idset.specs.IdSet.{has}
use Rattle.transactions.proofs.Collecting.{Collecting, collecting-start, collecting-room, collecting-next, collecting-done}
use Rattle.transactions.proofs.ids.ids_of.Statement.{statement}
use Rattle.transactions.proofs.ids.ids_of.Tie as tie

abbrev Inv : tie.invariant-loop-v
Inv set next ids₀ n₀ v₀ ids n v = Collecting (has set) next ids n v

abbrev μ : tie.decreases-loop-v
μ set next ids₀ n₀ v₀ ids n v = next - v

loop-holds : tie.Need-loop-v-init Inv μ
loop-holds c = collecting-start _ _ c.requires.0 c.requires.2

add-if-requires : tie.Need-add_if-n-requires Inv μ
add-if-requires c κs =
    let l = c.loop-v in
    let more = c.loop-v-test.true in
    (search rules, l.invariant.size, l.invariant.fits, collecting-room l.invariant more c.requires.3)

loop-again : tie.Need-loop-v-preserved Inv μ
loop-again c =
    let t = c.behind-v.ensures in
    collecting-next c.loop-v.invariant c.add_if-n.ensures t.onward t.within t.none

returns : tie.Need-returns Inv μ
returns c = collecting-done c.loop-v.invariant c.loop-v-test.false

pub ids_of_spec : {M : Type 1} → statement M
ids_of_spec =
    tie.close (tie.spec Inv μ loop-holds add-if-requires (λ c κs. search rules) (λ c. search rules) loop-again returns)
