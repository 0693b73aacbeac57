-- `count_atoms` meets its contract: i words are counted (`Totals`).
use Prim.Native.Nat.{◌-◌}
use lib.ListN.{length}
use borrow.Author.Rules.{rules}
use Rattle.supply.proofs.Totals.{CountingAtoms, counting-start, counting-next, counting-done, counting-low, counting-high}
use Rattle.supply.proofs.count_atoms.Statement.{statement}
use Rattle.supply.proofs.count_atoms.Tie as tie

abbrev Inv : tie.invariant-loop-i
Inv ws globals global aborts totals₀ i₀ totals i = CountingAtoms globals global aborts ws totals₀ totals i

abbrev μ : tie.decreases-loop-i
μ ws globals global aborts totals₀ i₀ totals i = length ws - i

loop-holds : tie.Need-loop-i-init Inv μ
loop-holds c = counting-start _ _ _ _ _ c.requires.size

count-atom-requires : tie.Need-count_atom-requires Inv μ
count-atom-requires c κs =
    let inv = c.loop-i.invariant in
    let given = c.requires in
    (inv.so_far.size, counting-low inv c.loop-i-test.true given, counting-high inv c.loop-i-test.true given)

loop-again : tie.Need-loop-i-preserved Inv μ
loop-again c =
    counting-next c.loop-i.invariant c.loop-i-test.true c.count_atom.ensures

returns : tie.Need-returns Inv μ
returns c = counting-done c.loop-i.invariant c.loop-i-test.false

pub count_atoms_spec : {M : Type 1} → statement M
count_atoms_spec =
    tie.close
    (tie.spec
    Inv
    μ
    loop-holds
    (λ c. search rules)
    (λ c. search rules)
    count-atom-requires
    (λ c. search rules)
    (λ c. search rules)
    loop-again
    returns)
