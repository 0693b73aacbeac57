-- `any_owned` meets its contract: `found` is of the owners before i.
use Prim.Native.Nat.{◌-◌, ◌≤◌}
use mathlib.Core.Bool.{not}
use mathlib.Core.Path.{ap, ◌∙◌}
use borrow.Author.Rules.{rules}
use lib.Dec.{eqb}
use lib.ListN.{length, get_or}
use Rattle.lists.specs.Rows.{rows, rows_from, rows-tails, rows_take}
use Rattle.lists.specs.Found.{Finding, finding-start, finding-next, finding-done}
use Rattle.state.specs.Owners.{some_owned}
use Rattle.state.proofs.owners.any_owned.Statement.{statement}
use Rattle.state.proofs.owners.any_owned.Tie as tie

abbrev Inv : tie.invariant-loop-i
Inv owners n found₀ i₀ found i =
    (n ≤ length owners) × Finding (λ o. not (eqb o 0)) (rows_from (λ k. get_or owners k 0) n) n found i (some_owned (rows (λ k. get_or owners k 0) 0 n))

abbrev μ : tie.decreases-loop-i
μ owners n found₀ i₀ found i = n - i

loop-again : tie.Need-loop-i-preserved Inv μ
loop-again c =
    let l = c.loop-i in
    (l.invariant.0, finding-next (rows-tails _ _) l.invariant.1 c.loop-i-test.true)

returns : tie.Need-returns Inv μ
returns c =
    let l = c.loop-i in
    finding-done (rows-tails _ _) l.invariant.1 c.loop-i-test.false ∙ ap some_owned (rows_take 0 _ _ l.invariant.0)

pub any_owned_spec : {M : Type 1} → statement M
any_owned_spec =
    tie.close
    (tie.spec Inv μ (λ c. (c.requires, finding-start _ _ _)) (λ c. search rules) (λ c. search rules) (λ c. search rules) (λ c. search rules) loop-again returns)
