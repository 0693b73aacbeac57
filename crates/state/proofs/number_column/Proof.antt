-- `number_column` meets its contract: the first i are filled.
use Prim.Native.Nat.{◌-◌, ◌≤◌}
use native.Mathlib.Omega.{arith}
use borrow.Author.Rules.{rules}
use Rattle.lists.specs.Filled.{Filled, filled_none, filled_more, filled-all}
use Rattle.state.proofs.number_column.Statement.{statement}
use Rattle.state.proofs.number_column.Tie as tie

abbrev Inv : tie.invariant-loop-i
Inv n column₀ i₀ column i = (i ≤ n) × (n ≤ 1024) × Filled 0 (λ k. k) 1024 i column

abbrev μ : tie.decreases-loop-i
μ n column₀ i₀ column i = n - i

loop-holds : tie.Need-loop-i-init Inv μ
loop-holds c = (omega arith, c.requires.0, filled_none 0 _ c.requires.1)

loop-again : tie.Need-loop-i-preserved Inv μ
loop-again c = let v = c.loop-i.invariant in (omega arith, v.1, filled_more 0 v.2 (omega arith))

returns : tie.Need-returns Inv μ
returns c = let v = c.loop-i.invariant in filled-all 0 v.2 (omega arith)

pub number_column_spec : {M : Type 1} → statement M
number_column_spec =
    tie.close
    (tie.spec Inv μ loop-holds (λ c. search rules) (λ c. search rules) (λ c. search rules) (λ c. search rules)
    (λ c. search rules) loop-again returns)
