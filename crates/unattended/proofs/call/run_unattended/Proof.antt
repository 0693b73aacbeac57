-- `run_unattended` meets its contract: each return is a fault at a place of `alone_faults`, or the run (`Calling`).
use mathlib.Core.Logic.{inl}
use mathlib.Core.Path.{sym, ap, ◌∙◌}
use native.Mathlib.Omega.{arith}
use lib.ListN.{length}
use Rattle.semantics.specs.Table.{table_of}
use Rattle.semantics.specs.State.{state_of}
use Rattle.semantics.specs.Answers.{alone_moves}
use Rattle.enabled.specs.Alone.{moves-within}
use Rattle.unattended.proofs.Start.{log-fits}
use Rattle.unattended.proofs.Calling.{alone-fault, alone-over, alone-short, alone-done}
use borrow.Author.Rules.{rules}
use Rattle.unattended.proofs.call.run_unattended.Statement.{statement}
use Rattle.unattended.proofs.call.run_unattended.Tie as tie

returns : tie.Need-returns-in-Denied
returns c =
    alone-fault _ _ _ _ _ (inl (sym c.ready-checked.ensures.verdict ∙ c.in-Denied.is)) c.refused.ensures

returns-2 : tie.Need-returns-then-budget-gt-MAX_BUDGET
returns-2 c =
    alone-over _ _ _ _ (sym c.ready-checked.ensures.verdict ∙ c.in_default.is) c.if-budget-gt-MAX_BUDGET.true c.refused-then-budget-gt-MAX_BUDGET.ensures

returns-3 : tie.Need-returns-then-target-most
returns-3 c =
    alone-short _ _ _ _ (sym c.ready-checked.ensures.verdict ∙ c.in_default.is) c.if-budget-gt-MAX_BUDGET.false c.if-target-most.true
    c.refused-then-target-most.ensures

go-and-tell-requires : tie.Need-go_and_tell-requires
go-and-tell-requires c κs =
    let said = c.ready-checked.ensures in
    (said.ready (sym said.verdict ∙ c.in_default.is), c.if-budget-gt-MAX_BUDGET.false, c.if-target-most.false)

same_length : tie.Need-shape_of-target
same_length c =
    let a = c.args in
    ap length c.go_and_tell.ensures.log
    ∙ log-fits (alone_moves 1024 a.table.now a.state.now a.budget) a.budget a.target.now
    (moves-within 1024 (table_of a.table.now) a.budget 0 (state_of a.state.now)) c.if-target-most.false

returns-4 : tie.Need-returns
returns-4 c =
    alone-done _ _ _ _ (sym c.ready-checked.ensures.verdict ∙ c.in_default.is)
    c.if-budget-gt-MAX_BUDGET.false c.if-target-most.false
    c.go_and_tell.ensures

pub run_unattended_spec : {M : Type 1} → statement M
run_unattended_spec =
    tie.close
    (tie.spec
    (λ c κs. search rules)
    (λ c. search rules)
    (λ c κs. search rules)
    returns
    (λ c. search rules)
    (λ c κs. search rules)
    returns-2
    (λ c. omega (arith, c.if-budget-gt-MAX_BUDGET.false))
    (λ c. omega (arith, c.if-budget-gt-MAX_BUDGET.false))
    (λ c κs. search rules)
    returns-3
    go-and-tell-requires
    same_length
    returns-4)
