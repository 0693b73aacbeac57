-- `unmarked_until` meets its contract: no abort mark stands before `from`.
use Prim.Native.Nat.{◌-◌, ◌%◌, ◌≤◌, ◌<◌}
use mathlib.Core.Path.{◌≡◌, sym, ◌∙◌}
use native.Mathlib.Omega.{arith}
use borrow.Author.Rules.{rules}
use lib.ListN.{length}
use Rattle.state.specs.Arrays.{UnmarkedTo}
use Rattle.abort_marks.proofs.Chunks.{unmarked-more}
use Rattle.abort_marks.proofs.unmarked_until.Statement.{statement}
use Rattle.abort_marks.proofs.unmarked_until.Tie as tie

abbrev Inv : tie.invariant-loop-from
Inv items place n from₀ from = (n ≤ 1024) × (length items ≡ 1024) × (from < n → from % 32 ≡ 0) × UnmarkedTo items from

abbrev μ : tie.decreases-loop-from
μ items place n from₀ from = n - from

loop-holds : tie.Need-loop-from-init Inv μ
loop-holds c =
    let r = c.pass_start-from.ensures in
    (c.requires.0, c.requires.1, r.2, λ j l. c.requires.3 j (omega (arith, r.1)))

loop-again : tie.Need-loop-from-preserved Inv μ
loop-again c =
    let v = c.loop-from.invariant in
    let words = c.args.items.now in (
      v.0,
      v.1,
      (λ l. omega (arith, v.2 c.loop-from-test.true)),
      unmarked-more words c.loop-from.from v.3 c.chunk_marked.ensures c.if-chunk_marked.false,
    )

pub unmarked_until_spec : {M : Type 1} → statement M
unmarked_until_spec =
    tie.close
    (tie.spec
    Inv μ (λ c κs. search rules) loop-holds
    (λ c κs. let v = c.loop-from.invariant in (omega (arith, v.0, v.2 c.loop-from-test.true, c.loop-from-test.true), v.1))
    (λ c. let turn = c in omega (arith, turn.loop-from-test.true, turn.loop-from.invariant.0))
    (λ c. let turn = c in
    (omega (arith, turn.loop-from-test.true), turn.loop-from.invariant.3, λ l os gs. sym (c.chunk_marked.ensures os gs) ∙ c.if-chunk_marked.true))
    (λ c. let turn = c in omega (arith, turn.loop-from-test.true, turn.loop-from.invariant.0))
    (λ c. let turn = c in omega (arith, turn.loop-from-test.true))
    loop-again
    (λ c. omega (arith, c.loop-from.invariant.0))
    (λ c. let v = c.loop-from.invariant in (omega arith, (λ j l. v.3 j (omega (arith, c.loop-from-test.false))), λ l. absurd (omega arith))))
