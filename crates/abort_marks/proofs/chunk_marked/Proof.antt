-- `chunk_marked` meets its contract: `found` is of the items before i.
use Prim.Native.Nat.{ℕ, ◌+◌, ◌-◌, ◌≤◌}
use mathlib.Core.List.{List}
use mathlib.Core.Path.{◌≡◌, ap, ◌∙◌}
use native.Mathlib.Omega.{arith}
use borrow.Author.Rules.{rules}
use lib.ListN.{length}
use Rattle.lists.specs.Lists.{any}
use Rattle.lists.specs.Rows.{rows, rows_from, rows-tails}
use Rattle.lists.specs.Found.{Finding, finding-from, finding-next, finding-done}
use Rattle.semantics.specs.State.{is_abort_mark}
use Rattle.state.specs.Working.{row_of}
use Rattle.abort_marks.proofs.chunk_marked.Statement.{statement}
use Rattle.abort_marks.proofs.chunk_marked.Tie as tie

abbrev Inv : tie.invariant-loop-i
Inv items from end found₀ i₀ found i =
    (end ≡ from + 32) × (end ≤ 1024) × (length items ≡ 1024)
    × ((os gs : List ℕ) → Finding is_abort_mark (rows_from (row_of os items gs) end) end found i (any is_abort_mark (rows_from (row_of os items gs) end from)))

abbrev μ : tie.decreases-loop-i
μ items from end found₀ i₀ found i = end - i

loop-holds : tie.Need-loop-i-init Inv μ
loop-holds c = (search rules, c.requires.0, c.requires.1, λ os gs. finding-from _ _ _ _ (omega arith))

loop-again : tie.Need-loop-i-preserved Inv μ
loop-again c =
    let l = c.loop-i in
    (l.invariant.0, l.invariant.1, l.invariant.2, λ os gs. rw c.kind_of.ensures (finding-next (rows-tails _ _) (l.invariant.3 os gs) c.loop-i-test.true))

returns : tie.Need-returns Inv μ
returns c os gs =
    let l = c.loop-i in
    let a = c.args in
    let long : a.from + 32 - a.from ≡ 32 = omega arith in
    finding-done (rows-tails _ _) (l.invariant.3 os gs) c.loop-i-test.false ∙ ap (λ (k : ℕ). any is_abort_mark (rows (row_of os a.items.now gs) a.from k)) long

pub chunk_marked_spec : {M : Type 1} → statement M
chunk_marked_spec =
    tie.close
    (tie.spec
    Inv μ (λ c. search rules) loop-holds (λ c. search rules) (λ c. search rules) (λ c κs. search rules) (λ c. search rules) (λ c. search rules)
    loop-again returns)
