-- `marked_between` meets its contract: `found` is of the entries before i.
use Prim.Native.Nat.{ℕ, ◌-◌}
use mathlib.Core.List.{List, [], ◌∷◌}
use borrow.Author.Rules.{rules}
use Rattle.lists.specs.Lists.{any}
use Rattle.lists.specs.Rows.{rows_from, rows-tails}
use Rattle.lists.specs.Found.{Finding, finding-from, finding-next, finding-done}
use Rattle.state.specs.Working.{row_of}
use Rattle.state.specs.Lent.{Columns}
use Rattle.abort_marks.specs.Marked.{abort_mark_in}
use Rattle.abort_marks.proofs.marked_between.Statement.{statement}
use Rattle.abort_marks.proofs.marked_between.Tie as tie

abbrev Inv : tie.invariant-loop-i
Inv owners items from end a b c d found₀ i₀ found i =
    Columns owners items end
    × ((gs : List ℕ) → Finding (abort_mark_in (a ∷ b ∷ c ∷ d ∷ [])) (rows_from (row_of owners items gs) end) end found i
    (any (abort_mark_in (a ∷ b ∷ c ∷ d ∷ [])) (rows_from (row_of owners items gs) end from)))

abbrev μ : tie.decreases-loop-i
μ owners items from end a b c d found₀ i₀ found i = end - i

loop-holds : tie.Need-loop-i-init Inv μ
loop-holds c = (c.requires.0, λ gs. finding-from _ _ _ _ c.requires.1)

loop-again : tie.Need-loop-i-preserved Inv μ
loop-again c =
    let l = c.loop-i in
    (l.invariant.0, λ gs. rw (c.kind_of.ensures, c.one_of.ensures) (finding-next (rows-tails _ _) (l.invariant.1 gs) c.loop-i-test.true))

returns : tie.Need-returns Inv μ
returns c gs = finding-done (rows-tails _ _) (c.loop-i.invariant.1 gs) c.loop-i-test.false

pub marked_between_spec : {M : Type 1} → statement M
marked_between_spec =
    tie.close
    (tie.spec
    Inv μ loop-holds (λ c. search rules) (λ c. search rules) (λ c κs. search rules) (λ c. search rules) (λ c. search rules) (λ c κs. search rules)
    (λ c. search rules) (λ c. search rules) loop-again returns)
