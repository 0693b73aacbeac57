-- `has_inside` meets its contract: whether an entry so far is a message inside.
use borrow.Author.Rules.{rules}
use Prim.Native.Nat.{ℕ, ◌-◌}
use mathlib.Core.Bool.{◌&&◌}
use mathlib.Core.List.{List}
use lib.ListN.{get_or}
use Rattle.lists.specs.Lists.{any}
use Rattle.lists.specs.Rows.{rows, rows_from, rows-tails}
use Rattle.lists.specs.Found.{Finding, finding-start, finding-next, finding-done}
use Rattle.semantics.specs.State.{owned}
use Rattle.state.specs.Working.{row_of}
use Rattle.first_end.specs.OpenEnds.{is_inside}
use Rattle.first_end.proofs.FirstIds.{inside-by-item}
use Rattle.first_end.proofs.pass.has_inside.Statement.{statement}
use Rattle.first_end.proofs.pass.has_inside.Tie as tie

abbrev Inv : tie.invariant-loop-i
Inv owners items n id globals outside found₀ i₀ found i =
    (gs : List ℕ) → Finding (λ e. owned id e && is_inside globals e) (rows_from (row_of owners items gs) n) n found i
    (any (λ e. owned id e && is_inside globals e) (rows (row_of owners items gs) 0 n))

abbrev μ : tie.decreases-loop-i
μ owners items n id globals outside found₀ i₀ found i = n - i

loop-holds : tie.Need-loop-i-init Inv μ
loop-holds c gs = finding-start _ _ _

loop-again : tie.Need-loop-i-preserved Inv μ
loop-again c gs =
    let l = c.loop-i in
    let item = get_or c.args.items.now l.i 0 in
    rw (c.kind_of-kind.ensures, inside-by-item item _ c.args.globals (c.messages_end-outside.ensures item))
    (finding-next (rows-tails _ _) (l.invariant gs) c.loop-i-test.true)

returns : tie.Need-returns Inv μ
returns c gs = finding-done (rows-tails _ _) (c.loop-i.invariant gs) c.loop-i-test.false

pub has_inside_spec : {M : Type 1} → statement M
has_inside_spec =
    tie.close
    (tie.spec
    Inv μ (λ c κs. search rules) loop-holds (λ c. search rules) (λ c. search rules) (λ c. search rules) (λ c. search rules)
    (λ c κs. search rules) (λ c. search rules) (λ c. search rules) loop-again returns)
