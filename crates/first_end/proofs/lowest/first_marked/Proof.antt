-- `first_marked` meets its contract: the lowest id so far.
use borrow.Author.Rules.{rules}
use Prim.Native.Nat.{ℕ, ◌-◌}
use mathlib.Core.List.{List}
use lib.ListN.{get_or}
use Rattle.lists.specs.Rows.{rows}
use Rattle.lists.specs.Lowest.{lowest_key, LowestSoFar, lowest_start, lowest-next, lowest-done}
use Rattle.state.specs.Working.{row_of}
use Rattle.transactions.specs.Sets.{stops}
use Rattle.first_end.proofs.lowest.first_marked.Statement.{statement}
use Rattle.first_end.proofs.lowest.first_marked.Tie as tie

abbrev Inv : tie.invariant-loop-i
Inv owners items n low₀ i₀ low i = (gs : List ℕ) → LowestSoFar stops (λ e. e.owner) 65536 (row_of owners items gs) n low i
    (lowest_key stops (λ e. e.owner) 65536 65536 (rows (row_of owners items gs) 0 n))

abbrev μ : tie.decreases-loop-i
μ owners items n low₀ i₀ low i = n - i

loop-holds : tie.Need-loop-i-init Inv μ
loop-holds c gs = lowest_start _ _ _ _ _ _

loop-again : tie.Need-loop-i-preserved Inv μ
loop-again c gs =
    let l = c.loop-i in
    lowest-next _ _ _ (l.invariant gs) c.loop-i-test.true (c.lower_marked-low.ensures (get_or gs l.i 0))

returns : tie.Need-returns Inv μ
returns c gs = lowest-done _ _ _ (c.loop-i.invariant gs) c.loop-i-test.false

pub first_marked_spec : {M : Type 1} → statement M
first_marked_spec =
    tie.close
    (tie.spec
    Inv μ loop-holds (λ c. search rules) (λ c. search rules) (λ c. search rules) (λ c. search rules)
    (λ c κs. search rules) (λ c. search rules) (λ c. search rules) loop-again returns)
