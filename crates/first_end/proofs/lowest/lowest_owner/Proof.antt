-- `lowest_owner` meets its contract: the lowest id so far.
use borrow.Author.Rules.{rules}
use Prim.Native.Nat.{ℕ, ◌+◌, ◌-◌, ◌<◌}
use mathlib.Core.List.{List}
use lib.ListN.{get_or}
use Rattle.lists.specs.Rows.{rows}
use Rattle.lists.specs.Lowest.{lowest_key, LowestSoFar, lowest_start, lowest-next, lowest-done}
use Rattle.state.specs.Working.{row_of}
use Rattle.first_end.specs.OpenEnds.{is_above}
use Rattle.first_end.proofs.lowest.lowest_owner.Statement.{statement}
use Rattle.first_end.proofs.lowest.lowest_owner.Tie as tie

abbrev Inv : tie.invariant-loop-i
Inv owners n above low₀ i₀ low i = (low < 65536)
    × ((ws gs : List ℕ) → LowestSoFar (is_above above) (λ e. e.owner) 65536 (row_of owners ws gs) n (low + 1) i
    (lowest_key (is_above above) (λ e. e.owner) 65536 65536 (rows (row_of owners ws gs) 0 n)))

abbrev μ : tie.decreases-loop-i
μ owners n above low₀ i₀ low i = n - i

loop-holds : tie.Need-loop-i-init Inv μ
loop-holds c = (search rules, λ ws gs. lowest_start _ _ _ _ _ _)

loop-again : tie.Need-loop-i-preserved Inv μ
loop-again c =
    let l = c.loop-i in (
      search rules,
      λ ws gs. lowest-next _ _ _ (l.invariant.1 ws gs) c.loop-i-test.true (c.lower_owner-low.ensures (get_or ws l.i 0) (get_or gs l.i 0)),
    )

returns : tie.Need-returns Inv μ
returns c ws gs = lowest-done _ _ _ (c.loop-i.invariant.1 ws gs) c.loop-i-test.false

pub lowest_owner_spec : {M : Type 1} → statement M
lowest_owner_spec =
    tie.close
    (tie.spec
    Inv μ loop-holds (λ c. search rules) (λ c. search rules) (λ c κs. search rules) (λ c. search rules) (λ c. search rules)
    loop-again (λ c. search rules) (λ c. search rules) returns)
