-- `counts_after` meets its contract (`Counting`, and `ending`'s laws of its member marks).
use borrow.Author.Rules.{rules}
use Prim.Native.Nat.{ℕ, ◌-◌}
use mathlib.Core.List.{List, []}
use mathlib.Core.Path.{refl}
use native.Mathlib.Omega.{arith}
use lib.Dec.{eqb}
use Rattle.lists.specs.Lists.{count_if}
use Rattle.lists.specs.Rows.{rows}
use Rattle.lists.specs.Counts.{CountedTo, counted-turn}
use Rattle.wellformed.specs.Ends.{stays}
use Rattle.state.specs.Working.{row_of}
use Rattle.ending.specs.Counted.{member_of, members-from, members-done}
use Rattle.preview.proofs.Counting.{entries-from, entries-done}
use Rattle.preview.proofs.ends.counts_after.Statement.{statement}
use Rattle.preview.proofs.ends.counts_after.Tie as tie

abbrev Inv : tie.invariant-loop-i
Inv owners items from id kind n entries₀ members₀ i₀ entries members i = (gs : List ℕ)
    → CountedTo (stays (λ e. eqb e.kind kind) id) (row_of owners items gs) n i entries
    (count_if (stays (λ e. eqb e.kind kind) id) (rows (row_of owners items gs) 0 n))
    × CountedTo (member_of id) (row_of owners items gs) n i members (count_if (member_of id) (rows (row_of owners items gs) 0 n))

abbrev μ : tie.decreases-loop-i
μ owners items from id kind n entries₀ members₀ i₀ entries members i = n - i

loop-holds : tie.Need-loop-i-init Inv μ
loop-holds c gs =
    let none = c.requires.1 in
    (entries-from _ _ _ _ _ none.within none.none, members-from _ _ _ _ none.within none.none)

loop-again : tie.Need-loop-i-preserved Inv μ
loop-again c gs =
    let v = c.loop-i.invariant gs in (
      counted-turn _ v.0 c.loop-i-test.true c.stays-entries.ensures.0 c.stays-entries.ensures.1 _ (λ k l. refl),
      counted-turn _ v.1 c.loop-i-test.true c.member_of-members.ensures.0 c.member_of-members.ensures.1 _ (λ k l. refl),
    )

add-entries : tie.Need-overflow_add-entries Inv μ
add-entries c =
    omega (arith, (c.loop-i.invariant []).0.few, c.stays-entries.ensures.1, c.loop-i-test.true, c.requires.0.fits)

add-members : tie.Need-overflow_add-members Inv μ
add-members c =
    omega (arith, (c.loop-i.invariant []).1.few, c.member_of-members.ensures.1, c.loop-i-test.true, c.requires.0.fits)

returns : tie.Need-returns Inv μ
returns c = (
  λ gs. entries-done _ _ (c.loop-i.invariant gs).0 c.loop-i-test.false _,
  λ gs. members-done _ _ (c.loop-i.invariant gs).1 c.loop-i-test.false 0,
)

pub counts_after_spec : {M : Type 1} → statement M
counts_after_spec =
    tie.close
    (tie.spec
    Inv μ (λ c. omega (arith, c.requires.1.within, c.requires.0.fits)) loop-holds
    (λ c. search rules) (λ c. search rules) (λ c. search rules) (λ c. search rules) (λ c κs. search rules) add-entries
    (λ c κs. search rules) add-members (λ c. search rules) (λ c. search rules) loop-again returns)
