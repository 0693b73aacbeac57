-- `end_transaction` meets its contract: the compaction that frees the transaction's entries of one kind and leaves its others out, and counts the member
-- marks that it passes.
use borrow.Author.Rules.{rules}
use Prim.Native.Nat.{ℕ, ◌-◌, ◌≤◌}
use mathlib.Core.Bool.{◌||◌, not}
use mathlib.Core.Path.{refl, ap, ◌∙◌}
use native.Mathlib.Omega.{arith}
use lib.Dec.{eqb}
use lib.ListN.{get_or}
use Rattle.lists.specs.Lists.{one_if, count_if}
use Rattle.lists.specs.Rows.{rows}
use Rattle.lists.specs.Sift.{sift-keep}
use Rattle.lists.specs.Walk.{below_each}
use Rattle.lists.specs.Counts.{CountedTo, counted-turn}
use Rattle.semantics.specs.State.{owned}
use Rattle.semantics.specs.Move.{freed, ended}
use Rattle.state.specs.Working.{row_of, held, state_in}
use Rattle.state.specs.Arrays.{not-looked, stored_other}
use Rattle.state.specs.Compact.{Compacting, compacting-from, compacting-turn, compacting-done}
use Rattle.ending.specs.Counted.{member_of, members-from, members-done}
use Rattle.ending.proofs.Freeing.{freed-entry, counts-staying, counts-marks, stays-as-is}
use Rattle.ending.proofs.free.end_transaction.Statement.{statement}
use Rattle.ending.proofs.free.end_transaction.Tie as tie

abbrev Inv : tie.invariant-loop-i
Inv owners₀ items₀ origins₀ from id kind n next i₀ w₀ members₀ owners items origins i w members =
    Compacting (λ p e. not (owned id e) || eqb e.kind kind) (freed (λ e. eqb e.kind kind) id)
    (held owners items origins (record { len = n; next = next; unmarked = 0 })) n i w
    (ended (λ e. eqb e.kind kind) id (state_in (held owners₀ items₀ origins₀ (record { len = n; next = next; unmarked = 0 }))))
    × (kind ≤ 1)
    × CountedTo (member_of id) (row_of owners items origins) n i members (count_if (member_of id) (rows (row_of owners₀ items₀ origins₀) 0 n))

abbrev μ : tie.decreases-loop-i
μ owners₀ items₀ origins₀ from id kind n next i₀ w₀ members₀ owners items origins i w members = n - i

loop-holds : tie.Need-loop-i-init Inv μ
unfolding ended state_in
loop-holds c =
    let a = c.args in
    let s = held a.owners.now a.items.now a.origins.now (record { len = a.at.len; next = a.at.next; unmarked = 0 }) in
    let none = c.requires.2 in (
      compacting-from _ _ s _
          (sift-keep (λ e. not (owned a.id e) || eqb e.kind a.kind) (freed (λ e. eqb e.kind a.kind) a.id) 0 (state_in s).entries)
          c.requires.0 c.requires.1 a.from none.within
          (λ k l. stays-as-is a.id a.kind _ (below_each _ a.from k none.none l)),
      c.requires.3,
      members-from a.id _ a.at.len a.from none.within none.none,
    )

loop-again : tie.Need-loop-i-preserved Inv μ
loop-again c =
    let l = c.loop-i in
    let a = c.args in
    let o = get_or l.owners l.i 0 in
    let x = get_or l.items l.i 0 in (
      compacting-turn _ _ l.invariant.0 c.loop-i-test.true _ _ _ _
          (c.same-w.ensures.0 ∙ ap (λ (k : ℕ). one_if (eqb k a.kind)) c.kind_within-within.ensures ∙ counts-staying a.id a.kind o x)
          (λ h. rw (c.owner_after.ensures, c.item_after.ensures)
          (freed-entry a.id a.kind o x (get_or l.origins l.i 0) h)),
      l.invariant.1,
      counted-turn _ l.invariant.2 c.loop-i-test.true
          (c.same-members.ensures.0 ∙ ap (λ (k : ℕ). one_if (eqb k 3)) c.kind_within-within.ensures ∙ counts-marks a.id a.kind o x l.invariant.1)
          c.same-members.ensures.1 _
          (λ k m. stored_other l.owners l.items l.origins l.w _ _ _ k (λ e. omega (arith, l.invariant.0.sifting.behind))),
    )

returns : tie.Need-returns Inv μ
unfolding ended state_in
returns c =
    let l = c.loop-i in
    let done = compacting-done _ _ l.invariant.0 c.loop-i-test.false 0 in (
      record { arrays = l.invariant.0.arrays; holds = done; looked = not-looked refl },
      members-done _ _ l.invariant.2 c.loop-i-test.false 0,
    )

pub end_transaction_spec : {M : Type 1} → statement M
end_transaction_spec =
    tie.close
    (tie.spec
    Inv μ loop-holds (λ c. search rules) (λ c. search rules) (λ c. search rules) (λ c. search rules)
    (λ c. search rules) (λ c. search rules) (λ c κs. search rules) (λ c. search rules) (λ c. search rules)
    (λ c κs. search rules) (λ c. search rules) (λ c. search rules) (λ c. search rules) (λ c. search rules)
    (λ c κs. search rules) (λ c κs. search rules) (λ c. search rules) (λ c κs. search rules) (λ c. search rules) (λ c. search rules) (λ c. search rules)
    loop-again (λ c. let v = c.loop-i.invariant in omega (arith, v.2.few, v.2.within, v.0.small)) returns)
