-- `enter_all` meets its contract: what the entries ahead have to do with the sets is what they all have to do.
use Prim.Native.Nat.{ℕ, ◌-◌}
use mathlib.Core.Path.{◌≡◌, refl, sym, ◌∙◌}
use mathlib.Core.Bool.{◌&&◌, ◌||◌, false≢true}
use borrow.Author.Rules.{rules}
use borrow.Author.Tests.{not-true, not-false}
use lib.Dec.{eqb}
use lib.ListN.{length}
use Rattle.lists.specs.Lists.{all, any, distinct}
use Rattle.lists.specs.Ahead.{Ahead, ahead-start, ahead-here, ahead-next, ahead-done}
use Rattle.semantics.specs.State.{entry_ok, entries_of, mark_values, is_own_mark}
use Rattle.wellformed.specs.States.{entries_from, entries-tails}
use Rattle.state_check.proofs.Marks.{fine, fine-all, fine-none, fine-fails, fine-next, owns, owns-start, owns_none, owns-next}
use Rattle.state_check.proofs.entries.enter_all.Statement.{statement}
use Rattle.state_check.proofs.entries.enter_all.Tie as tie

abbrev Inv : tie.invariant-loop-i
Inv z next owners items own₀ met₀ i₀ own met i =
    (length owners ≡ length items)
    × (length own ≡ 1024)
    × (length met ≡ 1024)
    × Ahead (entries_from owners items) (length owners) (fine z next met) i
    (all (entry_ok z next) (entries_of 0 owners items) && distinct (mark_values (entries_of 0 owners items)))
    × ((u : ℕ) → Ahead (entries_from owners items) (length owners) (owns u own) i (eqb u 0 || any (is_own_mark u) (entries_of 0 owners items)))

abbrev μ : tie.decreases-loop-i
μ z next owners items own₀ met₀ i₀ own met i = length owners - i

loop-holds : tie.Need-loop-i-init Inv μ
unfolding entries_from
loop-holds c =
    let start = c.requires in
    (start.0, start.1.size, refl, rw (← fine-all _ _ _) (ahead-start _ _ _), λ u. rw (← owns-start start.1 u _) (ahead-start _ _ _))

returns : tie.Need-returns-then-not-enter Inv μ
returns c =
    let l = c.loop-i in
    let more = c.loop-i-test.true in
    let fails = sym (c.enter.ensures l.i).answer ∙ not-true _ c.if-not-enter.true-raw in
    record { answer = ahead-here (entries-tails _ _ l.invariant.0) l.invariant.3 more _ (λ es. fine-fails _ _ _ _ es fails); set = λ q. absurd (false≢true q) }

loop-again : tie.Need-loop-i-preserved Inv μ
loop-again c =
    let l = c.loop-i in
    let more = c.loop-i-test.true in
    let tails = entries-tails _ _ l.invariant.0 in
    let done = c.enter.ensures l.i in
    let ok = not-false _ c.if-not-enter.false-raw in
    let t = done.sets ok in (
      l.invariant.0,
      t.own-size,
      t.met-size,
      ahead-next tails l.invariant.3 more _ (λ es. fine-next _ _ _ _ es (sym done.answer ∙ ok) t),
      λ u. ahead-next tails (l.invariant.4 u) more _ (owns-next t u),
    )

returns-2 : tie.Need-returns Inv μ
returns-2 c =
    let v = c.loop-i.invariant in
    let tails = entries-tails _ _ v.0 in
    record {
      answer = sym (fine-none _ _ _) ∙ ahead-done tails v.3 c.loop-i-test.false;
      set = λ q. record { size = v.1; holds = λ u. sym (owns_none u _) ∙ ahead-done tails (v.4 u) c.loop-i-test.false };
    }

pub enter_all_spec : {M : Type 1} → statement M
enter_all_spec =
    tie.close
    (tie.spec Inv μ loop-holds (λ c. search rules) (λ c. search rules) (λ c. search rules) (λ c. search rules)
    (λ c κs. search rules) returns (λ c. search rules) (λ c. search rules) loop-again returns-2)
