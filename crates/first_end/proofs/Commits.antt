-- Whether a transaction may be committed, where those with an abort mark are known.
use Prim.Native.Nat.{ℕ, ◌≤◌}
use mathlib.Core.Bool.{true, false, ◌&&◌, not}
use mathlib.Core.List.{List}
use mathlib.Core.Path.{◌≡◌, sym, ap, ◌∙◌}
use native.Mathlib.Omega.{arith}
use borrow.Author.Tests.{eqb-true, lt-ltb, not-true}
use Rattle.lists.specs.Lists.{any}
use Rattle.lists.specs.Choices.{by_bool, clash, is_false, and_intro, and_right}
use Rattle.lists.specs.Tests.{and_both, true-or, or-right-true, false-or, same_test}
use Rattle.lists.specs.Members.{any_some, any-intro}
use Rattle.lists.specs.Counting.{any-weaker}
use Rattle.semantics.specs.Table.{Table}
use Rattle.semantics.specs.State.{Entry, State, is_abort_mark, owned}
use Rattle.semantics.specs.Move.{may_commit}
use Rattle.idset.specs.IdSet.{has}
use Rattle.transactions.specs.Sets.{blocks, stops, commit-unblocked}
use Rattle.stopped.specs.Stopped.{StoppedIn}
use Rattle.first_end.specs.OpenEnds.{is_inside, is_owned}

module _ (T : Table) (S : State) {globals : ℕ} (ports : T.sizes.globals ≡ globals) {stopped : List ℕ} (are : StoppedIn S.entries stopped) where
  abbrev es : List Entry
  es = S.entries

  -- an abort mark blocks
  pub commit-unstopped : (v : ℕ) → may_commit T v S ≡ true → not (has stopped v) ≡ true
  commit-unstopped v h =
      let none : any (λ e. owned v e && blocks globals e) es ≡ false =
      not-true _ (ap (λ (g : ℕ). not (any (λ e. owned v e && blocks g e) es)) (sym ports) ∙ sym (commit-unblocked T v S) ∙ h) in
      ap not (are.are v ∙ any-weaker (λ e. owned v e && stops e) (λ e. owned v e && blocks globals e)
      (λ e k. let (o, m) = and_both (owned v e) (stops e) k in and_intro o (true-or _ (and_right (is_owned e) (is_abort_mark e) m))) es none)

  pub stopped-blocked : (v : ℕ) → has stopped v ≡ true → false ≡ may_commit T v S
  stopped-blocked v h = sym (is_false (may_commit T v S) (λ k. clash h (not-true (has stopped v) (commit-unstopped v k))))

  -- nothing else but a message inside does
  only-inside : (v : ℕ) → 1 ≤ v → has stopped v ≡ false
      → any (λ e. owned v e && is_inside globals e) es ≡ any (λ e. owned v e && blocks globals e) es
  only-inside v l out = same_test (any (λ e. owned v e && is_inside globals e) es) (any (λ e. owned v e && blocks globals e) es)
      (λ h.
      let (e, m, k) = any_some (λ e. owned v e && is_inside globals e) es h in
      let (o, b) = and_both (owned v e) (is_inside globals e) k in
      any-intro (λ e. owned v e && blocks globals e) es e m (and_intro o (or-right-true (is_abort_mark e) b)))
      (λ h.
      let (e, m, k) = any_some (λ e. owned v e && blocks globals e) es h in
      let (o, b) = and_both (owned v e) (blocks globals e) k in
      let q = eqb-true e.owner v o in
      by_bool (is_abort_mark e)
      (λ a. absurd (clash (any-intro (λ e. owned v e && stops e) es e m (and_intro o (and_intro (lt-ltb 0 e.owner (omega arith)) a)))
      (sym (are.are v) ∙ out)))
      (λ a. any-intro (λ e. owned v e && is_inside globals e) es e m (and_intro o (sym (false-or (is_inside globals e) a) ∙ b))))

  pub outside-commits : (v : ℕ) → 1 ≤ v → has stopped v ≡ false → not (any (λ e. owned v e && is_inside globals e) es) ≡ may_commit T v S
  outside-commits v l out = rw (commit-unblocked T v S, ports, only-inside v l out)
