-- The list of open moves is what the code goes through, and what it asks of an accepted state.
use Prim.Native.Nat.{ℕ, ◌≤◌, ◌<◌}
use mathlib.Core.Bool.{Bool, true, false, ◌&&◌, not}
use mathlib.Core.List.{List, ◌++◌}
use mathlib.Core.Path.{◌≡◌, refl, sym, ap, ◌∙◌, fun_ext}
use native.Mathlib.Omega.{arith}
use borrow.Author.Tests.{eqb-true, eq-eqb, lt-ltb}
use lib.Dec.{eqb}
use lib.ListN.{length}
use Rattle.lists.specs.Lists.{any}
use Rattle.lists.specs.Choices.{by_bool, clash, is_false, and_left, and_right}
use Rattle.lists.specs.Members.{Among, any_some, any-intro}
use Rattle.lists.specs.Ascending.{PlaceIn}
use Rattle.semantics.specs.Table.{sizes_of, table_of, class_of}
use Rattle.semantics.specs.State.{Entry, State, is_abort_mark, owned, state_of}
use Rattle.semantics.specs.Move.{Move, is_zero, takes_part}
use Rattle.semantics.specs.Answers.{state_verdict, enabled_in}
use Rattle.semantics.specs.declared.Verdict.TheVariants.{Allowed}
use Rattle.wellformed.specs.Tables.{sizes-table_of}
use Rattle.wellformed.specs.States.{state-given}
use Rattle.wellformed.specs.Entries.{StateRight, state-right}
use Rattle.enabled.specs.Keys.{Keyed, takeable, is_local}
use Rattle.enabled.specs.ByRules.{enabled-by-rules}
use Rattle.idset.specs.IdSet.{has}
use Rattle.transactions.specs.Sets.{TransactionSets, abort-marked}
use Rattle.transactions.specs.Ids.{IdsBelow, ids-place}
use Rattle.ends.specs.Listed.{commits-kept, aborts-kept}
use Rattle.eligible.specs.KeyColumn.{outside}
use Rattle.rule_moves.specs.Takes.{reactions_by}
use Rattle.listing.specs.Listing.{ends_by}

module _ (t s : List ℕ) (ok : state_verdict t s ≡ Allowed) where
  abbrev S : State
  S = state_of s

  abbrev n : ℕ
  n = length S.entries

  right : StateRight (sizes_of t) S
  right = state-right (sizes_of t) S (state-given s t ok).2

  module _ (ceiling : ℕ) (room : n ≤ ceiling) {present blocked aborting ids : List ℕ} {m : ℕ}
      (sets : TransactionSets (sizes_of t).globals S.entries present blocked aborting) (listed : IdsBelow S.next (has present) ids m)
      {ks : List ℕ} (keyed : Keyed (sizes_of t) (takes_part S) S.entries ks) where
    globals : (sizes_of t).globals ≡ (table_of t).sizes.globals
    globals = ap (λ z. z.globals) (sym (sizes-table_of t))

    pub enabled-parts : enabled_in ceiling t s ≡ reactions_by ceiling t n S.next ks ++ ends_by ids m blocked aborting
    enabled-parts =
        enabled-by-rules t (state-given s t ok).0 S right ceiling keyed
        ∙ ap (λ (l : List Move). reactions_by ceiling t n S.next ks ++ l)
        (rw (commits-kept ceiling (table_of t) S room globals sets listed, aborts-kept ceiling (table_of t) S room globals sets listed))

  -- what is on a local port belongs to a transaction, whose id has been given out
  local-owner : (part : ℕ → Bool) (e : Entry) → Among e S.entries → is_local (sizes_of t) part e ≡ true → (1 ≤ e.owner) × (e.owner < S.next)
  local-owner part e a l =
      let class = and_right (takeable (sizes_of t) part e) (eqb (class_of (sizes_of t) e.port) 1) l in
      let some : e.owner ≡ 0 → ⊥ = λ z. clash class (rw (lt-ltb e.port (sizes_of t).globals ((right.each e a).global z).1)) in
      let (d, among, k, x, v) = right.own e a some in
      let y = ((right.each d among).member-mark k).value-lt in
      (omega arith, omega arith)

  -- .. so the ids have its place
  pub local-place : {present blocked aborting ids : List ℕ} {m globals : ℕ} → TransactionSets globals S.entries present blocked aborting
      → IdsBelow S.next (has present) ids m → (part : ℕ → Bool) (e : Entry) → Among e S.entries → is_local (sizes_of t) part e ≡ true
      → PlaceIn ids e.owner 0 m
  local-place sets listed part e a l =
      let (low, high) = local-owner part e a l in
      ids-place listed e.owner low high (sets.present-are e.owner ∙ any-intro (owned e.owner) S.entries e a (eq-eqb e.owner e.owner refl))

  -- what is global has no abort mark, and the others that have one take no part
  module _ {present blocked aborting : List ℕ} {globals : ℕ} (sets : TransactionSets globals S.entries present blocked aborting) where
    pub global-outside : has aborting 0 ≡ false
    global-outside = sets.aborting-are 0 ∙ is_false (any (λ e. owned 0 e && is_abort_mark e) S.entries) (λ h.
        let (e, a, k) = any_some (λ e. owned 0 e && is_abort_mark e) S.entries h in
        let o = ((right.each e a).global (eqb-true e.owner 0 (and_left (owned 0 e) (is_abort_mark e) k))).0 in
        let m = eqb-true e.kind 2 (and_right (owned 0 e) (is_abort_mark e) k) in
        omega arith)

    pub outside-part : outside aborting ≡ takes_part S
    outside-part = fun_ext (λ v. by_bool (is_zero v)
        (λ z. rw (eqb-true v 0 z) (ap not global-outside))
        (λ z. rw z (ap not (sets.aborting-are v ∙ sym (abort-marked v S)))))
