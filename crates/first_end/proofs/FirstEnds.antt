-- The id that the code tells is that of the first open end.
use Prim.Native.Nat.{ℕ, suc, ◌-◌, ◌≤◌, ◌<◌}
use mathlib.Core.Bool.{Bool, true, false, ◌&&◌, not, and-true}
use mathlib.Core.List.{List, [], ◌∷◌, ◌++◌, map}
use mathlib.Core.Path.{◌≡◌, refl, sym, ap, ◌∙◌, fun_ext}
use native.Mathlib.Nat.{zero-add}
use native.Mathlib.Omega.{arith}
use borrow.Author.Tests.{eqb-true, eq-eqb, ltb-true, ltb-false, lt-ltb, not-true}
use lib.Dec.{ltb}
use lib.ListN.{length, get_or}
use Rattle.lists.specs.Lists.{any, keep, up_from}
use Rattle.lists.specs.Choices.{by_bool, and_intro, and_left, and_right}
use Rattle.lists.specs.Tests.{and_both, and-right-false}
use Rattle.lists.specs.Members.{Among, any_some, any-intro, among-place}
use Rattle.lists.specs.Rows.{rows, length-rows, get_d_rows}
use Rattle.lists.specs.Parts.{keep_append}
use Rattle.lists.specs.Lowest.{lowest_key}
use Rattle.semantics.specs.Table.{Table}
use Rattle.semantics.specs.State.{Entry, State, is_abort_mark, owned}
use Rattle.semantics.specs.Move.{commit, abort, may_commit, may_abort, nothing}
use Rattle.enabled.specs.Ends.{commits-open, aborts-open}
use Rattle.idset.specs.IdSet.{has}
use Rattle.transactions.specs.Sets.{stops, commit-unblocked, abort-marked}
use Rattle.stopped.specs.Stopped.{StoppedIn}
use Rattle.state.specs.declared.Extent.{Extent}
use Rattle.state.specs.Working.{row_of}
use Rattle.state.specs.Lent.{state_from}
use Rattle.first_end.specs.First.{first_move}
use Rattle.first_end.specs.OpenEnds.{open_ends, open_aborts, OwnersGiven, is_inside, BlockedIn, is_above, is_owned, free_of, holders, FirstId}
use Rattle.first_end.proofs.Commits.{commit-unstopped, outside-commits}
use Rattle.first_end.proofs.FirstIds.{lowest-id, first_holds, none-fewer, first-fewer, ByTurn, turn-from, turn-next, turn_end, turn-none}

-- the owner of an entry, as the test of columns says it
owner-below : (os ws gs : List ℕ) (at : Extent) → OwnersGiven os at → (e : Entry) → Among e (rows (row_of os ws gs) 0 at.len) → 1 ≤ e.owner
    → e.owner < at.next
owner-below os ws gs at given e m l =
    let row = row_of os ws gs in
    let (p, b, q) = among-place nothing (rows row 0 at.len) e m in
    let k : p < at.len = rw length-rows at b in
    let f : e.owner ≡ get_or os p 0 = ap (λ (x : Entry). x.owner) (sym q ∙ get_d_rows nothing row 0 at.len p k ∙ ap row (zero-add p)) in
    omega (arith, given p k (λ z. omega arith))

-- one transaction after the other, as far as the first that may be committed
abbrev pub CommitInTurn : List ℕ → List ℕ → List ℕ → Extent → Table → ℕ → Type 0
CommitInTurn os ws gs at T low =
    let es = rows (row_of os ws gs) 0 at.len in
    ByTurn (holders es (λ v. may_commit T v (state_from os ws gs at))) (holders es (λ _. true)) at.next low

module _ (os ws gs : List ℕ) (at : Extent) (last : at.next ≤ 65536) (given : OwnersGiven os at) where
  abbrev es : List Entry
  es = rows (row_of os ws gs) 0 at.len

  abbrev S : State
  S = state_from os ws gs at

  abbrev ids : List ℕ
  ids = up_from 1 (at.next - 1)

  -- ---- the lowest owner above a of which m holds

  module _ (a : ℕ) (m : ℕ → Bool) where
    abbrev is_held : Entry → Bool
    is_held e = is_above a e && m e.owner

    holder-there : (v : ℕ) → a < v → holders es m v ≡ true → (e : Entry) × Among e es × (is_held e ≡ true) × (e.owner ≡ v)
    holder-there v l h =
        let (e, i, o) = any_some (owned v) es (and_left (any (owned v) es) (m v) h) in
        let q = eqb-true e.owner v o in
        (e, i, rw q (and_intro (lt-ltb a v l) (and_right (any (owned v) es) (m v) h)), q)

    holder-back : (e : Entry) → Among e es → is_held e ≡ true → (a < e.owner) × (e.owner < at.next) × (holders es m e.owner ≡ true)
    holder-back e i h =
        let l = ltb-true a e.owner (and_left (is_above a e) (m e.owner) h) in (
          l,
          owner-below os ws gs at given e i (omega arith),
          and_intro (any-intro (owned e.owner) es e i (eq-eqb e.owner e.owner refl)) (and_right (is_above a e) (m e.owner) h),
        )

    pub lowest-holder : {v : ℕ} → v ≡ lowest_key is_held (λ e. e.owner) 65536 65536 es → FirstId (holders es m) (suc a) at.next v
    lowest-holder = lowest-id is_held (λ e. e.owner) (holders es m) (suc a) at.next es holder-there holder-back last

  abbrev any_owner : ℕ → Bool
  any_owner = holders es (λ _. true)

  lowest-owner : (a : ℕ) {v : ℕ} → v ≡ lowest_key (is_above a) (λ e. e.owner) 65536 65536 es → FirstId any_owner (suc a) at.next v
  lowest-owner a is =
      let same : ◌≡◌ {A = Entry → Bool} (is_above a) (λ e. is_above a e && true) = fun_ext (λ e. sym (and-true (is_above a e))) in
      lowest-holder a (λ _. true) (is ∙ ap (λ (q : Entry → Bool). lowest_key q (λ e. e.owner) 65536 65536 es) same)

  any-owner : (m : ℕ → Bool) (v : ℕ) → holders es m v ≡ true → any_owner v ≡ true
  any-owner m v h = and_intro (and_left (any (owned v) es) (m v) h) refl

  -- where m holds of the lowest of all
  pub lowest-stays : (m : ℕ → Bool) {v : ℕ} → v ≡ lowest_key is_owned (λ e. e.owner) 65536 65536 es → v < 65536 → m v ≡ true
      → FirstId (holders es m) 1 at.next v
  lowest-stays m {v} is l h =
      let first = lowest-owner 0 is in
      first-fewer (any-owner m) first (and_intro (and_left (any (owned v) es) true (first_holds first l).1) h)

  -- ---- one transaction after the other

  pub found-above : (a : ℕ) {v : ℕ} → a < 65536 → v ≡ lowest_key (is_above a) (λ e. e.owner) 65536 65536 es → a < v
  found-above a {v} l is = by_bool (ltb v 65536)
      (λ t. (first_holds (lowest-owner a is) (ltb-true v 65536 t)).0)
      (λ t. omega (arith, ltb-false v 65536 t))

  pub turn-above : (T : Table) {low next : ℕ} → CommitInTurn os ws gs at T low → low < 65536 → false ≡ may_commit T low S
      → next ≡ lowest_key (is_above low) (λ e. e.owner) 65536 65536 es → CommitInTurn os ws gs at T next
  turn-above T {low} t l stays is =
      turn-next (any-owner (λ v. may_commit T v S)) t l (and-right-false (any (owned low) es) (sym stays)) (lowest-owner low is)

  -- ---- the lowest abort mark

  abbrev aborts : ℕ → Bool
  aborts = holders es (λ v. may_abort v S)

  abort-there : (v : ℕ) → 1 ≤ v → aborts v ≡ true → (e : Entry) × Among e es × (stops e ≡ true) × (e.owner ≡ v)
  abort-there v l h =
      let (e, m, k) = any_some (λ e. owned v e && is_abort_mark e) es (sym (abort-marked v S) ∙ and_right (any (owned v) es) (may_abort v S) h) in
      let q = eqb-true e.owner v (and_left (owned v e) (is_abort_mark e) k) in
      (e, m, and_intro (lt-ltb 0 e.owner (omega arith)) (and_right (owned v e) (is_abort_mark e) k), q)

  abort-back : (e : Entry) → Among e es → stops e ≡ true → (1 ≤ e.owner) × (e.owner < at.next) × (aborts e.owner ≡ true)
  abort-back e m h =
      let l = ltb-true 0 e.owner (and_left (is_owned e) (is_abort_mark e) h) in
      let own = eq-eqb e.owner e.owner refl in (
        l,
        owner-below os ws gs at given e m l,
        and_intro (any-intro (owned e.owner) es e m own)
            (abort-marked e.owner S ∙ any-intro (λ x. owned e.owner x && is_abort_mark x) es e m
            (and_intro own (and_right (is_owned e) (is_abort_mark e) h))),
      )

  lowest-marked : {v : ℕ} → v ≡ lowest_key stops (λ e. e.owner) 65536 65536 es → FirstId aborts 1 at.next v
  lowest-marked = lowest-id stops (λ e. e.owner) aborts 1 at.next es abort-there abort-back last

  -- ---- the first end

  module _ (T : Table) (ceiling : ℕ) (few : at.len ≤ ceiling) where
    few-entries : length S.entries ≤ ceiling
    few-entries = rw length-rows few

    module _ {marked : ℕ} (is : marked ≡ lowest_key stops (λ e. e.owner) 65536 65536 es) where
      pub abort-first : marked < 65536 → first_move (abort marked ∷ []) ≡ first_move (open_aborts ceiling T S)
      abort-first l = rw (aborts-open ceiling T S few-entries, (lowest-marked is).some l)

      pub none-to-abort : 65536 ≤ marked → first_move [] ≡ first_move (open_aborts ceiling T S)
      none-to-abort l = rw (aborts-open ceiling T S few-entries, (lowest-marked is).none l)

    abbrev commits : ℕ → Bool
    commits = holders es (λ v. may_commit T v S)

    in_parts : open_ends ceiling T S ≡ map commit (keep commits ids) ++ open_aborts ceiling T S
    in_parts = keep_append _ (map commit ids) (map abort ids) ∙ rw (commits-open ceiling T S few-entries)

    commit-first : {v : ℕ} → FirstId commits 1 at.next v → v < 65536 → first_move (commit v ∷ []) ≡ first_move (open_ends ceiling T S)
    commit-first first l = rw (in_parts, first.some l)

    no-commit : keep commits ids ≡ [] → first_move (open_aborts ceiling T S) ≡ first_move (open_ends ceiling T S)
    no-commit none = rw (in_parts, none)

    -- no transaction is open
    pub no-owner : {lowest : ℕ} → lowest ≡ lowest_key is_owned (λ e. e.owner) 65536 65536 es → 65536 ≤ lowest
        → first_move [] ≡ first_move (open_ends ceiling T S)
    no-owner is l =
        let first = lowest-owner 0 is in
        let none = none-fewer (any-owner (λ v. may_abort v S)) first l in
        rw (in_parts, aborts-open ceiling T S few-entries, none, none-fewer (any-owner (λ v. may_commit T v S)) first l)

    pub turn-commits : {low : ℕ} → CommitInTurn os ws gs at T low → low < 65536 → true ≡ may_commit T low S
        → first_move (commit low ∷ []) ≡ first_move (open_ends ceiling T S)
    turn-commits {low} t l may =
        let owns = and_left (any (owned low) es) true (first_holds t.first l).1 in
        commit-first (turn_end (any-owner (λ v. may_commit T v S)) t (and_intro owns (sym may))) l

    pub turns-over : {low : ℕ} → CommitInTurn os ws gs at T low → 65536 ≤ low → first_move (open_aborts ceiling T S) ≡ first_move (open_ends ceiling T S)
    turns-over t l = no-commit (turn-none (any-owner (λ v. may_commit T v S)) t l)

    module _ (globals : ℕ) (ports : T.sizes.globals ≡ globals) where
      -- ---- all that is blocked is known

      module _ {blocked : List ℕ} (are : BlockedIn globals es blocked) {free : ℕ}
          (is : free ≡ lowest_key (free_of blocked) (λ e. e.owner) 65536 65536 es) where
        lowest-commit : FirstId commits 1 at.next free
        lowest-commit =
            let same : ◌≡◌ {A = ℕ → Bool} (λ v. not (has blocked v)) (λ v. may_commit T v S) =
            fun_ext (λ v. sym (commit-unblocked T v S ∙ rw (ports, are.are v))) in
            rw same at (lowest-holder 0 (λ v. not (has blocked v)) is)

        pub free-first : free < 65536 → first_move (commit free ∷ []) ≡ first_move (open_ends ceiling T S)
        free-first = commit-first lowest-commit

        pub none_free : 65536 ≤ free → first_move (open_aborts ceiling T S) ≡ first_move (open_ends ceiling T S)
        none_free l = no-commit (lowest-commit.none l)

      -- ---- those with an abort mark are known

      module _ {stopped : List ℕ} (are : StoppedIn es stopped) where
        commit-holder : (v : ℕ) → commits v ≡ true → holders es (λ v. not (has stopped v)) v ≡ true
        commit-holder v h =
            let (o, k) = and_both (any (owned v) es) (may_commit T v S) h in
            and_intro o (commit-unstopped T S ports are v k)

        module _ {free : ℕ} (first : FirstId (holders es (λ v. not (has stopped v))) 1 at.next free) where
          pub all-stopped : 65536 ≤ free → first_move (open_aborts ceiling T S) ≡ first_move (open_ends ceiling T S)
          all-stopped l = no-commit (none-fewer commit-holder first l)

          pub outside-first : free < 65536 → any (λ e. owned free e && is_inside globals e) es ≡ false
              → first_move (commit free ∷ []) ≡ first_move (open_ends ceiling T S)
          outside-first l none =
              let (k, h) = first_holds first l in
              let (owns, out) = and_both (any (owned free) es) (not (has stopped free)) h in
              let may = sym (outside-commits T S ports are free k (not-true (has stopped free) out)) ∙ ap not none in
              commit-first (first-fewer commit-holder first (and_intro owns may)) l

          -- the others come behind it
          pub turn-behind : free < 65536 → any (λ e. owned free e && is_inside globals e) es ≡ true → {low : ℕ}
              → low ≡ lowest_key (is_above free) (λ e. e.owner) 65536 65536 es → CommitInTurn os ws gs at T low
          turn-behind l inside is =
              let (k, h) = first_holds first l in
              let (owns, out) = and_both (any (owned free) es) (not (has stopped free)) h in
              let stays = sym (outside-commits T S ports are free k (not-true (has stopped free) out)) ∙ ap not inside in
              turn-from commit-holder first l (and-right-false (any (owned free) es) stays) (lowest-owner free is)
