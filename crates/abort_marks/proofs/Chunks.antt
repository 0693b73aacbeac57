-- The pass chunk by chunk: what it has still to look at, and what that comes to.
use Prim.Native.Nat.{ℕ, ◌+◌, ◌-◌, ◌%◌, ◌≤◌, ◌<◌}
use mathlib.Core.Bool.{Bool, true, false, ◌||◌}
use mathlib.Core.List.{List, [], ◌++◌}
use mathlib.Core.Path.{◌≡◌, refl, sym, ap, ◌∙◌}
use native.Mathlib.Nat.{zero-add}
use native.Mathlib.Omega.{arith}
use borrow.Author.Tests.{eqb-true, eq-eqb, ltb-true, ltb-false}
use lib.Dec.{ltb}
use Rattle.lists.specs.Lists.{any, is_in}
use Rattle.lists.specs.Tests.{same_test}
use Rattle.lists.specs.Choices.{by_bool, and_left, and_right, and_intro}
use Rattle.lists.specs.Neither.{or_left_false}
use Rattle.lists.specs.Members.{any_some, any-intro, among-keep, keep-among, is_in-among, among-is_in}
use Rattle.lists.specs.Counting.{any-weaker}
use Rattle.lists.specs.Found.{none_rows, rows-lack, any_append}
use Rattle.lists.specs.Rows.{rows, rows_from, rows_none, rows_append}
use Rattle.semantics.specs.State.{Entry, State, is_abort_mark, owned}
use Rattle.semantics.specs.Move.{entries_in, may_abort}
use Rattle.words.specs.Search.{ChunkEnd}
use Rattle.state.specs.Working.{row_of}
use Rattle.state.specs.Arrays.{UnmarkedTo}
use Rattle.abort_marks.specs.Marked.{abort_mark_in}

-- one of the transactions has an abort mark: by entries, and by ids
pub marked-ids : (ids : List ℕ) (s : State) → any (abort_mark_in ids) s.entries ≡ any (λ o. may_abort o s) ids
marked-ids ids s = same_test (any (abort_mark_in ids) s.entries) (any (λ o. may_abort o s) ids) forth back
  where
    forth : any (abort_mark_in ids) s.entries ≡ true → any (λ o. may_abort o s) ids ≡ true
    forth h =
        let (e, m, k) = any_some (abort_mark_in ids) s.entries h in
        let o = e.owner in
        any-intro (λ o. may_abort o s) ids o (is_in-among o ids (and_left (is_in o ids) (is_abort_mark e) k))
        (any-intro is_abort_mark (entries_in o s) e (keep-among (owned o) s.entries e m (eq-eqb o o refl)) (and_right (is_in o ids) (is_abort_mark e) k))

    back : any (λ o. may_abort o s) ids ≡ true → any (abort_mark_in ids) s.entries ≡ true
    back h =
        let (o, i, k) = any_some (λ o. may_abort o s) ids h in
        let (e, m, a) = any_some is_abort_mark (entries_in o s) k in
        let (m, w) = among-keep (owned o) s.entries e m in
        let i : is_in e.owner ids ≡ true = rw (eqb-true e.owner o w) (among-is_in o ids i) in
        any-intro (abort_mark_in ids) s.entries e m (and_intro i a)

-- a chunk more without an abort mark
pub unmarked-more : (ws : List ℕ) (from : ℕ) → UnmarkedTo ws from → {r : Bool}
    → ((os gs : List ℕ) → r ≡ any is_abort_mark (rows (row_of os ws gs) from 32)) → r ≡ false
    → UnmarkedTo ws (from + 32)
unmarked-more ws from none e h j l = by_bool (ltb j from)
    (λ k. none j (ltb-true j from k))
    (λ k. rows-lack is_abort_mark (row_of [] ws []) from 32 (sym (e [] []) ∙ h) j (ltb-false j from k) l)

module _ (ids : List ℕ) (row : ℕ → Entry) where
  -- a chunk without an abort mark has none of theirs in its part before `end`
  pub unmarked : (from end : ℕ) → from ≤ end → end ≤ from + 32 → any is_abort_mark (rows row from 32) ≡ false
      → any (abort_mark_in ids) (rows row from (end - from)) ≡ false
  unmarked from end l u h =
      let parts : 32 ≡ (end - from) + (from + 32 - end) = omega arith in
      let first = or_left_false _ _ (sym (any_append is_abort_mark (rows row from (end - from)) (rows row (from + (end - from)) (from + 32 - end)))
      ∙ sym (ap (any is_abort_mark) (ap (rows row from) parts ∙ rows_append row from (end - from) (from + 32 - end))) ∙ h) in
      any-weaker (abort_mark_in ids) is_abort_mark (λ e k. and_right (is_in e.owner ids) (is_abort_mark e) k) (rows row from (end - from)) first

  -- before a chunk: it begins at a multiple of 32, and what is asked of all is asked of the rest
  pub record Passing (n from : ℕ) : Type 0 where
    pub whole : from < n → from % 32 ≡ 0
    pub within : from ≤ n
    pub rest : any (abort_mark_in ids) (rows_from row n from) ≡ any (abort_mark_in ids) (rows row 0 n)

  -- it may begin with the chunk of a place before which no abort mark stands
  pub passing-start : {n from place : ℕ} → ((j : ℕ) → j < place → is_abort_mark (row j) ≡ false) → (from ≤ n) × (from ≤ place) × (from < n → from % 32 ≡ 0)
      → Passing n from
  passing-start {n} {from} none (l, m, h) =
      let parts : n ≡ from + (n - from) = omega arith in
      let before = any-weaker (abort_mark_in ids) is_abort_mark (λ e k. and_right (is_in e.owner ids) (is_abort_mark e) k) (rows row 0 from)
      (none_rows is_abort_mark row 0 from (λ k _ u. none k (omega arith))) in
      record {
        whole = h;
        within = l;
        rest = ap (λ (b : Bool). b || any (abort_mark_in ids) (rows_from row n from)) (sym before)
            ∙ sym (any_append (abort_mark_in ids) (rows row 0 from) (rows_from row n from))
            ∙ sym (ap (any (abort_mark_in ids)) (ap (rows row 0) parts ∙ rows_append row 0 from (n - from)
            ∙ ap (λ (i : ℕ). rows row 0 from ++ rows row i (n - from)) (zero-add from)));
      }

  module _ {n from : ℕ} (p : Passing n from) where
    pub chunk-room : n ≤ 1024 → from < n → from + 32 ≤ 1024
    chunk-room few l = omega (arith, p.whole l)

    module _ {end : ℕ} (c : ChunkEnd from n end) where
      split : any (abort_mark_in ids) (rows row from (end - from)) || any (abort_mark_in ids) (rows_from row n end) ≡ any (abort_mark_in ids) (rows row 0 n)
      split =
          let parts : n - from ≡ (end - from) + (n - end) = omega (arith, c.more, c.within) in
          let behind : from + (end - from) ≡ end = omega (arith, c.more) in
          sym (any_append (abort_mark_in ids) (rows row from (end - from)) (rows_from row n end))
          ∙ sym (ap (any (abort_mark_in ids)) (ap (rows row from) parts ∙ rows_append row from (end - from) (n - end)
          ∙ ap (λ (i : ℕ). rows row from (end - from) ++ rows row i (n - end)) behind))
          ∙ p.rest

      pub passing-found : any (abort_mark_in ids) (rows row from (end - from)) ≡ true → true ≡ any (abort_mark_in ids) (rows row 0 n)
      passing-found h = ap (λ (b : Bool). b || any (abort_mark_in ids) (rows_from row n end)) (sym h) ∙ split

      pub passing-next : from < n → any (abort_mark_in ids) (rows row from (end - from)) ≡ false → Passing n end
      passing-next l h = record {
        whole = λ k. omega (arith, p.whole l, c.full k);
        within = c.within;
        rest = ap (λ (b : Bool). b || any (abort_mark_in ids) (rows_from row n end)) (sym h) ∙ split;
      }

    pub passing-done : n ≤ from → false ≡ any (abort_mark_in ids) (rows row 0 n)
    passing-done l =
        let z : n - from ≡ 0 = omega arith in
        sym (ap (λ (k : ℕ). any (abort_mark_in ids) (rows row from k)) z ∙ ap (any (abort_mark_in ids)) (rows_none row from)) ∙ p.rest
