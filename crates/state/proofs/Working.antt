-- Laws of the working state: an entry of the start, and what its words are.
use Prim.Native.Nat.{ℕ, ◌+◌, ◌*◌, ◌≤◌, ◌<◌}
use mathlib.Core.Path.{◌≡◌, refl, sym, ◌∙◌}
use mathlib.Core.List.{List, [], ◌∷◌, ◌++◌, map}
use native.Mathlib.Omega.{arith}
use lib.ListN.{length, get_or, take, set, length-append}
use lib.Seq.{length-take-le}
use Rattle.lists.specs.Lists.{over}
use Rattle.lists.specs.Over.{Pasted, over-two, over-column}
use Rattle.lists.specs.Rows.{rows, length-rows, rows_ext, rows_take, map_rows, tails-rows}
use Rattle.lists.specs.Filled.{Filled}
use Rattle.words.specs.Copy.{copied-length, copied-each}
use Rattle.words.specs.Origin.{origin-of-start}
use Rattle.semantics.specs.Words.{item_word}
use Rattle.semantics.specs.State.{entry_of, entries_of, entry_count, next_of, owners_of, items_of, state_of, state_words}
use Rattle.wellformed.specs.RoundTrip.{item_word-fields}
use Rattle.wellformed.specs.States.{StateSized, column_entry, entries_from, entries-tails}
use Rattle.state.specs.Working.{entry_from, row_of, entry_in, state_in, held, Stored}
use Rattle.state.specs.Arrays.{HoldsIn, not-looked, holds_of}
use Rattle.state.specs.declared.State.{State}

-- an entry of the start has its place as its origin
from_place : (i o w : ℕ) → i < 1024 → entry_from o w i ≡ entry_of i o w
from_place i o w h = rw (origin-of-start i h)

-- a column of the words copied
pub copied-column : (from column after : List ℕ) (n : ℕ) → n ≤ length from → length column ≡ 1024 → n ≤ 1024 → after ≡ over (take n from) column
    → Filled 0 (λ k. get_or from k 0) 1024 n after
copied-column from column after n h size few e = record {
  size = rw e (copied-length from column n h (omega arith) ∙ size);
  each = λ k l. rw e (copied-each from column n h k l);
}

-- columns that hold those of the words, and each origin its place
pub loaded : {s os ws gs : List ℕ} {n : ℕ} → StateSized s → n ≡ entry_count s → Filled 0 (λ k. get_or (owners_of s) k 0) 1024 n os
    → Filled 0 (λ k. get_or (items_of s) k 0) 1024 n ws → Filled 0 (λ k. k) 1024 n gs
    → HoldsIn (held os ws gs (record { len = n; next = next_of s; unmarked = 0 })) (state_of s)
unfolding state_of entries_from
loaded {s} {os} {ws} {gs} {n} q e o w g =
    let all : length (owners_of s) ≡ n = omega arith in
    let same : rows (row_of os ws gs) 0 n ≡ rows (column_entry (owners_of s) (items_of s)) 0 n =
    rows_ext _ _ 0 n (λ k l u. rw (o.each k (omega arith), w.each k (omega arith), g.each k (omega arith)) (from_place k _ _ (omega arith))) in
    let whole : entries_of 0 (owners_of s) (items_of s) ≡ rows (column_entry (owners_of s) (items_of s)) 0 n =
    rw (← all) (tails-rows (entries-tails (owners_of s) (items_of s) (omega arith))) in
    record {
      arrays = record { owners = o.size; items = w.size; origins = g.size };
      holds = holds_of _ refl refl (omega arith) (same ∙ sym whole);
      looked = not-looked refl;
    }

-- ---- words

module _ (s : State) where
  owner-words : s.len ≤ length s.owners → map (λ e. e.owner) (rows (entry_in s) 0 s.len) ≡ take s.len s.owners
  owner-words h = map_rows (λ e. e.owner) (entry_in s) 0 s.len ∙ rows_take 0 s.owners s.len h

  item-words : s.len ≤ length s.items → map (λ e. item_word e.kind e.port e.value) (rows (entry_in s) 0 s.len) ≡ take s.len s.items
  item-words h =
      map_rows (λ e. item_word e.kind e.port e.value) (entry_in s) 0 s.len
      ∙ rows_ext _ _ 0 s.len (λ k l u. item_word-fields (get_or s.items k 0))
      ∙ rows_take 0 s.items s.len h

  -- The words of the value are those of the columns.
  pub state-words : s.len ≤ length s.owners → s.len ≤ length s.items
      → state_words (state_in s) ≡ s.len ∷ s.next ∷ take s.len s.owners ++ take s.len s.items
  unfolding state_words state_in
  state-words ho hi = rw (length-rows, owner-words ho, item-words hi)

-- n and next, then the two columns, one after another
pub stored-words : (s : State) (before middle after : List ℕ) → length s.owners ≡ 1024 → length s.items ≡ 1024 → s.len ≤ 1024
    → 2 + 2 * s.len ≤ length before
    → Pasted (set (set before 0 s.len) 1 s.next) 2 s.owners s.len middle → Pasted middle (2 + s.len) s.items s.len after
    → Stored s before after (2 + 2 * s.len)
stored-words s before middle after o i h room p q =
    let n = s.len in
    let ho : n ≤ length s.owners = omega arith in
    let hi : n ≤ length s.items = omega arith in
    let os = take n s.owners in
    let ws = take n s.items in
    let two : 2 ≤ length before = omega arith in
    let lo : length os ≡ n = length-take-le n s.owners ho in
    let li : length ws ≡ n = length-take-le n s.items hi in
    let at : 2 + n ≡ length (n ∷ s.next ∷ os) = omega arith in
    let owners : middle ≡ over (n ∷ s.next ∷ os) before =
    p.value ∙ rw (over-two n s.next before two) (over-column (n ∷ s.next ∷ []) before s.owners n ho) in
    let items : after ≡ over (n ∷ s.next ∷ os ++ ws) before =
    q.value ∙ rw (owners, at) (over-column (n ∷ s.next ∷ os) before s.items n hi) in
    record {
      target = rw (state-words s ho hi) items;
      words = rw (state-words s ho hi) (omega (arith, length-append os ws));
    }
