-- What an accepted state gives, and the laws of the two columns in which its words hold entries.
use Rattle.std.specs.Prelude.{ℕ, suc, ◌+◌, ◌-◌, ◌*◌, ◌≤◌, ◌<◌, ◌≡◌, refl, Bool, true, ◌&&◌, List, [], ◌∷◌, leb, eqb, length, get_or, take, drop}
use Rattle.std.proofs.Common.{add-one, arith, leb-true, eqb-true, length-take, length-drop, drop_of_length-le, take_all}
use Rattle.lists.specs.Lists.{all}
use Rattle.lists.specs.Tests.{and_both}
use Rattle.lists.specs.Choices.{and-three}
use Rattle.lists.specs.Walk.{drop-step}
use Rattle.lists.specs.Ahead.{Tails}
use Rattle.semantics.specs.Table.{sizes_of}
use Rattle.semantics.specs.State.{Entry, entry_of, entries_of, entry_count, next_of, owners_of, items_of, state_of, state_sizes_ok, entries_ok}
use Rattle.semantics.specs.Answers.{table_verdict, state_own_faults, state_own_verdict, state_verdict}
use Rattle.semantics.specs.declared.Refusal.TheVariants.{StateSizes, StateContents}
use Rattle.semantics.specs.declared.Verdict.TheVariants.{Allowed}
use Rattle.wellformed.specs.Verdicts.{both-allowed, unless_allowed, passed-each}

-- ---- entries

-- those from place i on
unfoldable pub entries_from : List ℕ → List ℕ → ℕ → List Entry
entries_from os ws i = entries_of i (drop i os) (drop i ws)

abbrev pub column_entry : List ℕ → List ℕ → ℕ → Entry
column_entry os ws i = entry_of i (get_or os i 0) (get_or ws i 0)

pub entries-tails : (os ws : List ℕ) → length os ≡ length ws → Tails (column_entry os ws) (entries_from os ws) (length os)
unfolding entries_from
entries-tails os ws e = record { more = more; none = λ i h. rw (drop_of_length-le os h) }
  where
    more : (i : ℕ) → i < length os → entries_of i (drop i os) (drop i ws) ≡ column_entry os ws i ∷ entries_of (i + 1) (drop (i + 1) os) (drop (i + 1) ws)
    more i h =
        let l : i < length ws = omega arith in
        rw (drop-step os i 0 h, drop-step ws i 0 l, add-one i)

pub all-owners : (p : ℕ → Bool) (i : ℕ) (os ws : List ℕ) → length os ≡ length ws → all (λ e. p e.owner) (entries_of i os ws) ≡ all p os
all-owners p i [] ws h = refl
all-owners p i (o ∷ os) [] h = absurd (omega arith)
all-owners p i (o ∷ os) (w ∷ ws) h = rw (all-owners p (suc i) os ws (omega arith))

-- ---- an accepted state

-- what sizes in order say
pub record StateSized (s : List ℕ) : Type 0 where
  pub count : entry_count s ≤ 1024
  pub first : 1 ≤ next_of s
  pub last : next_of s ≤ 65536
  pub size : length s ≡ 2 + 2 * entry_count s
  pub owners : length (owners_of s) ≡ entry_count s
  pub items : length (items_of s) ≡ entry_count s

pub state-sized : (s : List ℕ) → state_sizes_ok s ≡ true → StateSized s
unfolding state_sizes_ok
state-sized s h =
    let n = entry_count s in
    let next = leb 1 (next_of s) && leb (next_of s) 65536 in
    let (two, rest) = and_both (leb 2 (length s)) (leb n 1024 && next && eqb (length s) (2 + 2 * n)) h in
    let (few, ids, long) = and-three (leb n 1024) next (eqb (length s) (2 + 2 * n)) rest in
    let (low, high) = and_both (leb 1 (next_of s)) (leb (next_of s) 65536) ids in
    let size = eqb-true (length s) (2 + 2 * n) long in
    record {
      count = leb-true n 1024 few;
      first = leb-true 1 (next_of s) low;
      last = leb-true (next_of s) 65536 high;
      size = size;
      owners = simp (length-take, length-drop) (omega arith);
      items = simp length-drop (omega arith);
    }

-- its table is accepted, its sizes are in order, and so are its entries
pub state-given : (s t : List ℕ) → state_verdict t s ≡ Allowed
    → (table_verdict t ≡ Allowed) × (state_sizes_ok s ≡ true) × (entries_ok (sizes_of t) (state_of s) ≡ true)
unfolding state_verdict state_own_verdict
state-given s t h =
    let (table, own) = both-allowed (table_verdict t) (state_own_verdict (sizes_of t) s) h in
    let (sizes, (contents, _)) = passed-each (state_own_faults (sizes_of t) s) own in
    (table, unless_allowed (state_sizes_ok s) StateSizes sizes, unless_allowed (entries_ok (sizes_of t) (state_of s)) StateContents contents)

-- ---- the columns, as code cuts them out
pub owners-part : (s : List ℕ) (n : ℕ) → n ≡ entry_count s → take (2 + n - 2) (drop 2 s) ≡ owners_of s
owners-part s n e =
    let k : 2 + n - 2 ≡ entry_count s = omega arith in
    rw k

pub items-part : (s : List ℕ) (n : ℕ) → n ≡ entry_count s → take (length s - (2 + n)) (drop (2 + n) s) ≡ items_of s
items-part s n e = rw (take_all (length s - (2 + n)) (drop (2 + n) s) (simp length-drop (omega arith)), e)
