-- What is counted of the end of a transaction, from its first entry on: the entries that stay, and its member marks (`ending`'s laws).
use Prim.Native.Nat.{ℕ, ◌≤◌, ◌<◌}
use mathlib.Core.Bool.{Bool, true, not}
use mathlib.Core.List.{List}
use mathlib.Core.Path.{◌≡◌, sym, ap, ◌∙◌}
use native.Mathlib.Omega.{arith}
use borrow.Author.Tests.{ne_eqb}
use lib.Dec.{eqb}
use lib.ListN.{length, length-map, get_or}
use Rattle.lists.specs.Lists.{count_if, keep, all_below}
use Rattle.lists.specs.Walk.{below_each, below-of-each}
use Rattle.lists.specs.Counting.{length-keep}
use Rattle.lists.specs.Counts.{CountedTo, counted-from, counted-done, count-uniform}
use Rattle.lists.specs.Tests.{true-or}
use Rattle.lists.specs.Rows.{rows}
use Rattle.semantics.specs.State.{Entry, owned}
use Rattle.semantics.specs.Move.{freed, ended}
use Rattle.wellformed.specs.Ends.{stays}
use Rattle.ending.specs.End.{NoneBefore}

-- all before the first entry owned stay
pub entries-from : (p : Entry → Bool) (id : ℕ) (row : ℕ → Entry) (n i : ℕ) → i ≤ n → all_below i (λ k. not (owned id (row k))) ≡ true
    → CountedTo (stays p id) row n i i (count_if (stays p id) (rows row 0 n))
entries-from p id row n i l none =
    counted-from (stays p id) row n i i l
    (count-uniform (stays p id) true row 0 i (λ k a u. true-or (p (row k)) (below_each (λ k. not (owned id (row k))) i k none (omega arith))))

pub entries-done : (p : Entry → Bool) (id : ℕ) {row : ℕ → Entry} {n i c : ℕ} → CountedTo (stays p id) row n i c (count_if (stays p id) (rows row 0 n)) → n ≤ i
    → (next : ℕ) → c ≡ length (ended p id (record { next = next; entries = rows row 0 n })).entries
unfolding ended
entries-done p id {row} {n} h l next =
    counted-done (stays p id) h l ∙ sym (length-keep (stays p id) (rows row 0 n)) ∙ sym (length-map (keep (stays p id) (rows row 0 n)) (freed p id))

-- a place before which a search has found nothing
pub none_before : (os : List ℕ) (id n : ℕ) {i : ℕ} → i ≤ n → ((j : ℕ) → j < i → get_or os j 0 ≡ id → ⊥) → NoneBefore os id n i
none_before os id n {i} l none = record {
  within = l;
  none = below-of-each (λ k. not (eqb (get_or os k 0) id)) i (λ j k. ap not (ne_eqb (get_or os j 0) id (none j k)));
}
