-- The member marks of a transaction, counted from its first entry on.
use Rattle.std.specs.Prelude.{ℕ, ◌≤◌, Bool, true, false, ◌&&◌, not, ◌≡◌}
use Rattle.std.proofs.Common.{sym, ◌∙◌, arith}
use Rattle.std.proofs.lemmas.Bool.{not-true}
use Rattle.lists.specs.Lists.{count_if, all_below}
use Rattle.lists.specs.Tests.{false-and}
use Rattle.lists.specs.Rows.{rows}
use Rattle.lists.specs.Walk.{below_each}
use Rattle.lists.specs.Totals.{count-keep}
use Rattle.lists.specs.Counts.{CountedTo, counted-from, counted-done, count-uniform}
use Rattle.semantics.specs.State.{Entry, is_member_mark, owned}
use Rattle.semantics.specs.Members.{member_count}

-- a member mark of transaction b
abbrev pub member_of : ℕ → Entry → Bool
member_of b e = owned b e && is_member_mark e

-- none stands before the first entry that b owns
pub members-from : (b : ℕ) (row : ℕ → Entry) (n i : ℕ) → i ≤ n → all_below i (λ k. not (owned b (row k))) ≡ true
    → CountedTo (member_of b) row n i 0 (count_if (member_of b) (rows row 0 n))
members-from b row n i l none =
    counted-from (member_of b) row n i 0 l
    (count-uniform (member_of b) false row 0 i
    (λ k a u. false-and (is_member_mark (row k)) (not-true (owned b (row k)) (below_each (λ k. not (owned b (row k))) i k none (omega arith)))))

pub members-done : (b : ℕ) {row : ℕ → Entry} {n i c : ℕ} (row₀ : ℕ → Entry) → CountedTo (member_of b) row n i c (count_if (member_of b) (rows row₀ 0 n))
    → n ≤ i → (next : ℕ) → c ≡ member_count b (record { next = next; entries = rows row₀ 0 n })
members-done b {n = n} row₀ h l next = counted-done (member_of b) h l ∙ sym (count-keep is_member_mark (owned b) (rows row₀ 0 n))
