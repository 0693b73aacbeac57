-- A set that a pass over entries gathers: before a row it holds the numbers whose test held of a row before it.
use Rattle.std.specs.Prelude.{ℕ, ◌+◌, ◌≤◌, ◌<◌, ◌≡◌, Bool, ◌&&◌, ◌||◌, List, eqb}
use Rattle.std.proofs.Math.Bool.{and_comm, or_comm}
use Rattle.lists.specs.Lists.{any}
use Rattle.lists.specs.Tests.{eqb_swap}
use Rattle.lists.specs.Rows.{rows, rows_from, rows-tails}
use Rattle.lists.specs.Found.{Finding, finding-start, finding-next, finding-done}
use Rattle.semantics.specs.State.{Entry, owned}
use Rattle.idset.specs.IdSet.{has, InsertedIf, EmptySet}

-- v is in the set where its test held of a row before place i
pub record Gathering (p : ℕ → Entry → Bool) (row : ℕ → Entry) (n : ℕ) (ws : List ℕ) (i : ℕ) : Type 0 where
  pub so_far : (v : ℕ) → Finding (p v) (rows_from row n) n (has ws v) i (any (p v) (rows row 0 n))

module _ {p : ℕ → Entry → Bool} {row : ℕ → Entry} {n : ℕ} {ws : List ℕ} where
  pub gathering-start : EmptySet ws → Gathering p row n ws 0
  gathering-start h = record { so_far = λ v. rw (h.none v) (finding-start (p v) row n) }

  module _ {i : ℕ} (g : Gathering p row n ws i) where
    pub gathering-next : {ws' : List ℕ} → i < n → ((v : ℕ) → has ws' v ≡ (p v (row i) || has ws v)) → Gathering p row n ws' (i + 1)
    gathering-next l h = record { so_far = λ v. rw (h v, or_comm (p v (row i)) (has ws v)) (finding-next (rows-tails row n) (g.so_far v) l) }

    pub gathering-done : n ≤ i → (v : ℕ) → has ws v ≡ any (p v) (rows row 0 n)
    gathering-done l v = finding-done (rows-tails row n) (g.so_far v) l

-- an owner's number put into a set where b holds
pub owner-put : (e : Entry) (b : Bool) {ws ws' : List ℕ} → InsertedIf b e.owner ws ws' → (v : ℕ) → has ws' v ≡ (owned v e && b || has ws v)
owner-put e b h v = rw (h.holds v, and_comm b (eqb v e.owner), eqb_swap v e.owner)
