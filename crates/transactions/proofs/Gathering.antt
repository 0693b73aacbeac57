-- The three sets that a pass over entries gathers.
use Prim.Native.Nat.{ℕ, ◌+◌, ◌≤◌, ◌<◌}
use mathlib.Core.Path.{◌≡◌}
use mathlib.Core.Bool.{◌&&◌}
use mathlib.Core.List.{List}
use lib.ListN.{length}
use Rattle.lists.specs.Tests.{eqb_swap}
use Rattle.lists.specs.Rows.{rows}
use Rattle.semantics.specs.State.{Entry, is_abort_mark, owned}
use Rattle.idset.specs.IdSet.{EmptySet}
use Rattle.transactions.specs.Gathered.{Gathering, gathering-start, gathering-next, gathering-done, owner-put}
use Rattle.transactions.specs.Sets.{blocks, EnteredIn, TransactionSets}

-- the three sets before row i
pub record SetsSoFar (globals : ℕ) (row : ℕ → Entry) (n : ℕ) (present blocked aborting : List ℕ) (i : ℕ) : Type 0 where
  pub owning : Gathering owned row n present i
  pub blocking : Gathering (λ v e. owned v e && blocks globals e) row n blocked i
  pub marking : Gathering (λ v e. owned v e && is_abort_mark e) row n aborting i

module _ {globals : ℕ} {row : ℕ → Entry} {n : ℕ} {present blocked aborting : List ℕ} where
  pub sets-start : EmptySet present → EmptySet blocked → EmptySet aborting → SetsSoFar globals row n present blocked aborting 0
  sets-start o b m = record { owning = gathering-start o; blocking = gathering-start b; marking = gathering-start m }

  module _ {i : ℕ} (so : SetsSoFar globals row n present blocked aborting i) where
    pub sets-next : {present' blocked' aborting' : List ℕ} → i < n → EnteredIn globals (row i) present blocked aborting present' blocked' aborting'
        → SetsSoFar globals row n present' blocked' aborting' (i + 1)
    sets-next l t = record {
      owning = gathering-next so.owning l (λ v. rw (t.owning.holds v, eqb_swap v (row i).owner));
      blocking = gathering-next so.blocking l (owner-put (row i) (blocks globals (row i)) t.blocking);
      marking = gathering-next so.marking l (owner-put (row i) (is_abort_mark (row i)) t.marking);
    }

    pub sets-done : n ≤ i → length present ≡ 1024 → length blocked ≡ 1024 → length aborting ≡ 1024
        → TransactionSets globals (rows row 0 n) present blocked aborting
    sets-done l o b m = record {
      present-size = o;
      blocked-size = b;
      aborting-size = m;
      present-are = gathering-done so.owning l;
      blocked-are = gathering-done so.blocking l;
      aborting-are = gathering-done so.marking l;
    }
