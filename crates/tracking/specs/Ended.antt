-- The set of stopped transactions after an end.
use Rattle.std.specs.Prelude.{ℕ, List, ◌≡◌}
use Rattle.semantics.specs.Table.{Table}
use Rattle.semantics.specs.State.{State}
use Rattle.semantics.specs.Move.{commit, abort, allowed, applied}
use Rattle.semantics.specs.declared.Verdict.TheVariants.{Allowed}
use Rattle.stopped.specs.Stopped.{StoppedIn}

-- the set of what the end of b leaves, a commit (kind 1) or an abort (2)
pub record EndStops (t : Table) (i : ℕ) (s : State) (b k : ℕ) (stopped : List ℕ) : Type 0 where
  pub committed : k ≡ 1 → allowed t s (commit b) ≡ Allowed → StoppedIn (applied t i s (commit b)).entries stopped
  pub aborted : k ≡ 2 → StoppedIn (applied t i s (abort b)).entries stopped
