-- What is kept, after a reaction.
use Rattle.std.specs.Prelude.{ℕ, ◌<◌, List, ◌≡◌}
use Rattle.semantics.specs.Words.{head_kind, head_number}
use Rattle.semantics.specs.Table.{sizes_of, table_of}
use Rattle.semantics.specs.Move.{react, applied}
use Rattle.semantics.specs.State as semantics
use Rattle.state.specs.declared.State.{State}
use Rattle.state.specs.declared.Extent.{Extent}
use Rattle.state.specs.Working.{held}
use Rattle.state.specs.Arrays.{HoldsIn}
use Rattle.stopped.specs.Stopped.{StoppedIn}
use Rattle.supply.specs.Reacts.{Reacts}
use Rattle.step.specs.Make.{Indexed}
use Rattle.tracking.specs.Tracked.{TrackedIn}

-- x holds what a reaction of the maker i leaves of s; the set and the totals are those of s
pub record ReactedTo (t index : List ℕ) (r : ℕ) (s : semantics.State) (ps : List ℕ) (i : ℕ) (x : State) (stopped totals : List ℕ) : Type 0 where
  pub indexed : Indexed t index
  pub known : r < (sizes_of t).rules
  pub reacts : Reacts t r s ps totals
  pub stops : StoppedIn s.entries stopped
  pub holds : HoldsIn x (applied (table_of t) i s (react r ps))

-- what is kept when a move has been made: that of a reaction is still to be told
pub record AfterMove (t index : List ℕ) (head : ℕ) (os ws : List ℕ) (left : Extent) (stopped totals : List ℕ) : Type 0 where
  pub reaction : head_kind head ≡ 0 → (s : semantics.State) × (ps : List ℕ) × (i : ℕ) × (gs : List ℕ)
      × ReactedTo t index (head_number head) s ps i (held os ws gs left) stopped totals
  pub ended : (head_kind head ≡ 0 → ⊥) → TrackedIn (sizes_of t) os ws left stopped totals
