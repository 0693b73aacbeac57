-- What the inner function of the single move asks and comes to.
use Rattle.std.specs.Prelude.{ℕ, ◌≤◌, List, length}
use Rattle.semantics.specs.Table.{table_of}
use Rattle.semantics.specs.State.{state_of}
use Rattle.semantics.specs.Move.{move_of, step_words}
use Rattle.semantics.specs.Members.{members_ended}
use Rattle.semantics.specs.Answers.{Result, state_room, line_ceiling, stepped_result}
use Rattle.ready.specs.Ready.{Ready}

-- table and state are ready, and there is room for a state
pub record Movable (t index s target : List ℕ) : Type 0 where
  pub ready : Ready t s index
  pub room : state_room ≤ length target

-- the move in the words w, made on the state
abbrev pub move_made : List ℕ → List ℕ → List ℕ → Result
move_made t s w = stepped_result (members_ended (state_of s) (move_of (table_of t) w)) (step_words line_ceiling (table_of t) 1 (state_of s) w)
