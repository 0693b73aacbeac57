-- What a search for the first move is told of a state.
use Rattle.std.specs.Prelude.{ℕ, ◌≤◌, List, map, ◌≡◌, length, take}
use Rattle.lists.specs.Rows.{rows}
use Rattle.semantics.specs.Words.{port_of}
use Rattle.semantics.specs.Table.{sizes_of, rule_of, consumed, port_count}
use Rattle.semantics.specs.declared.Sizes.{Sizes}
use Rattle.enabled.specs.Supply.{Supply}
use Rattle.state.specs.declared.Extent.{Extent}
use Rattle.state.specs.Working.{row_of}
use Rattle.state.specs.Arrays.{UnmarkedTo}
use Rattle.state.specs.Lent.{state_from, Columns}
use Rattle.step.specs.Make.{Indexed}
use Rattle.stopped.specs.Stopped.{StoppedIn}
use Rattle.wants.specs.Wants.{Wants}
use Rattle.first_choice.specs.Choice.{NarrowOwners}

-- a state in columns, and its transactions that have an abort mark
pub record InColumns (z : Sizes) (os ws stopped : List ℕ) (at : Extent) : Type 0 where
  pub columns : Columns os ws at.len
  pub narrow : NarrowOwners os at.len
  pub few-ports : port_count z ≤ 256
  pub looked : at.unmarked ≤ at.len
  pub unmarked : UnmarkedTo ws at.unmarked
  pub stops : (gs : List ℕ) → StoppedIn (rows (row_of os ws gs) 0 at.len) stopped

-- a rule of a legal table, in words, the first k of which are its consumes
pub record ConsumesFirst (z : Sizes) (ws : List ℕ) (k : ℕ) : Type 0 where
  pub some : 1 ≤ k
  pub most : k ≤ 4
  pub within : k ≤ length ws
  pub count : k ≡ length (consumed (rule_of z ws))
  pub ports : consumed (rule_of z ws) ≡ map port_of (take k ws)

-- a state in columns with the table, what its rules want and the totals by port
pub record SearchOf (t index wants os ws stopped totals : List ℕ) (at : Extent) (ceiling : ℕ) : Type 0 where
  pub indexed : Indexed t index
  pub wants-are : Wants t wants
  pub state : InColumns (sizes_of t) os ws stopped at
  pub supply : (gs : List ℕ) → Supply (sizes_of t) (state_from os ws gs at) totals
  pub limit : ceiling ≤ 1024
