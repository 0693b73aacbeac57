-- The state in columns that are lent one by one.
use Rattle.std.specs.Prelude.{ℕ, ◌≤◌, ◌≡◌, List, length}
use Rattle.lists.specs.Rows.{rows}
use Rattle.semantics.specs.State.{State}
use Rattle.state.specs.declared.Extent.{Extent}
use Rattle.state.specs.Working.{row_of}

-- the value of `held`
abbrev pub state_from : List ℕ → List ℕ → List ℕ → Extent → State
state_from os ws gs at = record { next = at.next; entries = rows (row_of os ws gs) 0 at.len }

-- two columns of which the first n places are in use
pub record Columns (os ws : List ℕ) (n : ℕ) : Type 0 where
  pub owners : length os ≡ 1024
  pub items : length ws ≡ 1024
  pub fits : n ≤ 1024
