-- Entries moved down in three columns side by side.
use Rattle.std.specs.Prelude.{ℕ, List}
use Rattle.lists.specs.Gaps.{Shifted}
use Rattle.state.specs.Working.{row_of}
use Rattle.state.specs.Arrays.{Arrays}

-- of the entries from w up to e those from the d-th on have moved down by d, and the columns have their places still
pub record Closed (w e d : ℕ) (os ws gs os' ws' gs' : List ℕ) : Type 0 where
  pub arrays : Arrays os' ws' gs'
  pub entries : Shifted w e d (row_of os ws gs) (row_of os' ws' gs')
