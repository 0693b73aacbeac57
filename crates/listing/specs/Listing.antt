-- The list as the code goes through it.
use Rattle.std.specs.Prelude.{ℕ, true, false, List, ◌++◌, map, take}
use Rattle.lists.specs.Lists.{keep}
use Rattle.semantics.specs.Move.{Move, commit, abort}
use Rattle.ends.specs.Listed.{agrees}

-- the ends of the first m ids
abbrev pub ends_by : List ℕ → ℕ → List ℕ → List ℕ → List Move
ends_by ids m blocked aborting = map commit (keep (agrees false blocked) (take m ids)) ++ map abort (keep (agrees true aborting) (take m ids))
