-- The first move of a list.
use Rattle.std.specs.Prelude.{true, false, List, [], ◌∷◌}
use Rattle.semantics.specs.Move.{Move}
use Rattle.semantics.specs.Log.{head_of, four_picks}
use Rattle.first_end.specs.declared.First.{First}

-- 0s where there is none
abbrev pub first_move : List Move → First
first_move [] = record { found = false; mv = record { head = 0; picks = 0 ∷ 0 ∷ 0 ∷ 0 ∷ [] } }
first_move (m ∷ ms) = record { found = true; mv = record { head = head_of m; picks = four_picks m } }
