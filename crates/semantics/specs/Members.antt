-- 02, M-120: how many member marks (01's lot marks) commits and aborts remove.
use Rattle.std.specs.Prelude.{ℕ, suc, ◌+◌, List, [], ◌∷◌}
use Rattle.lists.specs.Lists.{count_if}
use Rattle.semantics.specs.Table.{Table}
use Rattle.semantics.specs.State.{State, is_member_mark}
use Rattle.semantics.specs.Move.{Move, react, commit, abort, move_of, entries_in, Stepped, to, refused, step_words}

-- the members of transaction b, one mark each: several after a merge
abbrev pub member_count : ℕ → State → ℕ
member_count b s = count_if is_member_mark (entries_in b s)

-- A commit or abort removes the marks of all members of its transaction. A reaction removes none, and the mark that a begin adds is not counted.
abbrev pub members_ended : State → Move → ℕ
members_ended s (react r ps) = 0
members_ended s (commit b) = member_count b s
members_ended s (abort b) = member_count b s

abbrev pub add_members : Stepped → ℕ → (State → ℕ) → ℕ
add_members (to s) n rest = n + rest s
add_members (refused r) n rest = 0

-- The sum over a log's moves, each counted in the state before it; after a refused move nothing is made, and so nothing counted. The first of these moves
-- has the place i.
unfoldable pub members_along : ℕ → Table → ℕ → State → List (List ℕ) → ℕ
members_along ceiling t i s [] = 0
members_along ceiling t i s (m ∷ ms) =
    add_members (step_words ceiling t (suc i) s m) (members_ended s (move_of t m)) (λ s'. members_along ceiling t (suc i) s' ms)
