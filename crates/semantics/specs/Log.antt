-- 01, "Log": the form of a log, and its run.
use Rattle.std.specs.Prelude.{ℕ, suc, ◌+◌, ◌*◌, Bool, ◌&&◌, List, [], ◌∷◌, ◌++◌, map, leb, eqb, length, get_or, take, drop, replicate}
use Rattle.lists.specs.Lists.{up_from}
use Rattle.semantics.specs.Words.{head_word}
use Rattle.semantics.specs.Table.{Table}
use Rattle.semantics.specs.State.{State}
use Rattle.semantics.specs.Move.{Move, react, commit, abort, Stepped, to, refused, step_words}
use Rattle.semantics.specs.declared.Refusal.{Refusal}

-- ---- form (13)

-- the most moves that a log may have
abbrev pub max_moves : ℕ
max_moves = 1024

-- A count comes first; a column of as many heads and one of four picks for each follow. No word is missing or left over.
abbrev pub move_count : List ℕ → ℕ
move_count l = get_or l 0 0

unfoldable pub log_sizes_ok : List ℕ → Bool
log_sizes_ok l = leb 1 (length l) && (leb (move_count l) max_moves && eqb (length l) (1 + 5 * move_count l))

-- the five words of the move at place i
abbrev pub move_at : List ℕ → ℕ → List ℕ
move_at l i = get_or l (1 + i) 0 ∷ take 4 (drop (1 + move_count l + 4 * i) l)

abbrev pub moves_of : List ℕ → List (List ℕ)
moves_of l = map (move_at l) (up_from 0 (move_count l))

-- and back: the words of a log, with 0 for picks that are not used
abbrev pub head_of : Move → ℕ
head_of (react r ps) = head_word 0 r
head_of (commit b) = head_word 1 b
head_of (abort b) = head_word 2 b

abbrev pub four_picks : Move → List ℕ
four_picks (react r ps) = take 4 (ps ++ replicate 4 0)
four_picks (commit b) = replicate 4 0
four_picks (abort b) = replicate 4 0

abbrev pub all_picks : List Move → List ℕ
all_picks [] = []
all_picks (m ∷ ms) = four_picks m ++ all_picks ms

unfoldable pub log_words : List Move → List ℕ
log_words ms = length ms ∷ map head_of ms ++ all_picks ms

-- ---- the run

pub data Ran : Type 0 where
  completed : State → Ran
  stopped : ℕ → Refusal → Ran

abbrev pub onward : Stepped → ℕ → (State → Ran) → Ran
onward (to s) i rest = rest s
onward (refused r) i rest = stopped i r

-- Each move is made on what the one before it left, and the first that is refused ends the run with its place and its reason (16). The first of these moves
-- has the place i, and so the maker i + 1.
unfoldable pub run : ℕ → Table → ℕ → State → List (List ℕ) → Ran
run ceiling t i s [] = completed s
run ceiling t i s (m ∷ ms) = onward (step_words ceiling t (suc i) s m) i (λ s'. run ceiling t (suc i) s' ms)
