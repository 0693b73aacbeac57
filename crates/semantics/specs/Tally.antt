-- 02, M-125: the tally beside a run, as its moves change it, and the history of moves that it is held to.
use Rattle.std.specs.Prelude.{ℕ, suc, ◌+◌, Bool, true, false, List, [], ◌∷◌, length}
use Rattle.lists.specs.Lists.{keep, one_if, count_if, total}
use Rattle.semantics.specs.Table.{Table, rule_at, begins}
use Rattle.semantics.specs.State.{State}
use Rattle.semantics.specs.Move.{Move, react, commit, abort, move_of, Stepped, to, refused, step_words}
use Rattle.semantics.specs.Members.{member_count, members_ended}
use Rattle.semantics.specs.Serial.{is_begin}
use Rattle.semantics.specs.declared.Tally.{Tally}

-- ---- the running tally

-- every run counts from here
abbrev pub no_moves : Tally
no_moves = record { moves = 0; begun = 0; committed = 0; aborted = 0 }

-- One accepted move more, in the state before it. Besides the moves it concerns one figure at most: a begin is one member begun (02's lots opened), a commit
-- or abort ends as many as its transaction has marks (lots released, lots called off). A reaction without begin concerns none.
abbrev pub tallied : Table → State → Move → Tally → Tally
tallied t s (react r ps) y =
    record { moves = y.moves + 1; begun = y.begun + one_if (begins (rule_at t r)); committed = y.committed; aborted = y.aborted }
tallied t s (commit b) y = record { moves = y.moves + 1; begun = y.begun; committed = y.committed + member_count b s; aborted = y.aborted }
tallied t s (abort b) y = record { moves = y.moves + 1; begun = y.begun; committed = y.committed; aborted = y.aborted + member_count b s }

abbrev pub tally_by : Stepped → Tally → (State → Tally) → Tally
tally_by (to s) y rest = rest s
tally_by (refused r) y rest = y

-- The tally y after a log's moves, one after another; a refused move changes no figure, and none is made after it. The first has the place i.
unfoldable pub tally_along : ℕ → Table → ℕ → State → List (List ℕ) → Tally → Tally
tally_along ceiling t i s [] y = y
tally_along ceiling t i s (m ∷ ms) y =
    tally_by (step_words ceiling t (suc i) s m) y (λ s'. tally_along ceiling t (suc i) s' ms (tallied t s (move_of t m) y))

-- the caller's four words
abbrev pub tally_words : Tally → List ℕ
tally_words y = y.moves ∷ y.begun ∷ y.committed ∷ y.aborted ∷ []

-- ---- the history

-- an accepted move, and the state in which it was made
pub record Event : Type 0 where
  pub state : State
  pub move : Move

abbrev pub event_by : Stepped → Event → (State → List Event) → List Event
event_by (to s) x rest = x ∷ rest s
event_by (refused r) x rest = []

-- The accepted moves of a log, in order: all of them, or those before the first that is refused. No figure of a tally stands in it.
unfoldable pub history : ℕ → Table → ℕ → State → List (List ℕ) → List Event
history ceiling t i s [] = []
history ceiling t i s (m ∷ ms) =
    event_by (step_words ceiling t (suc i) s m) (record { state = s; move = move_of t m }) (λ s'. history ceiling t (suc i) s' ms)

abbrev pub is_commit : Move → Bool
is_commit (react r ps) = false
is_commit (commit b) = true
is_commit (abort b) = false

abbrev pub is_abort : Move → Bool
is_abort (react r ps) = false
is_abort (commit b) = false
is_abort (abort b) = true

-- its begins
abbrev pub begins_in : Table → List Event → ℕ
begins_in t h = count_if (λ x. is_begin t x.move) h

-- the member marks that its moves removed
abbrev pub ended_in : List Event → ℕ
ended_in h = total (λ x. members_ended x.state x.move) h

-- those that its commits removed, and those that its aborts did
abbrev pub committed_in : List Event → ℕ
committed_in h = ended_in (keep (λ x. is_commit x.move) h)

abbrev pub aborted_in : List Event → ℕ
aborted_in h = ended_in (keep (λ x. is_abort x.move) h)

-- what a tally must hold after these moves
abbrev pub counts_in : Table → List Event → Tally
counts_in t h = record { moves = length h; begun = begins_in t h; committed = committed_in h; aborted = aborted_in h }
