-- A move of a log with what decides where it may stand: its place and key, the origins of its picks, the transactions that it touches, its members' marks.
use Rattle.std.specs.Prelude.{List, [], ◌∷◌, ℕ}
use Rattle.semantics.specs.Table.{Table, rule_at}
use Rattle.semantics.specs.State.{Origin, State}
use Rattle.semantics.specs.Move.{Move, react, commit, abort, picked, owners_at}
use Rattle.semantics.specs.Serial.{Act, origins_of, marks_in, members_of}
use Rattle.cells.specs.Rules.{touched_by}

-- picks: of a commit or abort, the origins of the member marks that it removes
pub record Deed : Type 0 where
  pub place : ℕ
  pub key : ℕ
  pub move : Move
  pub picks : List Origin
  pub touched : List ℕ
  pub members : List Origin

abbrev pub with_move : Deed → Move → Deed
with_move a m = record { place = a.place; key = a.key; move = m; picks = a.picks; touched = a.touched; members = a.members }

-- the transactions that a move touches: the one that it begins, those of its picks, the one that it ends
unfoldable pub touched : Table → State → Move → List ℕ
touched t s (react r ps) = touched_by (rule_at t r) s.next (owners_at s ps)
touched t s (commit b) = b ∷ []
touched t s (abort b) = b ∷ []

unfoldable pub handled : State → Move → List Origin
handled s (react r ps) = origins_of (picked s ps)
handled s (commit b) = marks_in (b ∷ []) s
handled s (abort b) = marks_in (b ∷ []) s

abbrev pub deed_at : Table → ℕ → ℕ → State → Move → Deed
deed_at t i k s m = record { place = i; key = k; move = m; picks = handled s m; touched = touched t s m; members = members_of t i s m }

-- the same as an act of the serial order
abbrev pub picks_by : Move → List Origin → List Origin
picks_by (react r ps) os = os
picks_by (commit b) os = []
picks_by (abort b) os = []

abbrev pub act_of : Deed → Act
act_of a = record { place = a.place; move = a.move; picks = picks_by a.move a.picks; members = a.members }
