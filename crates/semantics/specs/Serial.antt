-- 01, "Log and serial log": the serial log of a log, on decoded moves.
use Rattle.std.specs.Prelude.{ℕ, suc, Bool, true, false, ◌&&◌, not, cond, List, [], ◌∷◌, ◌++◌, map, leb, eqb, length}
use Rattle.lists.specs.Lists.{all, any, is_empty, is_in, keep, count_if, least}
use Rattle.semantics.specs.Table.{Table, Rule, rule_at, has_role, begins, emits}
use Rattle.semantics.specs.State.{Origin, Entry, State, is_member_mark, owned}
use Rattle.semantics.specs.Move.{Move, react, commit, abort, Stepped, to, refused, step, picked, owners_at, entry_at}

-- ---- what the serial log is refused for

-- 14: a begin that also emits would let messages out before its transaction ends
abbrev pub begins_emit : Table → Bool
begins_emit t = any (λ r. begins r && emits r) t.rules

-- 15: some transaction is there; asked of the log's start and of its end
abbrev pub any_open : State → Bool
any_open s = any (λ e. not (owned 0 e)) s.entries

-- ---- the moves of the log, with what their place in the serial log depends on

-- One move of the log: its place, the origins of its picks in order, and the members that it concerns, by the origins of their marks: the one that it
-- begins, those of the transactions that it is made in, or those that it ends.
pub record Act : Type 0 where
  pub place : ℕ
  pub move : Move
  pub picks : List Origin
  pub members : List Origin

abbrev pub origins_of : List Entry → List Origin
origins_of es = map (λ e. e.origin) es

-- the members of these transactions
abbrev pub marks_in : List ℕ → State → List Origin
marks_in bs s = origins_of (keep (λ e. is_member_mark e && is_in e.owner bs) s.entries)

-- A begin's mark is the product after its emits. A local or merge reaction is made in the transactions of its picks, and any other in none.
abbrev pub react_members : Rule → ℕ → State → List ℕ → List Origin
react_members r i s ps =
    cond (begins r)
    (record { maker = suc i; index = count_if (has_role 1) r.atoms } ∷ [])
    (cond (eqb r.class 0) [] (marks_in (owners_at s ps) s))

-- A commit or abort ends the members whose marks it takes away.
abbrev pub members_of : Table → ℕ → State → Move → List Origin
members_of t i s (react r ps) = react_members (rule_at t r) i s ps
members_of t i s (commit b) = marks_in (b ∷ []) s
members_of t i s (abort b) = marks_in (b ∷ []) s

abbrev pub picks_of : State → Move → List Origin
picks_of s (react r ps) = origins_of (picked s ps)
picks_of s (commit b) = []
picks_of s (abort b) = []

abbrev pub state_or : State → Stepped → State
state_or s (to s') = s'
state_or s (refused r) = s

-- the state after a move of the maker i, the limit on entries left out; the same one if the move is refused
unfoldable pub after : Table → ℕ → State → Move → State
after t i s m = state_or s (step t i s m)

-- the log's moves, from the place i on
unfoldable pub acts : Table → ℕ → State → List Move → List Act
acts t i s [] = []
acts t i s (m ∷ ms) =
    record { place = i; move = m; picks = picks_of s m; members = members_of t i s m } ∷ acts t (suc i) (after t (suc i) s m) ms

-- ---- the order

abbrev pub is_end : Move → Bool
is_end (react r ps) = false
is_end (commit b) = true
is_end (abort b) = true

abbrev pub is_begin : Table → Move → Bool
is_begin t (react r ps) = begins (rule_at t r)
is_begin t (commit b) = false
is_begin t (abort b) = false

-- a begin, or a reaction made in transactions
abbrev pub is_inner : Act → Bool
is_inner a = not (is_end a.move) && not (is_empty a.members)

abbrev pub same_origin : Origin → Origin → Bool
same_origin a b = eqb a.maker b.maker && eqb a.index b.index

-- x begins a member that the commit or abort a ends, or is made where such a member is
abbrev pub belongs_to : Act → Act → Bool
belongs_to a x = is_inner x && any (λ o. any (same_origin o) a.members) x.members

-- A commit or abort comes with the begins of its members and all that was made in their transactions, in the log's order and directly before it; a global
-- reaction comes alone. xs: the moves before a
abbrev pub block : List Act → Act → List Act
block xs a = cond (is_inner a) [] (keep (belongs_to a) xs ++ a ∷ [])

-- The blocks stand in the order of the moves that end them.
abbrev pub ordered : List Act → List Act → List Act
ordered xs [] = []
ordered xs (a ∷ rest) = block xs a ++ ordered (xs ++ a ∷ []) rest

-- ---- the moves of the serial log

-- the place of the entry of that origin
abbrev pub place_of : List Entry → Origin → ℕ
place_of [] o = 0
place_of (e ∷ es) o = cond (same_origin o e.origin) 0 (suc (place_of es o))

abbrev pub value_at : State → Origin → ℕ
value_at s o = (entry_at s.entries (place_of s.entries o)).value

-- A move of the log, to be made again in s: a reaction on the entries of the same origins, wherever they stand now; a commit or abort under the smallest id
-- that its members have now.
unfoldable pub again : State → Act → Move → Move
again s a (react r ps) = react r (map (place_of s.entries) a.picks)
again s a (commit b) = commit (least (map (value_at s) a.members))
again s a (abort b) = abort (least (map (value_at s) a.members))

-- Products get their origins by the move's place in the first log, so that later moves find them.
unfoldable pub replayed : Table → State → List Act → List Move
replayed t s [] = []
replayed t s (a ∷ rest) = again s a a.move ∷ replayed t (after t (suc a.place) s (again s a a.move)) rest

unfoldable pub serial : Table → State → List Move → List Move
serial t s ms = replayed t s (ordered [] (acts t 0 s ms))

-- ---- 17

-- the start and the state after each move, with no limit on entries
unfoldable pub along : Table → ℕ → State → List Move → List State
along t i s [] = s ∷ []
along t i s (m ∷ ms) = s ∷ along t (suc i) (after t (suc i) s m) ms

abbrev pub fits : ℕ → State → Bool
fits ceiling s = leb (length s.entries) ceiling

-- 17: each of these states must fit the ceiling
unfoldable pub serial_fits : ℕ → Table → State → List Move → Bool
serial_fits ceiling t s ms = all (fits ceiling) (along t 0 s (serial t s ms))
