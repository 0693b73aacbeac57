-- Demand 3: what is promised of every accepted log and its serial log. To believe it, only this file, the definitions of the crate `semantics` and those of
-- lists/specs/Lists.antt must be believed; all else in this crate is its proof (Demand3.antt has the theorem, PublicCalls.antt the same
-- of the public calls, Instances.antt applies it to 01's cases).
use Rattle.std.specs.Prelude.{ℕ, zero, suc, ◌+◌, ◌*◌, ◌≤◌, ◌<◌, Bool, true, false, ◌&&◌, ◌||◌, not, cond, List, [], ◌∷◌, ◌++◌, map, ◌≡◌, eqb, length, get_or, take, drop}
use Rattle.lists.specs.Lists.{all, any, keep, count_if, least, up_from}
use Rattle.semantics.specs.Table.{Table, rule_at, table_of}
use Rattle.semantics.specs.State.{Origin, Entry, State, owned, mark_values, state_of, state_words}
use Rattle.semantics.specs.Move.{Move, react, commit, abort, picked, entries_in, allowed, applied, move_of}
use Rattle.semantics.specs.Log.{move_count, moves_of, log_sizes_ok, log_words, completed}
use Rattle.semantics.specs.Serial.{begins_emit, any_open, Act, origins_of, marks_in, members_of, after, acts, is_end, is_begin, is_inner, same_origin, belongs_to, ordered, serial, along, fits}
use Rattle.semantics.specs.Answers.{state_verdict, line_ceiling, run_of, run_members, serial_of, write, leave, refuse, run_result, run_log, run_log_target, serial_result, serialize, serialize_target}
use Rattle.semantics.specs.declared.Refusal.TheVariants.{SerialTooManyEntries}
use Rattle.semantics.specs.declared.Verdict.TheVariants.{Allowed}

-- ---- the words of demand 3

-- each of the moves, the first of place i, is accepted where it is made (refusal 12 left out), and the last one leaves e
abbrev pub Accepted : Table → ℕ → State → List Move → State → Type 0
Accepted t i s [] e = s ≡ e
Accepted t i s (m ∷ ms) e = (allowed t s m ≡ Allowed) × Accepted t (suc i) (applied t (suc i) s m) ms e

-- the log's moves in the serial order, and their places in the log
abbrev pub order_of : Table → State → List Move → List Act
order_of t s ms = ordered [] (acts t 0 s ms)

abbrev pub places_of : Table → State → List Move → List ℕ
places_of t s ms = map (λ a. a.place) (order_of t s ms)

-- The state before the j-th of these moves, from s. Products get their origins by the place that their move has in the first log: 0, 1, .. for the log
-- itself, `places_of` for the serial log.
unfoldable pub state_before : Table → List ℕ → State → List Move → ℕ → State
state_before t ps s ms zero = s
state_before t [] s ms (suc j) = s
state_before t (p ∷ ps) s [] (suc j) = s
state_before t (p ∷ ps) s (m ∷ ms) (suc j) = state_before t ps (after t (suc p) s m) ms j

-- the members that b has in s are those that b' has in s', and b' is the smallest of the ids that their begins got there
pub record SameMembers (s s' : State) (b b' : ℕ) : Type 0 where
  pub members : (o : Origin) → any (same_origin o) (marks_in (b' ∷ []) s') ≡ any (same_origin o) (marks_in (b ∷ []) s)
  pub smallest : b' ≡ least (mark_values (entries_in b' s'))

-- A move in the state s, and the same one again in s': a reaction by the same rule, whose picks in s' are, one by one, the entries with the origins of
-- those picked in s; a commit or abort of the same members.
pub data SameMove (s s' : State) : Move → Move → Type 0 where
  reaction : (r : ℕ) (ps ps' : List ℕ) → origins_of (picked s' ps') ≡ origins_of (picked s ps) → SameMove s s' (react r ps) (react r ps')
  committed : (b b' : ℕ) → SameMembers s s' b b' → SameMove s s' (commit b) (commit b')
  aborted : (b b' : ℕ) → SameMembers s s' b b' → SameMove s s' (abort b) (abort b')

abbrev pub has_origin : Origin → Entry → Bool
has_origin o e = same_origin o e.origin

-- the move at a place; something where there is none
abbrev pub no_move : Move
no_move = react 0 []

abbrev pub move_in : List Move → ℕ → Move
move_in ms i = get_or ms i no_move

-- the place in the log of the j-th move of the serial log, and the states before the log's move at place i and before the serial log's j-th move
abbrev pub place_at : Table → State → List Move → ℕ → ℕ
place_at t s ms j = get_or (places_of t s ms) j 0

abbrev pub log_state : Table → State → List Move → ℕ → State
log_state t s ms i = state_before t (up_from 0 (length ms)) s ms i

abbrev pub serial_state : Table → State → List Move → ℕ → State
serial_state t s ms j = state_before t (places_of t s ms) s (serial t s ms) j

-- a reaction by a local or a merge rule is made in the transactions of its picks
abbrev pub is_made_inside : Table → Move → Bool
is_made_inside t (react r ps) = not (eqb (rule_at t r).class 0)
is_made_inside t (commit b) = false
is_made_inside t (abort b) = false

-- a ends a member that x begins, or in whose transaction x is made
abbrev pub ends_member_of : Act → Act → Bool
ends_member_of x a = is_end a.move && belongs_to a x

-- a global entry of this kind, port and value
abbrev pub is_global : ℕ → ℕ → ℕ → Entry → Bool
is_global kind port value e = owned 0 e && (eqb e.kind kind && eqb e.port port && eqb e.value value)

-- ---- a log of decoded moves ms, accepted from s, and its end e

pub record Serial (t : Table) (s : State) (ms : List Move) (e : State) : Type 0 where
  -- 1. Each move once: the places of the serial order are 0 to k−1, each as often as there; ..
  pub once : (p : ℕ → Bool) → count_if p (places_of t s ms) ≡ count_if p (up_from 0 (length ms))
  pub size : length (serial t s ms) ≡ length ms
  -- .. and the j-th move of the serial log is the log's move of the j-th of these places.
  pub same : (j : ℕ) → j < length ms
      → SameMove (log_state t s ms (place_at t s ms j)) (serial_state t s ms j) (move_in ms (place_at t s ms j)) (move_in (serial t s ms) j)
  -- It concerns the same members: the one that it begins, those of the transactions that it is made in, or those that it ends.
  pub members : (j : ℕ) → j < length ms → (o : Origin)
      → any (same_origin o) (members_of t (place_at t s ms j) (serial_state t s ms j) (move_in (serial t s ms) j))
      ≡ any (same_origin o) (members_of t (place_at t s ms j) (log_state t s ms (place_at t s ms j)) (move_in ms (place_at t s ms j)))
  -- (Origins tell entries apart: in none of these states have two entries the same one. And they change nothing: the second states are those along the
  -- serial log.)
  pub origins : (j : ℕ) → j < length ms → (o : Origin)
      → (count_if (has_origin o) (log_state t s ms j).entries ≤ 1) × (count_if (has_origin o) (serial_state t s ms j).entries ≤ 1)
  pub states : (j : ℕ) → j ≤ length ms → state_words (serial_state t s ms j) ≡ state_words (get_or (along t 0 s (serial t s ms)) j s)
  -- 2. Blocks: directly before a commit or abort a stand the begins of the members that it ends and the reactions made in their transactions, in
  -- log order, with no other move between;
  pub blocks : (xs ys : List Act) (a : Act) → acts t 0 s ms ≡ xs ++ a ∷ ys → is_end a.move ≡ true
      → (before : List Act) × (behind : List Act) × (order_of t s ms ≡ before ++ (keep (belongs_to a) xs ++ a ∷ behind))
  -- the inner moves are the begins and the reactions by local and merge rules;
  pub inner : (xs ys : List Act) (x : Act) → acts t 0 s ms ≡ xs ++ x ∷ ys → is_inner x ≡ is_begin t x.move || is_made_inside t x.move
  -- each begin and each reaction made in transactions belongs to one commit or abort of the log, which stands after it;
  pub one_block : (xs ys : List Act) (x : Act) → acts t 0 s ms ≡ xs ++ x ∷ ys → is_inner x ≡ true
      → (count_if (ends_member_of x) (acts t 0 s ms) ≡ 1) × (count_if (ends_member_of x) ys ≡ 1)
  -- each member that a commit or abort ends was begun by a move before it;
  pub begun-before : (xs ys : List Act) (a : Act) → acts t 0 s ms ≡ xs ++ a ∷ ys → is_end a.move ≡ true
      → (o : Origin) → any (same_origin o) a.members ≡ true → any (λ x. is_begin t x.move && any (same_origin o) x.members) xs ≡ true
  -- and commits, aborts and global reactions without begin keep their order among themselves.
  pub others : keep (λ a. not (is_inner a)) (order_of t s ms) ≡ keep (λ a. not (is_inner a)) (acts t 0 s ms)
  -- 3. Accepted: every move of the serial log is, and its end has no open transaction and the same global messages, each as often.
  pub end : State
  pub accepted : Accepted t 0 s (serial t s ms) end
  pub closed : any_open end ≡ false
  pub same-messages : (kind port value : ℕ) → count_if (is_global kind port value) end.entries ≡ count_if (is_global kind port value) e.entries

-- ---- the words

abbrev pub moves_in : List ℕ → List ℕ → List Move
moves_in T L = map (move_of (table_of T)) (moves_of L)

-- every state along the serial log, the start included, has at most so many entries
abbrev pub room_along : ℕ → List ℕ → List ℕ → List ℕ → Bool
room_along ceiling T S L = all (fits ceiling) (along (table_of T) 0 (state_of S) (serial_of T S L))

pub record Serializable (ceiling : ℕ) (T S L : List ℕ) (e : State) : Type 0 where
  -- 1 to 3, of the moves that the words hold
  pub serial : Serial (table_of T) (state_of S) (moves_in T L) e
  -- 4. Refused exactly when outgrown: with a target of at least 1+5k words the answer is 17 if some state along the serial log has too many entries,
  -- and the serial log's words otherwise, 1+5k of them; ..
  pub words : length (log_words (serial_of T S L)) ≡ 1 + 5 * move_count L
  pub answer : (target : List ℕ) → 1 + 5 * move_count L ≤ length target
      → serial_result ceiling T S L target ≡ cond (room_along ceiling T S L) (write (log_words (serial_of T S L))) (refuse SerialTooManyEntries)
  -- .. in which case their run is accepted, given a target that could hold any state.
  pub rerun : room_along ceiling T S L ≡ true → (target : List ℕ) → 2050 ≤ length target
      → run_result ceiling T S (log_words (serial_of T S L)) target ≡ leave (state_words serial.end) (run_members ceiling T S (log_words (serial_of T S L)))
  -- 5 (02, M-120). As many members end: that run removes as many member marks as the run of the log.
  pub members : room_along ceiling T S L ≡ true → run_members ceiling T S (log_words (serial_of T S L)) ≡ run_members ceiling T S L

-- For all table, state and log words and every ceiling: given a well-formed state under a well-formed table (1 to 4), no begin that emits (14), no open
-- transaction at the start (15), a well-formed log (13) whose run is accepted (16), and no open transaction at its end (15).
abbrev pub Demand3 : Type 0
Demand3 = (ceiling : ℕ) (T S L : List ℕ) (e : State) → state_verdict T S ≡ Allowed → begins_emit (table_of T) ≡ false → any_open (state_of S) ≡ false
    → log_sizes_ok L ≡ true → run_of ceiling T S L ≡ completed e → any_open e ≡ false → Serializable ceiling T S L e

-- ---- the same of the public calls

-- a run of these words, with this target, is accepted and leaves this state there, and it removes as many member marks as the run of the log
pub record Rerun (T S L words : List ℕ) (end : State) (target : List ℕ) : Type 0 where
  pub number : (run_log T S words target).number ≡ 0
  pub members : (run_log T S words target).members ≡ (run_log T S L target).members
  pub state : take (run_log T S words target).words (run_log_target T S words target) ≡ state_words end

-- What `serialize` answers, and what it leaves in a target of at least 1+5k words.
pub record Serialized (T S L : List ℕ) (end : State) (target : List ℕ) : Type 0 where
  -- 17 exactly if some state along the serial log has more entries than the line holds; the target is then as it was.
  pub refused : room_along line_ceiling T S L ≡ false → ((serialize T S L target).number ≡ 17) × (serialize_target T S L target ≡ target)
  pub only : (serialize T S L target).number ≡ 17 → room_along line_ceiling T S L ≡ false
  -- Otherwise 0 and 1+5k words, which the target begins with: they are the serial log's. What is beyond them is as it was.
  pub number : room_along line_ceiling T S L ≡ true → (serialize T S L target).number ≡ 0
  pub words : room_along line_ceiling T S L ≡ true → (serialize T S L target).words ≡ 1 + 5 * move_count L
  pub log : room_along line_ceiling T S L ≡ true → take (serialize T S L target).words (serialize_target T S L target) ≡ log_words (serial_of T S L)
  pub beyond : room_along line_ceiling T S L ≡ true
      → drop (serialize T S L target).words (serialize_target T S L target) ≡ drop (serialize T S L target).words target
  -- A run of exactly these words, given a target that could hold any state, is accepted, leaves the end of the serial log, and removes as many member
  -- marks as the log's run.
  pub rerun : room_along line_ceiling T S L ≡ true → (other : List ℕ) → 2050 ≤ length other
      → Rerun T S L (take (serialize T S L target).words (serialize_target T S L target)) end other

-- Under the premises of demand 3, for the line's 1,024 entries.
abbrev pub PublicDemand3 : Type 0
PublicDemand3 = (T S L : List ℕ) (e : State) → state_verdict T S ≡ Allowed → begins_emit (table_of T) ≡ false → any_open (state_of S) ≡ false
    → log_sizes_ok L ≡ true → run_of line_ceiling T S L ≡ completed e → any_open e ≡ false
    → (h : Serializable line_ceiling T S L e) × ((target : List ℕ) → 1 + 5 * move_count L ≤ length target → Serialized T S L h.serial.end target)
