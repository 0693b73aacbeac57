-- What the first pass notes of a move, and what it asks and says of the whole log.
use Rattle.std.specs.Prelude.{ℕ, ◌-◌, ◌*◌, ◌≤◌, ◌<◌, ◌≡◌, false, ◌||◌, cond, List, [], map, eqb, leb, ltb, length, get_or, set}
use Rattle.lists.specs.Each.{All}
use Rattle.lists.specs.Over.{Pasted}
use Rattle.lists.specs.Rows.{rows}
use Rattle.semantics.specs.Words.{head_kind, head_number}
use Rattle.semantics.specs.Table.{Table, sizes_of, table_of}
use Rattle.semantics.specs.State.{Origin, Entry}
use Rattle.semantics.specs.Move.{move_of}
use Rattle.semantics.specs.Log.{move_count, moves_of}
use Rattle.semantics.specs.Serial.{Act, begins_emit, any_open, acts}
use Rattle.semantics.specs.declared.Verdict.TheVariants.{Allowed}
use Rattle.wellformed.specs.Held.{Held}
use Rattle.state.specs.declared.State.{State}
use Rattle.state.specs.Working.{row_of, state_in}
use Rattle.step.specs.Make.{Workable}
use Rattle.run.specs.declared.Ran.{Ran}
use Rattle.run.specs.Runs.{Prepared, RanAs}
use Rattle.serial_laws.specs.Acts.{Recorded, end_after}
use Rattle.recording.specs.Marks.{marks_of, NotedAt}

-- ---- one move, in the state before it

-- a column at these places, 0 past its end
abbrev pub words_at : List ℕ → List ℕ → List ℕ
words_at column places = map (λ p. get_or column p 0) places

-- the transaction that a move in these words concerns: the one that it ends, or the first pick's
abbrev pub concerned_by : List ℕ → ℕ → List ℕ → ℕ
concerned_by owners head picks = cond (eqb (head_kind head) 0) (get_or owners (get_or picks 0 0) 0) (head_number head)

-- the word of the origin of id's own mark, by ids from `first` on; 0 of an earlier id
abbrev pub mark_by : List ℕ → ℕ → ℕ → ℕ
mark_by begun first id = cond (leb first id) (get_or begun (id - first) 0) 0

-- the member marks that a move with this head ends: none a reaction, or a number that is no id
abbrev pub marks_ended : ℕ → List Entry → List Origin
marks_ended head es = cond (eqb (head_kind head) 0 || ltb 65535 (head_number head)) [] (marks_of (head_number head) es)

-- the origins of the picks, the mark of the transaction concerned, and the ends of the members that the move ends
pub record MoveNoted (os ws gs : List ℕ) (n : ℕ) (begun : List ℕ) (first head : ℕ) (picks : List ℕ) (i : ℕ)
    (wanted members ended wanted' members' ended' : List ℕ) : Type 0 where
  pub picked : Pasted wanted (4 * i) (words_at gs picks) 4 wanted'
  pub member : members' ≡ set members i (mark_by begun first (concerned_by os head picks))
  pub ends : NotedAt i (marks_ended head (rows (row_of os ws gs) 0 n)) ended ended'

-- a word at this place if the next id has grown
abbrev pub if_grown : ℕ → ℕ → List ℕ → ℕ → ℕ → List ℕ
if_grown next next' column place w = cond (eqb next next') column (set column place w)

-- ---- the log

-- nothing is open at the start, so that every member is begun in the log
pub record Recordable (T index l : List ℕ) (s : State) (ceiling : ℕ) : Type 0 where
  pub prepared : Prepared T index l
  pub quiet : begins_emit (table_of T) ≡ false
  pub held : Held (sizes_of T) (state_in s)
  pub closed : any_open (state_in s) ≡ false
  pub workable : Workable s ceiling

-- the arrays that are lent to the pass, as long before as after it: four words a move, and three arrays of one
pub record RecordRoom (l gs ms es bs : List ℕ) : Type 0 where
  pub origins : 4 * move_count l ≤ length gs
  pub members : length ms ≡ 1024
  pub ends : length es ≡ 1024
  pub begun : length bs ≡ 1024

-- every act is recorded, and each place has that of the last end of the member begun there
pub record Recordings (t : Table) (l : List ℕ) (all : List Act) (origins members before ended : List ℕ) : Type 0 where
  pub each : All (Recorded t l origins members) all
  pub ends : (p : ℕ) → p < 1024 → get_or ended p 0 ≡ end_after p (get_or before p 0) all

pub record RecordedAs (r : Ran) (ceiling : ℕ) (t : Table) (l : List ℕ) (s s' : State) (origins members before ended : List ℕ) : Type 0 where
  pub ran : RanAs r ceiling t l s s'
  pub recordings : r.verdict ≡ Allowed → Recordings t l (acts t 0 (state_in s) (map (move_of t) (moves_of l))) origins members before ended
