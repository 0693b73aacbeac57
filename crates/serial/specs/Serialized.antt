-- What the inner functions of the serial log ask and say.
use Rattle.std.specs.Prelude.{ℕ, ◌+◌, ◌*◌, ◌≤◌, ◌<◌, ◌≡◌, Bool, true, false, cond, List, map, length, get_or, take, replicate}
use Rattle.lists.specs.Lists.{over}
use Rattle.semantics.specs.Table.{sizes_of, numbers_of, table_of}
use Rattle.semantics.specs.State as semantics
use Rattle.semantics.specs.State.{state_of}
use Rattle.semantics.specs.Move.{move_of}
use Rattle.semantics.specs.Log.{move_count, moves_of, log_sizes_ok, log_words, completed}
use Rattle.semantics.specs.Serial.{begins_emit, any_open, acts}
use Rattle.semantics.specs.Answers.{Result, write, refuse, outcome_of, target_after, state_verdict, line_ceiling, run_of, serial_of, serial_fits_of, serial_after}
use Rattle.semantics.specs.declared.Refusal.TheVariants.{SerialTooManyEntries}
use Rattle.semantics.specs.declared.Verdict.TheVariants.{Allowed}
use Rattle.semantics.specs.declared.Outcome.{Outcome}
use Rattle.semantics.specs.declared.Outcome.TheVariants.{Written, Refused}
use Rattle.move_log.specs.Form.{LogSized}
use Rattle.serial_laws.specs.Order.{arranged_by}
use Rattle.order.specs.Keys.{KeysOf}
use Rattle.table.specs.Index.{Starts}
use Rattle.recording.specs.Recordings.{Recordings}

-- all that is tested before the log is run
pub record Tested (t index s l target : List ℕ) : Type 0 where
  pub state : state_verdict t s ≡ Allowed
  pub starts : Starts (numbers_of t) (sizes_of t).rules index
  pub sizes : log_sizes_ok l ≡ true
  pub room : 1 + 5 * move_count l ≤ length target
  pub quiet : begins_emit (table_of t) ≡ false
  pub closed : any_open (state_of s) ≡ false

-- arrays that hold four words a move, and the words of the log
pub record Roomy (l wanted out : List ℕ) : Type 0 where
  pub notes : 4 * move_count l ≤ length wanted
  pub words : 1 + 5 * move_count l ≤ length out

abbrev pub after_run : List ℕ → List ℕ → List ℕ → Result
after_run t s l = serial_after line_ceiling t s l (run_of line_ceiling t s l)

pub record SerializedAs (t s l before after : List ℕ) (o : Outcome) : Type 0 where
  pub outcome : o ≡ outcome_of (after_run t s l)
  pub target : after ≡ target_after (after_run t s l) before

-- the log was run and recorded, and nothing is open at its end
pub record Reorderable (t index s l origins members ends target : List ℕ) : Type 0 where
  pub begun : Tested t index s l target
  pub end : semantics.State
  pub ran : run_of line_ceiling t s l ≡ completed end
  pub shut : any_open end ≡ false
  pub recordings : Recordings (table_of t) l (acts (table_of t) 0 (state_of s) (map (move_of (table_of t)) (moves_of l))) origins members
      (replicate 1024 0) ends
  pub record-sizes : (4 * move_count l ≤ length origins) × (length members ≡ 1024) × (length ends ≡ 1024)

-- every key that can be found for a move of the log is one of its places
pub record Sortable (l members ends : List ℕ) : Type 0 where
  pub log : LogSized l
  pub members-size : length members ≡ 1024
  pub ends-size : length ends ≡ 1024
  pub below : (keys : List ℕ) → KeysOf l members ends (move_count l) keys → (i : ℕ) → i < move_count l → get_or keys i 0 < move_count l

-- the log's places by the keys of its moves
pub record SortedAs (l members ends order : List ℕ) : Type 0 where
  pub size : length order ≡ 1024
  pub keys : List ℕ
  pub keyed : KeysOf l members ends (move_count l) keys
  pub sorted : take (move_count l) order ≡ arranged_by (take (move_count l) keys)

abbrev pub reordered_result : List ℕ → List ℕ → List ℕ → Result
reordered_result t s l = cond (serial_fits_of line_ceiling t s l) (write (log_words (serial_of t s l))) (refuse SerialTooManyEntries)

pub record ReorderedAs (t s l before after : List ℕ) (o : Outcome) : Type 0 where
  pub outcome : o ≡ outcome_of (reordered_result t s l)
  pub target : after ≡ target_after (reordered_result t s l) before

-- the log's words over the target's beginning, or 17
pub record WrittenAs (fits : Bool) (k : ℕ) (out before after : List ℕ) (o : Outcome) : Type 0 where
  pub outcome : o ≡ cond fits (Written (1 + 5 * k)) (Refused SerialTooManyEntries)
  pub target : after ≡ cond fits (over (take (1 + 5 * k) out) before) before
