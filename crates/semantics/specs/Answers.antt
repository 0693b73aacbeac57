-- The numbers of 01 and 02, and each public call's answer and target contents as a function of the words handed in.
use Rattle.std.specs.Prelude.{ℕ, ◌+◌, ◌*◌, Bool, false, not, List, [], ◌∷◌, map, leb, length}
use Rattle.lists.specs.Lists.{over, each, one_if}
use Rattle.semantics.specs.Table.{sizes_of, table_sizes_ok, table_contents_ok, table_of}
use Rattle.semantics.specs.State.{State, max_entries, state_sizes_ok, entries_ok, state_of, state_words}
use Rattle.semantics.specs.Move.{unless, first_fault, Move, move_ok, move_of, Stepped, to, refused, step_words}
use Rattle.semantics.specs.Log.{max_moves, move_count, moves_of, log_sizes_ok, log_words, Ran, completed, stopped, run}
use Rattle.semantics.specs.Members.{members_ended, members_along}
use Rattle.semantics.specs.Serial.{begins_emit, any_open, serial, serial_fits}
use Rattle.semantics.specs.Tally.{no_moves, tally_along, tally_words}
use Rattle.semantics.specs.Enabled.{enabled, move_words, page_count, page_of}
use Rattle.semantics.specs.Preview.{previewed}
use Rattle.semantics.specs.Unattended.{moves_alone, reached_alone, is_still}
use Rattle.semantics.specs.declared.Refusal.{Refusal}
use Rattle.semantics.specs.declared.Refusal.TheVariants.{TableSizes, TableContents, StateSizes, StateContents, MoveForm, TargetTooShort}
use Rattle.semantics.specs.declared.Refusal.TheVariants.{WrongPick, WrongOwner, NoTransaction, EndNotAllowed, NoMoreIds, TooManyEntries}
use Rattle.semantics.specs.declared.Refusal.TheVariants.{LogSizes, BeginEmits, TransactionOpen, SerialTooManyEntries, TransactionAborting, BudgetTooLarge}
use Rattle.semantics.specs.declared.Verdict.{Verdict}
use Rattle.semantics.specs.declared.Verdict.TheVariants.{Allowed, Denied}
use Rattle.semantics.specs.declared.Outcome.{Outcome}
use Rattle.semantics.specs.declared.Outcome.TheVariants.{Passed, Written, Moved, Refused, MoveRefused}
use Rattle.semantics.specs.declared.Answer.{Answer}
use Rattle.semantics.specs.declared.Tally.{Tally}
use Rattle.semantics.specs.declared.Page.{Page}
use Rattle.semantics.specs.declared.Listed.{Listed}
use Rattle.semantics.specs.declared.Preview.{Preview}
use Rattle.semantics.specs.declared.Previewed.{Previewed}
use Rattle.semantics.specs.declared.Previewed.TheVariants.{Accepted, Rejected}
use Rattle.semantics.specs.declared.LeftAlone.{LeftAlone}
use Rattle.semantics.specs.declared.Unattended.{Unattended}
use Rattle.semantics.specs.declared.Sizes.{Sizes}

-- ---- the numbers of 01, and 18 and 19 of 02 (M-105, M-130)

abbrev pub number : Refusal → ℕ
-- what is handed in is at fault
number TableSizes = 1
number TableContents = 2
number StateSizes = 3
number StateContents = 4
number MoveForm = 5
number TargetTooShort = 6
number LogSizes = 13
number BeginEmits = 14
number BudgetTooLarge = 19
-- the state does not allow it
number WrongPick = 7
number WrongOwner = 8
number NoTransaction = 9
number EndNotAllowed = 10
number NoMoreIds = 11
number TooManyEntries = 12
number TransactionOpen = 15
number SerialTooManyEntries = 17
number TransactionAborting = 18

-- What C gets: 0 and the count of words written, or the refusal's number and nothing else; only 16 says more.
abbrev pub answer_of : Outcome → Answer
answer_of Passed = record { number = 0; words = 0; place = 0; own = 0; members = 0 }
answer_of (Written n) = record { number = 0; words = n; place = 0; own = 0; members = 0 }
-- after moves: the member marks that they removed, too (02, M-120)
answer_of (Moved n k) = record { number = 0; words = n; place = 0; own = 0; members = k }
answer_of (Refused r) = record { number = number r; words = 0; place = 0; own = 0; members = 0 }
-- 16: which move of the log was refused, from 0, and why
answer_of (MoveRefused i r) = record { number = 16; words = 0; place = i; own = number r; members = 0 }

-- ---- what a call comes to: words to write, or why not

pub data Result : Type 0 where
  write : List ℕ → Result
  -- the words of the state that moves left, and how many member marks they removed (02, M-120)
  leave : List ℕ → ℕ → Result
  refuse : Refusal → Result
  refuse_move : ℕ → Refusal → Result

abbrev pub outcome_of : Result → Outcome
outcome_of (write ws) = Written (length ws)
outcome_of (leave ws k) = Moved (length ws) k
outcome_of (refuse r) = Refused r
outcome_of (refuse_move i r) = MoveRefused i r

-- words go over the target's beginning, and the rest of it stays; after a refusal all of it does
abbrev pub target_after : Result → List ℕ → List ℕ
target_after (write ws) target = over ws target
target_after (leave ws k) target = over ws target
target_after (refuse r) target = target
target_after (refuse_move i r) target = target

abbrev pub unless_denied : Verdict → Result → Result
unless_denied Allowed x = x
unless_denied (Denied r) x = refuse r

abbrev pub outcome_of_check : Verdict → Outcome
outcome_of_check Allowed = Passed
outcome_of_check (Denied r) = Refused r

-- ---- the two checks

-- a table: 1, 2
abbrev pub table_faults : List ℕ → List Verdict
table_faults t = unless (table_sizes_ok t) TableSizes ∷ unless (table_contents_ok t) TableContents ∷ []

unfoldable pub table_verdict : List ℕ → Verdict
table_verdict t = first_fault (table_faults t)

-- a state by itself, under a well-formed table of these sizes: 3, 4
abbrev pub state_own_faults : Sizes → List ℕ → List Verdict
state_own_faults z s = unless (state_sizes_ok s) StateSizes ∷ unless (entries_ok z (state_of s)) StateContents ∷ []

unfoldable pub state_own_verdict : Sizes → List ℕ → Verdict
state_own_verdict z s = first_fault (state_own_faults z s)

-- a table and a state under it: 1, 2, 3, 4
unfoldable pub state_verdict : List ℕ → List ℕ → Verdict
state_verdict t s = first_fault (table_verdict t ∷ state_own_verdict (sizes_of t) s ∷ [])

unfoldable pub check_table : List ℕ → Answer
check_table t = answer_of (outcome_of_check (table_verdict t))

unfoldable pub check_state : List ℕ → List ℕ → Answer
check_state t s = answer_of (outcome_of_check (state_verdict t s))

-- ---- the single move

-- The calls work with as many entries as the line holds. Definitions and facts about room take any ceiling.
abbrev pub line_ceiling : ℕ
line_ceiling = max_entries

-- 6: how long the target must be, whatever is written: for a state as long as the largest state, ..
abbrev pub state_room : ℕ
state_room = 2050

-- .. and for a serial log as long as the log
abbrev pub serial_room : List ℕ → ℕ
serial_room l = 1 + 5 * move_count l

abbrev pub has_words : ℕ → List ℕ → Verdict
has_words n target = unless (leb n (length target)) TargetTooShort

abbrev pub stepped_result : ℕ → Stepped → Result
stepped_result k (to s) = leave (state_words s) k
stepped_result k (refused r) = refuse r

-- a move: 1, 2, 3, 4, 5, 6, ..
abbrev pub move_faults : List ℕ → List ℕ → List ℕ → List ℕ → List Verdict
move_faults t s m target = state_verdict t s ∷ unless (move_ok (table_of t) m) MoveForm ∷ has_words state_room target ∷ []

-- .. and then 7 to 12 and 18, of which the state decides
unfoldable pub move_result : ℕ → List ℕ → List ℕ → List ℕ → List ℕ → Result
move_result ceiling t s m target =
    unless_denied (first_fault (move_faults t s m target))
    (stepped_result (members_ended (state_of s) (move_of (table_of t) m)) (step_words ceiling (table_of t) 1 (state_of s) m))

unfoldable pub make_move : List ℕ → List ℕ → List ℕ → List ℕ → Answer
make_move t s m target = answer_of (outcome_of (move_result line_ceiling t s m target))

unfoldable pub make_move_target : List ℕ → List ℕ → List ℕ → List ℕ → List ℕ
make_move_target t s m target = target_after (move_result line_ceiling t s m target) target

-- ---- the run

abbrev pub ran_result : ℕ → Ran → Result
ran_result k (completed s) = leave (state_words s) k
ran_result k (stopped i r) = refuse_move i r

-- what the run and the serial log ask of table, state and log: 1, 2, 3, 4, 13
unfoldable pub log_verdict : List ℕ → List ℕ → List ℕ → Verdict
log_verdict t s l = first_fault (state_verdict t s ∷ unless (log_sizes_ok l) LogSizes ∷ [])

abbrev pub run_of : ℕ → List ℕ → List ℕ → List ℕ → Ran
run_of ceiling t s l = run ceiling (table_of t) 0 (state_of s) (moves_of l)

abbrev pub run_members : ℕ → List ℕ → List ℕ → List ℕ → ℕ
run_members ceiling t s l = members_along ceiling (table_of t) 0 (state_of s) (moves_of l)

-- a run: 1, 2, 3, 4, 13, 6, ..
abbrev pub run_faults : List ℕ → List ℕ → List ℕ → List ℕ → List Verdict
run_faults t s l target = log_verdict t s l ∷ has_words state_room target ∷ []

-- .. and then 16
unfoldable pub run_result : ℕ → List ℕ → List ℕ → List ℕ → List ℕ → Result
run_result ceiling t s l target =
    unless_denied (first_fault (run_faults t s l target)) (ran_result (run_members ceiling t s l) (run_of ceiling t s l))

unfoldable pub run_log : List ℕ → List ℕ → List ℕ → List ℕ → Answer
run_log t s l target = answer_of (outcome_of (run_result line_ceiling t s l target))

unfoldable pub run_log_target : List ℕ → List ℕ → List ℕ → List ℕ → List ℕ
run_log_target t s l target = target_after (run_result line_ceiling t s l target) target

-- the tally of a run, from zero (02, M-125)
abbrev pub run_tally : ℕ → List ℕ → List ℕ → List ℕ → Tally
run_tally ceiling t s l = tally_along ceiling (table_of t) 0 (state_of s) (moves_of l) no_moves

-- the four words of the caller's tally: an accepted run puts its own in their place, and a refused one leaves them (no run comes to `write`)
abbrev pub tally_after : Result → Tally → List ℕ → List ℕ
tally_after (write ws) y words = words
tally_after (leave ws k) y words = tally_words y
tally_after (refuse r) y words = words
tally_after (refuse_move i r) y words = words

unfoldable pub run_log_tally : List ℕ → List ℕ → List ℕ → List ℕ → List ℕ → List ℕ
run_log_tally t s l target words = tally_after (run_result line_ceiling t s l target) (run_tally line_ceiling t s l) words

-- ---- the serial log

-- the moves of the serial log, of an accepted log
unfoldable pub serial_of : List ℕ → List ℕ → List ℕ → List Move
serial_of t s l = serial (table_of t) (state_of s) (map (move_of (table_of t)) (moves_of l))

unfoldable pub serial_fits_of : ℕ → List ℕ → List ℕ → List ℕ → Bool
serial_fits_of ceiling t s l = serial_fits ceiling (table_of t) (state_of s) (map (move_of (table_of t)) (moves_of l))

-- a serial log: 1, 2, 3, 4, 13, 6, 14, and 15 at the start, ..
abbrev pub serial_faults : List ℕ → List ℕ → List ℕ → List ℕ → List Verdict
serial_faults t s l target =
    log_verdict t s l
    ∷ has_words (serial_room l) target
    ∷ unless (not (begins_emit (table_of t))) BeginEmits
    ∷ unless (not (any_open (state_of s))) TransactionOpen
    ∷ []

-- .. then 16, 15 at the end, and 17
abbrev pub serial_end_faults : ℕ → List ℕ → List ℕ → List ℕ → State → List Verdict
serial_end_faults ceiling t s l end = unless (not (any_open end)) TransactionOpen ∷ unless (serial_fits_of ceiling t s l) SerialTooManyEntries ∷ []

abbrev pub serial_after : ℕ → List ℕ → List ℕ → List ℕ → Ran → Result
serial_after ceiling t s l (stopped i r) = refuse_move i r
serial_after ceiling t s l (completed end) = unless_denied (first_fault (serial_end_faults ceiling t s l end)) (write (log_words (serial_of t s l)))

unfoldable pub serial_result : ℕ → List ℕ → List ℕ → List ℕ → List ℕ → Result
serial_result ceiling t s l target =
    unless_denied (first_fault (serial_faults t s l target)) (serial_after ceiling t s l (run_of ceiling t s l))

unfoldable pub serialize : List ℕ → List ℕ → List ℕ → List ℕ → Answer
serialize t s l target = answer_of (outcome_of (serial_result line_ceiling t s l target))

unfoldable pub serialize_target : List ℕ → List ℕ → List ℕ → List ℕ → List ℕ
serialize_target t s l target = target_after (serial_result line_ceiling t s l target) target

-- ---- the list of open moves (02, M-100)

-- 1, 2, 3, 4, 6: the target must hold a whole page of the count, however many moves there are
abbrev pub list_faults : List ℕ → List ℕ → ℕ → List ℕ → List Verdict
list_faults t s count target = state_verdict t s ∷ has_words (5 * page_count count) target ∷ []

-- the open moves of a state in words
abbrev pub enabled_in : ℕ → List ℕ → List ℕ → List Move
enabled_in ceiling t s = enabled ceiling (table_of t) (state_of s)

-- the page's moves, one after another
unfoldable pub list_result : ℕ → List ℕ → List ℕ → ℕ → ℕ → List ℕ → Result
list_result ceiling t s first count target =
    unless_denied (first_fault (list_faults t s count target)) (write (each move_words (page_of first count (enabled_in ceiling t s))))

abbrev pub unless_denied_zero : Verdict → ℕ → ℕ
unless_denied_zero Allowed n = n
unless_denied_zero (Denied r) n = 0

-- beside it the length of the whole list, 0 where the list is refused
unfoldable pub list_length : ℕ → List ℕ → List ℕ → ℕ → List ℕ → ℕ
list_length ceiling t s count target = unless_denied_zero (first_fault (list_faults t s count target)) (length (enabled_in ceiling t s))

-- what C gets of an outcome and a length
abbrev pub page_answer : Listed → Page
page_answer l = record { number = (answer_of l.outcome).number; words = (answer_of l.outcome).words; length = l.length }

unfoldable pub list_moves : List ℕ → List ℕ → ℕ → ℕ → List ℕ → Page
list_moves t s first count target = page_answer (record {
  outcome = outcome_of (list_result line_ceiling t s first count target);
  length = list_length line_ceiling t s count target;
})

unfoldable pub list_moves_target : List ℕ → List ℕ → ℕ → ℕ → List ℕ → List ℕ
list_moves_target t s first count target = target_after (list_result line_ceiling t s first count target) target

-- ---- the preview of a move (02, M-115)

abbrev pub unless_rejected : Verdict → Previewed → Previewed
unless_rejected Allowed x = x
unless_rejected (Denied r) x = Rejected r

-- 1, 2, 3, 4, and then what the move would come to: there is no target, so no 6
unfoldable pub preview_result : ℕ → List ℕ → List ℕ → List ℕ → Previewed
preview_result ceiling t s m = unless_rejected (state_verdict t s) (previewed ceiling (table_of t) (state_of s) m)

-- what C gets: 0 and the figures, or the refusal's number and nothing else
abbrev pub preview_answer : Previewed → Preview
preview_answer (Accepted f) = record { number = 0; entries = f.entries; next = f.next; id = f.id; members = f.members }
preview_answer (Rejected r) = record { number = number r; entries = 0; next = 0; id = 0; members = 0 }

unfoldable pub preview_move : List ℕ → List ℕ → List ℕ → Preview
preview_move t s m = preview_answer (preview_result line_ceiling t s m)

-- ---- the unattended run (02, M-130)

-- 1, 2, 3, 4, 19, 6: a log has no more moves than 1,024, and the target must hold one of the whole budget, however many moves are made
abbrev pub alone_faults : List ℕ → List ℕ → ℕ → List ℕ → List Verdict
alone_faults t s budget target =
    state_verdict t s
    ∷ unless (leb budget max_moves) BudgetTooLarge
    ∷ has_words (1 + 5 * budget) target
    ∷ []

unfoldable pub alone_verdict : List ℕ → List ℕ → ℕ → List ℕ → Verdict
alone_verdict t s budget target = first_fault (alone_faults t s budget target)

-- the moves made on a state in words, and the state that they reach
abbrev pub alone_moves : ℕ → List ℕ → List ℕ → ℕ → List Move
alone_moves ceiling t s budget = moves_alone ceiling (table_of t) 0 budget (state_of s)

abbrev pub alone_reached : ℕ → List ℕ → List ℕ → ℕ → State
alone_reached ceiling t s budget = reached_alone ceiling (table_of t) 0 budget (state_of s)

-- their log, with as many heads as moves were made
unfoldable pub alone_result : ℕ → List ℕ → List ℕ → ℕ → List ℕ → Result
alone_result ceiling t s budget target = unless_denied (alone_verdict t s budget target) (write (log_words (alone_moves ceiling t s budget)))

-- beside it their number, 0 where the run is refused, ..
unfoldable pub alone_count : ℕ → List ℕ → List ℕ → ℕ → List ℕ → ℕ
alone_count ceiling t s budget target = unless_denied_zero (alone_verdict t s budget target) (length (alone_moves ceiling t s budget))

-- .. and whether nothing is open in the state reached; of a refused run that is not said
abbrev pub unless_denied_false : Verdict → Bool → Bool
unless_denied_false Allowed b = b
unless_denied_false (Denied r) b = false

unfoldable pub alone_still : ℕ → List ℕ → List ℕ → ℕ → List ℕ → Bool
alone_still ceiling t s budget target =
    unless_denied_false (alone_verdict t s budget target) (is_still ceiling (table_of t) (alone_reached ceiling t s budget))

-- what C gets
abbrev pub alone_answer : LeftAlone → Unattended
alone_answer l = record { number = (answer_of l.outcome).number; words = (answer_of l.outcome).words; moves = l.moves; still = one_if l.still }

unfoldable pub run_unattended : List ℕ → List ℕ → ℕ → List ℕ → Unattended
run_unattended t s budget target = alone_answer (record {
  outcome = outcome_of (alone_result line_ceiling t s budget target);
  moves = alone_count line_ceiling t s budget target;
  still = alone_still line_ceiling t s budget target;
})

unfoldable pub run_unattended_target : List ℕ → List ℕ → ℕ → List ℕ → List ℕ
run_unattended_target t s budget target = target_after (alone_result line_ceiling t s budget target) target
