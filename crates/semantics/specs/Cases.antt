-- 01, "The two-lot plant": cases (a) to (h) on 01's words, as one table under one statement. Its figures are 01's own.
use Rattle.std.specs.Prelude.{ℕ, ◌+◌, List, [], ◌∷◌, ◌++◌, map, ◌≡◌, refl, length, take, drop, replicate}
use Rattle.semantics.specs.Table.{table_sizes_ok, numbers_ok, atom_ok, rule_ok, rules_ok, table_contents_ok, rule_of, table_of}
use Rattle.semantics.specs.State.{state_of, state_words, state_sizes_ok, entry_ok, entries_ok}
use Rattle.semantics.specs.Move.{move_ok, move_of, reacted, allowed, applied, step, step_words}
use Rattle.semantics.specs.Move as Move
use Rattle.semantics.specs.Log.{log_sizes_ok, log_words, run}
use Rattle.semantics.specs.Members.{members_along}
use Rattle.semantics.specs.Serial.{after, acts, again, replayed, serial, along, serial_fits}
use Rattle.semantics.specs.Answers.{table_verdict, state_own_verdict, state_verdict, check_table, check_state, move_result, make_move, make_move_target}
use Rattle.semantics.specs.Answers.{log_verdict, run_result, run_log, run_log_target, serial_of, serial_fits_of, serial_result, serialize}
use Rattle.semantics.specs.Answers.{serialize_target}
use Rattle.semantics.specs.declared.Answer.{Answer}

-- two global ports, a local and a merge port, four rules of twelve atoms
unfoldable pub two_lot : List ℕ
two_lot =
    2 ∷ 1 ∷ 1 ∷ 4 ∷ 12
    ∷ 0 ∷ 0 ∷ 0 ∷ 0 ∷ 1 ∷ 1 ∷ 2 ∷ 2 ∷ 2 ∷ 2 ∷ 3 ∷ 3
    ∷ 0x00000000 ∷ 0x20000000 ∷ 0x31020000 ∷ 0x41000000
    ∷ 0x00020000 ∷ 0x11030000
    ∷ 0x00030000 ∷ 0x00030000 ∷ 0x11010000 ∷ 0x11010001
    ∷ 0x00020000 ∷ 0x50000000
    ∷ []

-- two messages on port 0, of the values 7 and 9
unfoldable pub start : List ℕ
start = 2 ∷ 1 ∷ 0 ∷ 0 ∷ 7 ∷ 9 ∷ []

-- ---- moves and logs as 01 writes them

abbrev pub rule1 : ℕ → ℕ → List ℕ
rule1 r p = r ∷ p ∷ 0 ∷ 0 ∷ 0 ∷ []

abbrev pub rule2 : ℕ → ℕ → ℕ → List ℕ
rule2 r p q = r ∷ p ∷ q ∷ 0 ∷ 0 ∷ []

abbrev pub release : ℕ → List ℕ
release b = (0x01000000 + b) ∷ 0 ∷ 0 ∷ 0 ∷ 0 ∷ []

abbrev pub call_off : ℕ → List ℕ
call_off b = (0x02000000 + b) ∷ 0 ∷ 0 ∷ 0 ∷ 0 ∷ []

abbrev pub picks_from : List (List ℕ) → List ℕ
picks_from [] = []
picks_from (m ∷ ms) = drop 1 m ++ picks_from ms

abbrev pub heads_from : List (List ℕ) → List ℕ
heads_from [] = []
heads_from (m ∷ ms) = take 1 m ++ heads_from ms

abbrev pub log_of : List (List ℕ) → List ℕ
log_of ms = length ms ∷ heads_from ms ++ picks_from ms

unfoldable pub log_a : List (List ℕ)
log_a = rule1 0 0 ∷ rule1 0 0 ∷ rule1 1 1 ∷ rule1 1 3 ∷ rule2 2 4 5 ∷ release 1 ∷ []

unfoldable pub log_c : List (List ℕ)
log_c = rule1 0 0 ∷ rule1 0 0 ∷ rule1 1 1 ∷ rule1 3 3 ∷ call_off 2 ∷ []

unfoldable pub log_d : List (List ℕ)
log_d = rule1 0 0 ∷ rule1 0 0 ∷ rule1 3 1 ∷ rule1 3 3 ∷ call_off 2 ∷ call_off 1 ∷ []

unfoldable pub serial_d : List (List ℕ)
serial_d = rule1 0 1 ∷ rule1 3 2 ∷ call_off 1 ∷ rule1 0 0 ∷ rule1 3 2 ∷ call_off 2 ∷ []

-- ---- the table

pub data Call : Type 0 where
  theTable theStart : Call
  theRun theSerialLog : List (List ℕ) → Call
  -- a move on the words that the run of a log left
  after_run : List (List ℕ) → List ℕ → Call

-- a call's answer and the words it wrote
pub record Found : Type 0 where
  pub answer : Answer
  pub written : List ℕ

abbrev pub target : List ℕ
target = replicate 2050 0

abbrev pub found_in : Answer → List ℕ → Found
found_in a t = record { answer = a; written = take a.words t }

abbrev pub reached_by : List (List ℕ) → List ℕ
reached_by ms = take (run_log two_lot start (log_of ms) target).words (run_log_target two_lot start (log_of ms) target)

pub found : Call → Found
found theTable = found_in (check_table two_lot) []
found theStart = found_in (check_state two_lot start) []
found (theRun ms) = found_in (run_log two_lot start (log_of ms) target) (run_log_target two_lot start (log_of ms) target)
found (theSerialLog ms) = found_in (serialize two_lot start (log_of ms) target) (serialize_target two_lot start (log_of ms) target)
found (after_run ms m) = found_in (make_move two_lot (reached_by ms) m target) (make_move_target two_lot (reached_by ms) m target)

abbrev pub writes : List ℕ → Found
writes ws = record { answer = record { number = 0; words = length ws; place = 0; own = 0; members = 0 }; written = ws }

-- a run, with the member marks that it removed (02, M-120)
abbrev pub leaves : List ℕ → ℕ → Found
leaves ws k = record { answer = record { number = 0; words = length ws; place = 0; own = 0; members = k }; written = ws }

abbrev pub answers : ℕ → Found
answers n = record { answer = record { number = n; words = 0; place = 0; own = 0; members = 0 }; written = [] }

pub record Case : Type 0 where
  pub call : Call
  pub stated : Found

pub cases : List Case
cases =
    record { call = theTable; stated = answers 0 }
    ∷ record { call = theStart; stated = answers 0 }
    -- (a) two members merged and committed
    ∷ record { call = theRun log_a; stated = leaves (2 ∷ 3 ∷ 0 ∷ 0 ∷ 0x00010007 ∷ 0x00010009 ∷ []) 2 }
    -- (b) a commit before the merge: 10
    ∷ record { call = after_run (take 4 log_a) (release 1); stated = answers 10 }
    -- (c) the second transaction aborted, the first still there
    ∷ record { call = theRun log_c; stated = leaves (4 ∷ 3 ∷ 1 ∷ 1 ∷ 0 ∷ 1 ∷ 0x03000001 ∷ 0x01000007 ∷ 0x00000009 ∷ 0x00030007 ∷ []) 1 }
    -- (d) two transactions aborted in the other order than begun: the serial log, the run, and the serial log's run
    ∷ record { call = theSerialLog log_d; stated = writes (log_of serial_d) }
    ∷ record { call = theRun log_d; stated = leaves (2 ∷ 3 ∷ 0 ∷ 0 ∷ 7 ∷ 9 ∷ []) 2 }
    ∷ record { call = theRun serial_d; stated = leaves (2 ∷ 3 ∷ 0 ∷ 0 ∷ 9 ∷ 7 ∷ []) 2 }
    -- (e) an entry picked twice: 7
    ∷ record { call = after_run (take 4 log_a) (rule2 2 4 4); stated = answers 7 }
    -- (f) an abort that nothing asked for: 10
    ∷ record { call = after_run (take 1 log_a) (call_off 1); stated = answers 10 }
    -- (g) a commit of an id not given out: 9
    ∷ record { call = after_run (take 2 log_a) (release 3); stated = answers 9 }
    -- (h) no moves, in a log and in its serial log
    ∷ record { call = theSerialLog []; stated = writes (0 ∷ []) }
    ∷ []

pub cases-hold : map (λ c. found c.call) cases ≡ map (λ c. c.stated) cases
unfolding two_lot start log_a log_c log_d serial_d cases found table_sizes_ok numbers_ok atom_ok rule_ok rules_ok table_contents_ok rule_of table_of state_of
    state_words state_sizes_ok entry_ok entries_ok move_ok move_of reacted Move.ended allowed applied step step_words log_sizes_ok log_words run
    members_along after acts
    again replayed serial along serial_fits table_verdict state_own_verdict state_verdict check_table check_state move_result make_move make_move_target
    log_verdict run_result run_log run_log_target serial_of serial_fits_of serial_result serialize serialize_target
cases-hold = refl
