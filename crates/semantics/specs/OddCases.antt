-- Odd tables, states, moves and logs, each with the number that 01's sentences give it: the definitions are run on them before code is proved.
use Rattle.std.specs.Prelude.{ℕ, List, [], ◌∷◌, ◌++◌, map, ◌≡◌, refl, length, replicate}
use Rattle.semantics.specs.Table.{table_sizes_ok, numbers_ok, atom_ok, rule_ok, rules_ok, table_contents_ok, rule_of, table_of}
use Rattle.semantics.specs.State.{state_of, state_words, state_sizes_ok, entry_ok, entries_ok}
use Rattle.semantics.specs.Move.{move_ok, move_of, reacted, allowed, applied, step, step_words}
use Rattle.semantics.specs.Move as Move
use Rattle.semantics.specs.Log.{log_sizes_ok, log_words, run}
use Rattle.semantics.specs.Serial.{after, acts, again, replayed, serial, along, serial_fits}
use Rattle.semantics.specs.Answers.{table_verdict, state_own_verdict, state_verdict, check_table, check_state, move_result, make_move, log_verdict}
use Rattle.semantics.specs.Answers.{run_result, run_log, serial_of, serial_fits_of, serial_result, serialize}
use Rattle.semantics.specs.Cases.{two_lot, start, rule1, rule2, release, call_off, log_of}

pub record Odd : Type 0 where
  pub found : ℕ
  pub stated : ℕ

abbrev table : List ℕ → ℕ → Odd
table t n = record { found = (check_table t).number; stated = n }

abbrev state : List ℕ → ℕ → Odd
state s n = record { found = (check_state two_lot s).number; stated = n }

abbrev move : List ℕ → List ℕ → ℕ → Odd
move s m n = record { found = (make_move two_lot s m (replicate 2050 0)).number; stated = n }

-- a log on the two-lot start, with the room that 1+5k wants
abbrev serial_log : List ℕ → List (List ℕ) → ℕ → Odd
serial_log s ms n = record { found = (serialize two_lot s (log_of ms) (replicate (length (log_of ms)) 0)).number; stated = n }

pub odd : List Odd
odd =
    -- sizes and length
    table [] 1
    ∷ table (0 ∷ 0 ∷ 0 ∷ 0 ∷ []) 1
    ∷ table (0 ∷ 0 ∷ 0 ∷ 0 ∷ 0 ∷ []) 0
    ∷ table (0 ∷ 0 ∷ 0 ∷ 0 ∷ 0 ∷ 0 ∷ []) 1
    ∷ table (256 ∷ 0 ∷ 0 ∷ 0 ∷ 0 ∷ []) 0
    ∷ table (255 ∷ 1 ∷ 1 ∷ 0 ∷ 0 ∷ []) 1
    ∷ table (0xFFFFFFFF ∷ 1 ∷ 1 ∷ 0 ∷ 0 ∷ []) 1
    ∷ table (1 ∷ 0 ∷ 0 ∷ 65 ∷ 0 ∷ []) 1
    ∷ table (1 ∷ 0 ∷ 0 ∷ 1 ∷ 513 ∷ replicate 1026 0) 1
    -- a rule without atoms; rule numbers that fall or are too large
    ∷ table (1 ∷ 0 ∷ 0 ∷ 1 ∷ 0 ∷ []) 2
    ∷ table (1 ∷ 0 ∷ 0 ∷ 0 ∷ 1 ∷ 0 ∷ 0 ∷ []) 2
    ∷ table (1 ∷ 0 ∷ 0 ∷ 1 ∷ 1 ∷ 0 ∷ 0 ∷ []) 0
    ∷ table (1 ∷ 0 ∷ 0 ∷ 2 ∷ 1 ∷ 0 ∷ 0 ∷ []) 2
    ∷ table (1 ∷ 0 ∷ 0 ∷ 2 ∷ 2 ∷ 1 ∷ 0 ∷ 0 ∷ 0 ∷ []) 2
    ∷ table (1 ∷ 0 ∷ 0 ∷ 2 ∷ 2 ∷ 0 ∷ 1 ∷ 0 ∷ 0 ∷ []) 0
    ∷ table (1 ∷ 0 ∷ 0 ∷ 3 ∷ 2 ∷ 0 ∷ 2 ∷ 0 ∷ 0 ∷ []) 2
    -- a consume with mode 1, a received value, one of no consume, mode 2, role 6, a port that is not there
    ∷ table (1 ∷ 0 ∷ 0 ∷ 1 ∷ 1 ∷ 0 ∷ 0x01000000 ∷ []) 2
    ∷ table (1 ∷ 0 ∷ 0 ∷ 1 ∷ 2 ∷ 0 ∷ 0 ∷ 0 ∷ 0x11000000 ∷ []) 0
    ∷ table (1 ∷ 0 ∷ 0 ∷ 1 ∷ 2 ∷ 0 ∷ 0 ∷ 0 ∷ 0x11000001 ∷ []) 2
    ∷ table (1 ∷ 0 ∷ 0 ∷ 1 ∷ 2 ∷ 0 ∷ 0 ∷ 0 ∷ 0x12000000 ∷ []) 2
    ∷ table (1 ∷ 0 ∷ 0 ∷ 1 ∷ 2 ∷ 0 ∷ 0 ∷ 0 ∷ 0x60000000 ∷ []) 2
    ∷ table (1 ∷ 0 ∷ 0 ∷ 1 ∷ 2 ∷ 0 ∷ 0 ∷ 0 ∷ 0x10010000 ∷ []) 2
    -- a begin alone, two begins, a begin with a value, an abort without a begin in a global and in a local rule, a begin in a local rule
    ∷ table (1 ∷ 0 ∷ 0 ∷ 1 ∷ 2 ∷ 0 ∷ 0 ∷ 0 ∷ 0x20000000 ∷ []) 0
    ∷ table (1 ∷ 0 ∷ 0 ∷ 1 ∷ 3 ∷ 0 ∷ 0 ∷ 0 ∷ 0 ∷ 0x20000000 ∷ 0x20000000 ∷ []) 2
    ∷ table (1 ∷ 0 ∷ 0 ∷ 1 ∷ 2 ∷ 0 ∷ 0 ∷ 0 ∷ 0x20000001 ∷ []) 2
    ∷ table (1 ∷ 0 ∷ 0 ∷ 1 ∷ 2 ∷ 0 ∷ 0 ∷ 0 ∷ 0x50000000 ∷ []) 2
    ∷ table (0 ∷ 1 ∷ 0 ∷ 1 ∷ 2 ∷ 0 ∷ 0 ∷ 0 ∷ 0x50000000 ∷ []) 0
    ∷ table (0 ∷ 1 ∷ 0 ∷ 1 ∷ 2 ∷ 0 ∷ 0 ∷ 0 ∷ 0x20000000 ∷ []) 2
    -- roles that fall; no consume, four, five; 16 atoms, 17
    ∷ table (1 ∷ 0 ∷ 0 ∷ 1 ∷ 2 ∷ 0 ∷ 0 ∷ 0x10000000 ∷ 0 ∷ []) 2
    ∷ table (1 ∷ 0 ∷ 0 ∷ 1 ∷ 1 ∷ 0 ∷ 0x10000000 ∷ []) 2
    ∷ table (1 ∷ 0 ∷ 0 ∷ 1 ∷ 4 ∷ replicate 8 0) 0
    ∷ table (1 ∷ 0 ∷ 0 ∷ 1 ∷ 5 ∷ replicate 10 0) 2
    ∷ table (1 ∷ 0 ∷ 0 ∷ 1 ∷ 16 ∷ replicate 16 0 ++ 0 ∷ replicate 15 0x10000000) 0
    ∷ table (1 ∷ 0 ∷ 0 ∷ 1 ∷ 17 ∷ replicate 17 0 ++ 0 ∷ replicate 16 0x10000000) 2
    -- consumes of two classes; a global rule that emits to a local port, a local one to a global port; a compensation on a local port
    ∷ table (1 ∷ 1 ∷ 0 ∷ 1 ∷ 2 ∷ 0 ∷ 0 ∷ 0 ∷ 0x00010000 ∷ []) 2
    ∷ table (1 ∷ 1 ∷ 0 ∷ 1 ∷ 2 ∷ 0 ∷ 0 ∷ 0 ∷ 0x10010000 ∷ []) 2
    ∷ table (1 ∷ 1 ∷ 0 ∷ 1 ∷ 2 ∷ 0 ∷ 0 ∷ 0x00010000 ∷ 0x10000000 ∷ []) 0
    ∷ table (1 ∷ 1 ∷ 0 ∷ 1 ∷ 3 ∷ 0 ∷ 0 ∷ 0 ∷ 0 ∷ 0x20000000 ∷ 0x40010000 ∷ []) 2
    -- n, N and length
    ∷ state [] 3
    ∷ state (0 ∷ []) 3
    ∷ state (0 ∷ 0 ∷ []) 3
    ∷ state (0 ∷ 1 ∷ []) 0
    ∷ state (0 ∷ 65536 ∷ []) 0
    ∷ state (0 ∷ 65537 ∷ []) 3
    ∷ state (1 ∷ 1 ∷ 0 ∷ []) 3
    ∷ state (1024 ∷ 1 ∷ replicate 2048 0) 0
    ∷ state (1025 ∷ 1 ∷ replicate 2050 0) 3
    -- what is global; kinds; ports
    ∷ state (1 ∷ 1 ∷ 0 ∷ 0x00010005 ∷ []) 0
    ∷ state (1 ∷ 1 ∷ 0 ∷ 0x00020005 ∷ []) 4
    ∷ state (1 ∷ 1 ∷ 0 ∷ 0x01000005 ∷ []) 4
    ∷ state (1 ∷ 1 ∷ 0 ∷ 0x04000000 ∷ []) 4
    ∷ state (2 ∷ 2 ∷ 1 ∷ 1 ∷ 0x03000001 ∷ 0x00030005 ∷ []) 0
    ∷ state (2 ∷ 2 ∷ 1 ∷ 1 ∷ 0x03000001 ∷ 0x00040005 ∷ []) 4
    ∷ state (2 ∷ 2 ∷ 1 ∷ 1 ∷ 0x03000001 ∷ 0x01010005 ∷ []) 0
    ∷ state (2 ∷ 2 ∷ 1 ∷ 1 ∷ 0x03000001 ∷ 0x01020005 ∷ []) 4
    ∷ state (3 ∷ 2 ∷ 1 ∷ 1 ∷ 1 ∷ 0x03000001 ∷ 0x02000000 ∷ 0x02000000 ∷ []) 0
    ∷ state (2 ∷ 2 ∷ 1 ∷ 1 ∷ 0x03000001 ∷ 0x02000001 ∷ []) 4
    -- member marks: ids given out, owners no larger, none twice, bare; an owner without its own mark; an owner above 65,535
    ∷ state (1 ∷ 1 ∷ 1 ∷ 0x03000001 ∷ []) 4
    ∷ state (1 ∷ 2 ∷ 1 ∷ 0x03010001 ∷ []) 4
    ∷ state (2 ∷ 3 ∷ 2 ∷ 2 ∷ 0x03000002 ∷ 0x03000001 ∷ []) 4
    ∷ state (2 ∷ 3 ∷ 1 ∷ 1 ∷ 0x03000001 ∷ 0x03000001 ∷ []) 4
    ∷ state (2 ∷ 3 ∷ 1 ∷ 1 ∷ 0x03000001 ∷ 0x03000002 ∷ []) 0
    ∷ state (3 ∷ 3 ∷ 1 ∷ 1 ∷ 2 ∷ 0x03000001 ∷ 0x03000002 ∷ 0x00000005 ∷ []) 4
    ∷ state (2 ∷ 2 ∷ 1 ∷ 65537 ∷ 0x03000001 ∷ 0x00000005 ∷ []) 4
    -- the form of a move
    ∷ move start [] 5
    ∷ move start (0 ∷ 0 ∷ 0 ∷ 0 ∷ []) 5
    ∷ move start (0 ∷ 0 ∷ 0 ∷ 0 ∷ 0 ∷ 0 ∷ []) 5
    ∷ move start (0x03000001 ∷ 0 ∷ 0 ∷ 0 ∷ 0 ∷ []) 5
    ∷ move start (rule1 4 0) 5
    ∷ move start (rule2 0 0 1) 5
    ∷ move start (release 0) 5
    ∷ move start (release 65536) 5
    ∷ move start (release 65535) 9
    ∷ move start (0x01000001 ∷ 0 ∷ 0 ∷ 0 ∷ 1 ∷ []) 5
    ∷ record { found = (make_move two_lot start (rule1 0 0) (replicate 2049 0)).number; stated = 6 }
    ∷ record { found = (make_move two_lot start (rule1 4 0) []).number; stated = 5 }
    ∷ record { found = (make_move two_lot start (rule1 0 2) []).number; stated = 6 }
    -- picks: past the end, on another port, no message; owners: a global rule on a transaction's message, a local rule over two transactions
    ∷ move start (rule1 0 0) 0
    ∷ move start (rule1 0 2) 7
    ∷ move start (rule1 1 0) 7
    ∷ move (2 ∷ 2 ∷ 1 ∷ 1 ∷ 0x03000001 ∷ 0x01000005 ∷ []) (rule1 0 1) 7
    ∷ move (2 ∷ 2 ∷ 1 ∷ 1 ∷ 0x03000001 ∷ 0x00000005 ∷ []) (rule1 0 1) 8
    -- 8 before 11, 11 before 12
    ∷ move (1 ∷ 65536 ∷ 0 ∷ 7 ∷ []) (rule1 0 0) 11
    ∷ move (1 ∷ 65535 ∷ 0 ∷ 7 ∷ []) (rule1 0 0) 0
    ∷ move (2 ∷ 65536 ∷ 1 ∷ 1 ∷ 0x03000001 ∷ 0x00000005 ∷ []) (rule1 0 1) 8
    -- a commit with an abort mark, an abort without one
    ∷ move (2 ∷ 2 ∷ 1 ∷ 1 ∷ 0x03000001 ∷ 0x02000000 ∷ []) (release 1) 10
    ∷ move (2 ∷ 2 ∷ 1 ∷ 1 ∷ 0x03000001 ∷ 0x02000000 ∷ []) (call_off 1) 0
    ∷ move (1 ∷ 2 ∷ 1 ∷ 0x03000001 ∷ []) (call_off 1) 10
    -- after a merge only the smallest id is a transaction's
    ∷ move (2 ∷ 3 ∷ 1 ∷ 1 ∷ 0x03000001 ∷ 0x03000002 ∷ []) (release 2) 9
    ∷ move (2 ∷ 3 ∷ 1 ∷ 1 ∷ 0x03000001 ∷ 0x03000002 ∷ []) (release 1) 0
    -- up to the limit, and one entry over it (rule 0 takes one and leaves three)
    ∷ move (1022 ∷ 1 ∷ replicate 2044 0) (rule1 0 1021) 0
    ∷ move (1023 ∷ 1 ∷ replicate 2046 0) (rule1 0 0) 12
    ∷ move (1023 ∷ 65536 ∷ replicate 2046 0) (rule1 0 0) 11
    -- the serial log: 15 at the start and at the end, 16 before it
    ∷ serial_log (1 ∷ 2 ∷ 1 ∷ 0x03000001 ∷ []) [] 15
    ∷ serial_log start (rule1 0 0 ∷ []) 15
    ∷ serial_log start (rule1 0 0 ∷ rule1 0 5 ∷ []) 16
    ∷ record { found = (serialize two_lot start (log_of []) []).number; stated = 6 }
    ∷ record { found = (serialize two_lot start [] []).number; stated = 13 }
    ∷ record { found = (serialize two_lot start (0 ∷ 0 ∷ []) []).number; stated = 13 }
    ∷ record { found = (run_log two_lot start (1025 ∷ replicate 5125 0) []).number; stated = 13 }
    ∷ record { found = (run_log two_lot start (0 ∷ []) (replicate 2049 0)).number; stated = 6 }
    ∷ []

-- a begin that emits: 14, of the serial log only
pub giving_table : List ℕ
giving_table = 1 ∷ 0 ∷ 0 ∷ 1 ∷ 3 ∷ 0 ∷ 0 ∷ 0 ∷ 0 ∷ 0x10000000 ∷ 0x20000000 ∷ []

pub odd-hold : map (λ c. c.found) odd ≡ map (λ c. c.stated) odd
unfolding two_lot start odd table_sizes_ok numbers_ok atom_ok rule_ok rules_ok table_contents_ok rule_of table_of state_of state_words state_sizes_ok entry_ok
    entries_ok move_ok move_of reacted Move.ended allowed applied step step_words log_sizes_ok log_words run after acts again replayed serial along
    serial_fits table_verdict state_own_verdict state_verdict check_table check_state move_result make_move log_verdict run_result run_log serial_of
    serial_fits_of serial_result serialize
odd-hold = refl

pub giving : (serialize giving_table (1 ∷ 1 ∷ 0 ∷ 0 ∷ []) (0 ∷ []) (0 ∷ [])).number ≡ 14
unfolding giving_table table_sizes_ok numbers_ok atom_ok rule_ok rules_ok table_contents_ok rule_of table_of state_of state_sizes_ok entry_ok entries_ok
    log_sizes_ok
    run table_verdict state_own_verdict state_verdict log_verdict serial_result serialize
giving = refl
