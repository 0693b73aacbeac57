-- The theorem holds of something: 01's cases (a), (d) and (h) meet all that it asks, and so does a log whose serial order is outgrown (17).
use Rattle.std.specs.Prelude.{ℕ, ◌≤◌, false, List, [], ◌∷◌, ◌≡◌, refl, length}
use Rattle.std.proofs.Common.{◌∙◌}
use Rattle.semantics.specs.Table.{table_sizes_ok, numbers_ok, atom_ok, rule_ok, rules_ok, table_contents_ok, rule_of, table_of}
use Rattle.semantics.specs.State.{State, state_of, state_sizes_ok, entry_ok, entries_ok}
use Rattle.semantics.specs.Move.{move_ok, move_of, reacted, allowed, applied, step, step_words}
use Rattle.semantics.specs.Move as Move
use Rattle.semantics.specs.Log.{log_sizes_ok, Ran, completed, stopped, run}
use Rattle.semantics.specs.Serial.{after, acts, again, replayed, serial, along}
use Rattle.semantics.specs.Answers.{table_verdict, state_own_verdict, state_verdict, line_ceiling, run_of, serial_of, refuse, serial_result}
use Rattle.semantics.specs.Cases.{two_lot, start, rule1, rule2, release, log_a, log_d, log_of}
use Rattle.semantics.specs.declared.Refusal.TheVariants.{SerialTooManyEntries}
use Rattle.serializability.specs.Statement.{room_along, Serializable}
use Rattle.serializability.specs.Demand3.{demand3}

abbrev end_of : Ran → State
end_of (completed e) = e
end_of (stopped i r) = record { next = 0; entries = [] }

abbrev end_from : ℕ → List ℕ → List ℕ → List (List ℕ) → State
end_from ceiling t s ms = end_of (run_of ceiling t s (log_of ms))

unfoldable pub end_of_log : List (List ℕ) → State
end_of_log ms = end_from line_ceiling two_lot start ms

pub serializable-a : Serializable line_ceiling two_lot start (log_of log_a) (end_of_log log_a)
unfolding end_of_log two_lot start log_a table_sizes_ok numbers_ok atom_ok rule_ok rules_ok table_contents_ok rule_of table_of state_of state_sizes_ok
    entry_ok entries_ok move_ok move_of reacted Move.ended allowed applied step step_words log_sizes_ok run table_verdict state_own_verdict state_verdict
serializable-a = demand3 line_ceiling two_lot start (log_of log_a) (end_of_log log_a) refl refl refl refl refl refl

pub serializable-d : Serializable line_ceiling two_lot start (log_of log_d) (end_of_log log_d)
unfolding end_of_log two_lot start log_d table_sizes_ok numbers_ok atom_ok rule_ok rules_ok table_contents_ok rule_of table_of state_of state_sizes_ok
    entry_ok entries_ok move_ok move_of reacted Move.ended allowed applied step step_words log_sizes_ok run table_verdict state_own_verdict state_verdict
serializable-d = demand3 line_ceiling two_lot start (log_of log_d) (end_of_log log_d) refl refl refl refl refl refl

pub serializable-h : Serializable line_ceiling two_lot start (log_of []) (end_of_log [])
unfolding end_of_log two_lot start table_sizes_ok numbers_ok atom_ok rule_ok rules_ok table_contents_ok rule_of table_of state_of state_sizes_ok entry_ok
    entries_ok log_sizes_ok run table_verdict state_own_verdict state_verdict
serializable-h = demand3 line_ceiling two_lot start (log_of []) (end_of_log []) refl refl refl refl refl refl

-- ---- 17

-- Rule 0 takes two messages and begins a transaction that is empty; rule 1 makes two messages of one.
unfoldable pub swelling : List ℕ
swelling =
    2 ∷ 0 ∷ 0 ∷ 2 ∷ 6
    ∷ 0 ∷ 0 ∷ 0 ∷ 1 ∷ 1 ∷ 1
    ∷ 0x00000000 ∷ 0x00000000 ∷ 0x20000000
    ∷ 0x00010000 ∷ 0x10010000 ∷ 0x10010000
    ∷ []

-- Three entries, as many as the ceiling. The log makes room by the begin before rule 1 needs it; in the serial order rule 1 goes first.
unfoldable pub three_full : List ℕ
three_full = 3 ∷ 1 ∷ 0 ∷ 0 ∷ 0 ∷ 0 ∷ 0 ∷ 0x00010000 ∷ []

unfoldable pub log_swelling : List (List ℕ)
log_swelling = rule2 0 0 1 ∷ rule1 1 0 ∷ release 1 ∷ []

pub end_swelling : State
end_swelling = end_from 3 swelling three_full log_swelling

pub serializable-swelling : Serializable 3 swelling three_full (log_of log_swelling) end_swelling
unfolding end_swelling swelling three_full log_swelling table_sizes_ok numbers_ok atom_ok rule_ok rules_ok table_contents_ok rule_of table_of state_of
    state_sizes_ok entry_ok entries_ok move_ok move_of reacted Move.ended allowed applied step step_words log_sizes_ok run table_verdict state_own_verdict
    state_verdict
serializable-swelling = demand3 3 swelling three_full (log_of log_swelling) end_swelling refl refl refl refl refl refl

swelling-outgrown : room_along 3 swelling three_full (log_of log_swelling) ≡ false
unfolding swelling three_full log_swelling table_of rule_of state_of move_of reacted Move.ended allowed applied step after acts again replayed serial
    along serial_of
swelling-outgrown = refl

pub swelling-refused : (target : List ℕ) → 16 ≤ length target → serial_result 3 swelling three_full (log_of log_swelling) target ≡ refuse SerialTooManyEntries
unfolding log_swelling
swelling-refused target h = serializable-swelling.answer target h ∙ rw swelling-outgrown
