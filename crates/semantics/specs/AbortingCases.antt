-- 02, M-105: moves where a transaction has an abort mark (01's stopped batch), each with its answer, and where 18 stands among the faults.
use Rattle.std.specs.Prelude.{ℕ, List, [], ◌∷◌, ◌++◌, map, ◌≡◌, refl, take, replicate}
use Rattle.semantics.specs.Table.{Rule, table_sizes_ok, numbers_ok, atom_ok, rule_ok, rules_ok, table_contents_ok, rule_of, table_of}
use Rattle.semantics.specs.State.{State, state_of, state_words, state_sizes_ok, entry_ok, entries_ok}
use Rattle.semantics.specs.Move.{react_allowed, move_ok, move_of, reacted, allowed, applied, step, step_words}
use Rattle.semantics.specs.Move as Move
use Rattle.semantics.specs.Log.{log_sizes_ok, log_words, run}
use Rattle.semantics.specs.Members.{members_along}
use Rattle.semantics.specs.Serial.{after, acts, again, replayed, serial, along, serial_fits}
use Rattle.semantics.specs.Answers.{table_verdict, state_own_verdict, state_verdict, move_result, make_move, make_move_target, log_verdict, run_result}
use Rattle.semantics.specs.Answers.{run_log}
use Rattle.semantics.specs.Answers.{serial_of, serial_fits_of, serial_result, serialize}
use Rattle.semantics.specs.Cases.{two_lot, rule1, rule2, release, call_off, log_of, target}
use Rattle.semantics.specs.declared.Answer.{Answer}
use Rattle.semantics.specs.declared.AtomValue.TheVariants.{Constant}
use Rattle.semantics.specs.declared.Refusal.TheVariants.{TransactionAborting}
use Rattle.semantics.specs.declared.Verdict.TheVariants.{Denied}

pub record Asked : Type 0 where
  pub found : Answer
  pub stated : Answer

-- a move's number; of a reaction that is made the words of its state, two and two for each entry
abbrev move : List ℕ → List ℕ → List ℕ → ℕ → ℕ → Asked
move table s m number words = record { found = make_move table s m target; stated = record { number = number; words = words; place = 0; own = 0; members = 0 } }

-- a call that writes so many words and removes so many member marks
abbrev writes : Answer → ℕ → ℕ → Asked
writes found words members = record { found = found; stated = record { number = 0; words = words; place = 0; own = 0; members = members } }

-- 16, with the move's place and its own number
abbrev breaks_off : Answer → ℕ → ℕ → Asked
breaks_off found place own = record { found = found; stated = record { number = 16; words = 0; place = place; own = own; members = 0 } }

-- Three transactions of the two-lot plant, the second with an abort mark: a message of each on the merge port (4, 6, 8), one of the second on the
-- local port (9) and on the global port (10), and one that is global (11).
unfoldable pub three : List ℕ
three =
    12 ∷ 4
    ∷ 1 ∷ 2 ∷ 3 ∷ 2 ∷ 1 ∷ 2 ∷ 2 ∷ 3 ∷ 3 ∷ 2 ∷ 2 ∷ 0
    ∷ 0x03000001 ∷ 0x03000002 ∷ 0x03000003 ∷ 0x02000000 ∷ 0x00030007 ∷ 0x01000009 ∷ 0x00030009 ∷ 0x01000005 ∷ 0x00030005 ∷ 0x00020001 ∷ 0x00000002 ∷ 0x00000003
    ∷ []

-- a local rule that consumes one and emits two, a global one that begins with a message and an abort mark inside, and a local one that consumes two
unfoldable pub growing : List ℕ
growing =
    1 ∷ 1 ∷ 0 ∷ 3 ∷ 9
    ∷ 0 ∷ 0 ∷ 0 ∷ 1 ∷ 1 ∷ 1 ∷ 1 ∷ 2 ∷ 2
    ∷ 0x00010000 ∷ 0x10010000 ∷ 0x10010000
    ∷ 0x00000000 ∷ 0x20000000 ∷ 0x30010000 ∷ 0x50000000
    ∷ 0x00010000 ∷ 0x00010000
    ∷ []

-- two transactions with two messages each, the second with an abort mark
unfoldable pub two : List ℕ
two =
    7 ∷ 3
    ∷ 1 ∷ 2 ∷ 2 ∷ 1 ∷ 1 ∷ 2 ∷ 2
    ∷ 0x03000001 ∷ 0x03000002 ∷ 0x02000000 ∷ 0x00010001 ∷ 0x00010002 ∷ 0x00010003 ∷ 0x00010004
    ∷ []

-- a message on the global port
abbrev one : List ℕ
one = 1 ∷ 1 ∷ 0 ∷ 0 ∷ []

pub aborting : List Asked
aborting =
    -- local rules in the second transaction
    move two_lot three (rule1 1 9) 18 0
    ∷ move two_lot three (rule1 3 9) 18 0
    -- a merge with the second, picked first or last; a merge of the others
    ∷ move two_lot three (rule2 2 6 4) 18 0
    ∷ move two_lot three (rule2 2 4 6) 18 0
    ∷ move two_lot three (rule2 2 4 8) 0 26
    -- its commit is refused as before, and its abort made; the abort of another
    ∷ move two_lot three (release 2) 10 0
    ∷ writes (make_move two_lot three (call_off 2) target) 16 1
    ∷ move two_lot three (call_off 1) 10 0
    -- 8 before 18: a global rule on a message of the second, a local one over two transactions; inside either of them
    ∷ move two_lot three (rule1 0 10) 8 0
    ∷ move growing two (rule2 2 3 5) 8 0
    ∷ move growing two (rule2 2 5 6) 18 0
    ∷ move growing two (rule2 2 3 4) 0 12
    -- what is global is not concerned
    ∷ move two_lot three (rule1 0 11) 0 30
    -- 7 before 18: an entry picked twice, and another port
    ∷ move two_lot three (rule2 2 6 6) 7 0
    ∷ move two_lot three (rule2 2 6 9) 7 0
    -- a begin with an abort mark inside, and one beside a transaction that has one
    ∷ move growing one (rule1 1 0) 0 8
    ∷ move growing (3 ∷ 2 ∷ 1 ∷ 1 ∷ 0 ∷ 0x03000001 ∷ 0x02000000 ∷ 0 ∷ []) (rule1 1 2) 0 12
    -- logs break off there, in a run and in a serial log; with an abort in its place both are made
    ∷ breaks_off (run_log two_lot three (log_of (rule2 2 4 8 ∷ rule1 1 7 ∷ [])) target) 1 18
    ∷ breaks_off (run_log growing one (log_of (rule1 1 0 ∷ rule1 0 1 ∷ [])) target) 1 18
    ∷ breaks_off (serialize growing one (log_of (rule1 1 0 ∷ rule1 0 1 ∷ [])) target) 1 18
    ∷ writes (run_log growing one (log_of (rule1 1 0 ∷ call_off 1 ∷ [])) target) 2 1
    ∷ writes (serialize growing one (log_of (rule1 1 0 ∷ call_off 1 ∷ [])) target) 11 0
    ∷ []

pub aborting-hold : map (λ c. c.found) aborting ≡ map (λ c. c.stated) aborting
unfolding two_lot three growing two aborting table_sizes_ok numbers_ok atom_ok rule_ok rules_ok table_contents_ok rule_of table_of state_of state_words
    state_sizes_ok
    entry_ok entries_ok move_ok move_of reacted Move.ended allowed applied step step_words log_sizes_ok log_words run members_along after acts again
    replayed serial
    along serial_fits table_verdict state_own_verdict state_verdict move_result make_move log_verdict run_result run_log serial_of serial_fits_of
    serial_result serialize
aborting-hold = refl

-- what the abort leaves: the second transaction's compensation as a message of the plant, and the others as they were
pub aborted : take 16 (make_move_target two_lot three (call_off 2) target)
    ≡ 7 ∷ 4 ∷ 1 ∷ 3 ∷ 1 ∷ 0 ∷ 3 ∷ 3 ∷ 0
    ∷ 0x03000001 ∷ 0x03000003 ∷ 0x00030007 ∷ 0x00000009 ∷ 0x01000005 ∷ 0x00030005 ∷ 0x00000003 ∷ []
unfolding two_lot three table_sizes_ok numbers_ok atom_ok rule_ok rules_ok table_contents_ok rule_of table_of state_of state_words state_sizes_ok entry_ok
    entries_ok
    move_ok move_of Move.ended allowed applied step step_words table_verdict state_own_verdict state_verdict move_result make_move_target
aborted = refl

-- one transaction of 1,024 entries, this item the second of them
abbrev full : ℕ → List ℕ
full item = 1024 ∷ 2 ∷ replicate 1024 1 ++ 0x03000001 ∷ item ∷ replicate 1022 0x00010000

-- 18 before 12
pub aborting_full : List Asked
aborting_full = move growing (full 0x02000000) (rule1 0 2) 18 0 ∷ move growing (full 0x00010000) (rule1 0 2) 12 0 ∷ []

pub full-hold : map (λ c. c.found) aborting_full ≡ map (λ c. c.stated) aborting_full
unfolding growing aborting_full table_sizes_ok numbers_ok atom_ok rule_ok rules_ok table_contents_ok rule_of table_of state_of state_words state_sizes_ok
    entry_ok
    entries_ok move_ok move_of reacted allowed applied step step_words table_verdict state_own_verdict state_verdict move_result make_move
full-hold = refl

-- 18 before 11. No table has a rule that could give both, since only a global rule begins; the order is that of the definition. Such a rule on the
-- message at 9, by the next id.
abbrev begins_inside : Rule
begins_inside = record {
  class = 1;
  atoms = record { role = 0; port = 2; value = Constant 0 } ∷ record { role = 2; port = 0; value = Constant 0 } ∷ [];
}

abbrev at_next : ℕ → State → State
at_next next s = record { next = next; entries = s.entries }

pub eighteen-before-eleven : react_allowed begins_inside (at_next 65536 (state_of three)) (9 ∷ []) ≡ Denied TransactionAborting
unfolding three state_of
eighteen-before-eleven = refl
