-- 02, M-120: how many member marks moves, previews, runs and the runs of serial logs remove, on the two-lot plant, where four members are merged, and in
-- odd cases.
use Rattle.std.specs.Prelude.{ℕ, List, [], ◌∷◌, ◌++◌, map, ◌≡◌, refl, take}
use Rattle.semantics.specs.Table.{table_sizes_ok, numbers_ok, atom_ok, rule_ok, rules_ok, table_contents_ok, rule_of, table_of}
use Rattle.semantics.specs.State.{state_of, state_words, state_sizes_ok, entry_ok, entries_ok}
use Rattle.semantics.specs.Move.{move_ok, move_of, reacted, allowed, applied, step, step_words}
use Rattle.semantics.specs.Move as Move
use Rattle.semantics.specs.Log.{log_sizes_ok, log_words, run}
use Rattle.semantics.specs.Members.{members_along}
use Rattle.semantics.specs.Serial.{after, acts, again, replayed, serial, along, serial_fits}
use Rattle.semantics.specs.Preview.{previewed}
use Rattle.semantics.specs.Answers.{table_verdict, state_own_verdict, state_verdict, move_result, make_move, log_verdict, run_result, run_log, run_log_target}
use Rattle.semantics.specs.Answers.{serial_of, serial_fits_of, serial_result, serialize, serialize_target, preview_result, preview_move}
use Rattle.semantics.specs.Cases.{two_lot, start, log_a, log_c, log_d, rule1, rule2, release, call_off, log_of, target, reached_by}
use Rattle.semantics.specs.AbortingCases.{three}

-- numbers and member counts of some calls
pub record Counted : Type 0 where
  pub found : List ℕ
  pub stated : List ℕ

-- a move and its preview, both with this number and these members
abbrev move : List ℕ → List ℕ → List ℕ → ℕ → ℕ → Counted
move t s m number members = record {
  found = (make_move t s m target).number ∷ (make_move t s m target).members ∷ (preview_move t s m).number ∷ (preview_move t s m).members ∷ [];
  stated = number ∷ members ∷ number ∷ members ∷ [];
}

-- on the two-lot plant, after some moves of a log
abbrev after_some : ℕ → List (List ℕ) → List ℕ → ℕ → ℕ → Counted
after_some k log m number members = move two_lot (reached_by (take k log)) m number members

abbrev runs : List ℕ → List ℕ → List (List ℕ) → ℕ → ℕ → Counted
runs t s log number members = record {
  found = (run_log t s (log_of log) target).number ∷ (run_log t s (log_of log) target).members ∷ [];
  stated = number ∷ members ∷ [];
}

-- the log's run, the serial log, whose own answer has no members, and the run of the words that it wrote
abbrev serial_words : List ℕ → List ℕ → List (List ℕ) → List ℕ
serial_words t s log = take (serialize t s (log_of log) target).words (serialize_target t s (log_of log) target)

abbrev both_run : List ℕ → List ℕ → List (List ℕ) → ℕ → Counted
both_run t s log members = record {
  found =
      (run_log t s (log_of log) target).members
      ∷ (serialize t s (log_of log) target).number
      ∷ (serialize t s (log_of log) target).members
      ∷ (run_log t s (serial_words t s log) target).number
      ∷ (run_log t s (serial_words t s log) target).members
      ∷ [];
  stated = members ∷ 0 ∷ 0 ∷ 0 ∷ members ∷ [];
}

pub plant_members : List Counted
plant_members =
    -- (a) begins, local reactions and the merge remove nothing; the commit removes two marks of one transaction
    after_some 0 log_a (rule1 0 0) 0 0
    ∷ after_some 1 log_a (rule1 0 0) 0 0
    ∷ after_some 2 log_a (rule1 1 1) 0 0
    ∷ after_some 3 log_a (rule1 1 3) 0 0
    ∷ after_some 4 log_a (rule2 2 4 5) 0 0
    ∷ after_some 5 log_a (release 1) 0 2
    ∷ both_run two_lot start log_a 2
    ∷ runs two_lot start (take 5 log_a) 0 0
    -- (c) an abort removes the one mark of its transaction; the other stays
    ∷ after_some 4 log_c (call_off 2) 0 1
    ∷ runs two_lot start log_c 0 1
    -- (d) two aborts of one mark each
    ∷ after_some 4 log_d (call_off 2) 0 1
    ∷ after_some 5 log_d (call_off 1) 0 1
    ∷ both_run two_lot start log_d 2
    -- (b), (e), (f), (g) are refused and remove nothing; (h) has no moves
    ∷ after_some 4 log_a (release 1) 10 0
    ∷ after_some 4 log_a (rule2 2 4 4) 7 0
    ∷ after_some 1 log_a (call_off 1) 10 0
    ∷ after_some 2 log_a (release 3) 9 0
    ∷ both_run two_lot start [] 0
    -- a run that breaks off after the commit (16) says nothing of it
    ∷ runs two_lot start (log_a ++ release 1 ∷ []) 16 0
    ∷ runs two_lot start (take 5 log_d ++ rule1 3 0 ∷ []) 16 0
    ∷ []

-- a begin, a merge of four that emits one, and a merge of four that asks for an abort
unfoldable pub join_four : List ℕ
join_four =
    1 ∷ 0 ∷ 1 ∷ 3 ∷ 13
    ∷ 0 ∷ 0 ∷ 0 ∷ 1 ∷ 1 ∷ 1 ∷ 1 ∷ 1 ∷ 2 ∷ 2 ∷ 2 ∷ 2 ∷ 2
    ∷ 0x00000000 ∷ 0x20000000 ∷ 0x31010000
    ∷ 0x00010000 ∷ 0x00010000 ∷ 0x00010000 ∷ 0x00010000 ∷ 0x10000005
    ∷ 0x00010000 ∷ 0x00010000 ∷ 0x00010000 ∷ 0x00010000 ∷ 0x50000000
    ∷ []

unfoldable pub four_messages : List ℕ
four_messages = 4 ∷ 1 ∷ 0 ∷ 0 ∷ 0 ∷ 0 ∷ 1 ∷ 2 ∷ 3 ∷ 4 ∷ []

-- four begun, and merged by rule r in this order
abbrev pub joined : ℕ → List (List ℕ)
joined r = rule1 0 0 ∷ rule1 0 0 ∷ rule1 0 0 ∷ rule1 0 0 ∷ (r ∷ 7 ∷ 1 ∷ 5 ∷ 3 ∷ []) ∷ []

-- open at the start: one transaction of four members under the smallest of their ids, and one of another
unfoldable pub four_open : List ℕ
four_open = 6 ∷ 9 ∷ 3 ∷ 3 ∷ 2 ∷ 3 ∷ 0 ∷ 3 ∷ 0x03000005 ∷ 0x03000003 ∷ 0x03000002 ∷ 0x03000008 ∷ 0x00000001 ∷ 0x03000007 ∷ []

pub odd_members : List Counted
odd_members =
    -- four members merged into one transaction, committed and aborted
    both_run join_four four_messages (joined 1 ++ release 1 ∷ []) 4
    ∷ both_run join_four four_messages (joined 2 ++ call_off 1 ∷ []) 4
    ∷ runs join_four four_messages (joined 2) 0 0
    -- what was open at the start counts too, each transaction's own marks only
    ∷ move join_four four_open (release 3) 0 4
    ∷ move join_four four_open (release 2) 0 1
    ∷ runs join_four four_open (release 2 ∷ release 3 ∷ []) 0 5
    ∷ runs join_four four_open (release 3 ∷ release 3 ∷ []) 16 0
    ∷ move join_four four_open (release 5) 9 0
    ∷ move two_lot three (call_off 2) 0 1
    -- refused for what is handed in: 1 to 5, then 6 and 13 of a move or a run that would end members
    ∷ move [] [] [] 1 0
    ∷ move (1 ∷ 0 ∷ 0 ∷ 1 ∷ 0 ∷ []) [] [] 2 0
    ∷ move join_four [] [] 3 0
    ∷ move join_four (1 ∷ 1 ∷ 0 ∷ 0x00020000 ∷ []) [] 4 0
    ∷ move join_four four_open [] 5 0
    ∷ record {
      found =
          (make_move join_four four_open (release 3) []).number
          ∷ (make_move join_four four_open (release 3) []).members
          ∷ (run_log join_four four_open (log_of (release 3 ∷ [])) []).number
          ∷ (run_log join_four four_open (log_of (release 3 ∷ [])) []).members
          ∷ (run_log join_four four_open [] target).number
          ∷ (run_log join_four four_open [] target).members
          ∷ [];
      stated = 6 ∷ 0 ∷ 6 ∷ 0 ∷ 13 ∷ 0 ∷ [];
    }
    ∷ []

pub plant-members-hold : map (λ c. c.found) plant_members ≡ map (λ c. c.stated) plant_members
unfolding two_lot start log_a log_c log_d plant_members table_sizes_ok numbers_ok atom_ok rule_ok rules_ok table_contents_ok rule_of table_of state_of
    state_words
    state_sizes_ok entry_ok entries_ok move_ok move_of reacted Move.ended allowed applied step step_words log_sizes_ok log_words run members_along after
    acts again
    replayed serial along serial_fits table_verdict state_own_verdict state_verdict move_result make_move log_verdict run_result run_log run_log_target
    serial_of
    serial_fits_of serial_result serialize serialize_target previewed preview_result preview_move
plant-members-hold = refl

pub odd-members-hold : map (λ c. c.found) odd_members ≡ map (λ c. c.stated) odd_members
unfolding two_lot three join_four four_messages four_open odd_members table_sizes_ok numbers_ok atom_ok rule_ok rules_ok table_contents_ok rule_of
    table_of state_of
    state_words state_sizes_ok entry_ok entries_ok move_ok move_of reacted Move.ended allowed applied step step_words log_sizes_ok log_words run
    members_along after
    acts again replayed serial along serial_fits table_verdict state_own_verdict state_verdict move_result make_move log_verdict run_result run_log
    run_log_target
    serial_of serial_fits_of serial_result serialize serialize_target previewed preview_result preview_move
odd-members-hold = refl
