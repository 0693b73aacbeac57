-- 02, M-125: the tallies of runs, and the counts of their histories, on the two-lot plant, where four members are merged, and in odd cases.
use Rattle.std.specs.Prelude.{ℕ, List, [], ◌∷◌, ◌++◌, map, ◌≡◌, refl, take}
use Rattle.semantics.specs.Table.{table_sizes_ok, numbers_ok, atom_ok, rule_ok, rules_ok, table_contents_ok, rule_of, table_of}
use Rattle.semantics.specs.State.{state_of, state_words, state_sizes_ok, entry_ok, entries_ok}
use Rattle.semantics.specs.Move.{move_ok, move_of, reacted, allowed, applied, step, step_words}
use Rattle.semantics.specs.Move as Move
use Rattle.semantics.specs.Log.{log_sizes_ok, log_words, run}
use Rattle.semantics.specs.Members.{members_along}
use Rattle.semantics.specs.Tally.{tally_along, tally_words, history, counts_in}
use Rattle.semantics.specs.Answers.{line_ceiling, table_verdict, state_own_verdict, state_verdict, log_verdict, run_result, run_log, run_log_tally}
use Rattle.semantics.specs.Cases.{two_lot, start, log_a, log_c, log_d, rule1, release, call_off, log_of, target}
use Rattle.semantics.specs.MemberCases.{Counted, join_four, four_messages, joined, four_open}

-- a tally that no run left
abbrev old : List ℕ
old = 7 ∷ 8 ∷ 9 ∷ 0xFFFFFFFF ∷ []

-- a run's number, the caller's tally after it, and what the history of its moves has
abbrev runs : List ℕ → List ℕ → List (List ℕ) → ℕ → List ℕ → List ℕ → Counted
runs t s log number words made = record {
  found =
      (run_log t s (log_of log) target).number
      ∷ run_log_tally t s (log_of log) target old
      ++ tally_words (counts_in (table_of t) (history line_ceiling (table_of t) 0 (state_of s) log));
  stated = number ∷ words ++ made;
}

abbrev four : ℕ → ℕ → ℕ → ℕ → List ℕ
four moves begun committed aborted = moves ∷ begun ∷ committed ∷ aborted ∷ []

-- an accepted run, whose tally is its history's counts
abbrev counts : List ℕ → List ℕ → List (List ℕ) → List ℕ → Counted
counts t s log words = runs t s log 0 words words

-- a run that a move breaks off (16), and the counts of those before it
abbrev breaks_off : List ℕ → List ℕ → List (List ℕ) → List ℕ → Counted
breaks_off t s log before = runs t s log 16 old before

-- a run that is refused with this number, whatever its log
abbrev refused : List ℕ → List ℕ → List ℕ → List ℕ → ℕ → Counted
refused t s l target number = record { found = (run_log t s l target).number ∷ run_log_tally t s l target old; stated = number ∷ old }

pub plant_tallies : List Counted
plant_tallies =
    -- (a) two begun and, with one release, two committed
    counts two_lot start log_a (four 6 2 2 0)
    -- (c) one of two aborted, the other still open; (d) both aborted
    ∷ counts two_lot start log_c (four 5 2 0 1)
    ∷ counts two_lot start log_d (four 6 2 0 2)
    -- (a) move by move, and (d) before its last move
    ∷ counts two_lot start (take 1 log_a) (four 1 1 0 0)
    ∷ counts two_lot start (take 2 log_a) (four 2 2 0 0)
    ∷ counts two_lot start (take 3 log_a) (four 3 2 0 0)
    ∷ counts two_lot start (take 4 log_a) (four 4 2 0 0)
    ∷ counts two_lot start (take 5 log_a) (four 5 2 0 0)
    ∷ counts two_lot start (take 5 log_d) (four 5 2 0 1)
    -- (h) no moves: replaced by zeroes all the same
    ∷ counts two_lot start [] (four 0 0 0 0)
    -- refused at its last move, after a release or a call-off
    ∷ breaks_off two_lot start (log_a ++ release 1 ∷ []) (four 6 2 2 0)
    ∷ breaks_off two_lot start (take 5 log_d ++ rule1 3 0 ∷ []) (four 5 2 0 1)
    -- refused at the first of two
    ∷ breaks_off two_lot start (release 1 ∷ rule1 0 0 ∷ []) (four 0 0 0 0)
    ∷ []

pub odd_tallies : List Counted
odd_tallies =
    -- one transaction of four members: four are committed, and four aborted
    counts join_four four_messages (joined 1 ++ release 1 ∷ []) (four 6 4 4 0)
    ∷ counts join_four four_messages (joined 2 ++ call_off 1 ∷ []) (four 6 4 0 4)
    -- members that were open at the start are ended, and none is begun
    ∷ counts join_four four_open (release 2 ∷ release 3 ∷ []) (four 2 0 5 0)
    ∷ breaks_off join_four four_open (release 3 ∷ release 3 ∷ []) (four 1 0 4 0)
    -- refused before any move is looked at
    ∷ refused [] [] [] target 1
    ∷ refused (1 ∷ 0 ∷ 0 ∷ 1 ∷ 0 ∷ []) [] [] target 2
    ∷ refused join_four [] [] target 3
    ∷ refused join_four (1 ∷ 1 ∷ 0 ∷ 0x00020000 ∷ []) [] target 4
    ∷ refused join_four four_open [] target 13
    ∷ refused join_four four_open (log_of (release 3 ∷ [])) [] 6
    ∷ []

pub plant-tallies-hold : map (λ c. c.found) plant_tallies ≡ map (λ c. c.stated) plant_tallies
unfolding two_lot start log_a log_c log_d plant_tallies table_sizes_ok numbers_ok atom_ok rule_ok rules_ok table_contents_ok rule_of table_of state_of
    state_words
    state_sizes_ok entry_ok entries_ok move_ok move_of reacted Move.ended allowed applied step step_words log_sizes_ok log_words run members_along
    tally_along history
    table_verdict state_own_verdict state_verdict log_verdict run_result run_log run_log_tally
plant-tallies-hold = refl

pub odd-tallies-hold : map (λ c. c.found) odd_tallies ≡ map (λ c. c.stated) odd_tallies
unfolding join_four four_messages four_open odd_tallies table_sizes_ok numbers_ok atom_ok rule_ok rules_ok table_contents_ok rule_of table_of state_of
    state_words
    state_sizes_ok entry_ok entries_ok move_ok move_of reacted Move.ended allowed applied step step_words log_sizes_ok log_words run members_along
    tally_along history
    table_verdict state_own_verdict state_verdict log_verdict run_result run_log run_log_tally
odd-tallies-hold = refl
