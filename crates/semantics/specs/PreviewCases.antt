-- 02, M-115: previews on the two-lot plant, on odd cases and at full size, three tables: number, entries, next id and id; of an end the members, too.
use Rattle.std.specs.Prelude.{ℕ, ◌*◌, List, [], ◌∷◌, ◌++◌, map, ◌≡◌, refl, take, replicate}
use Rattle.semantics.specs.Table.{table_sizes_ok, numbers_ok, atom_ok, rule_ok, rules_ok, table_contents_ok, rule_of, table_of}
use Rattle.semantics.specs.State.{state_of, state_words, state_sizes_ok, entry_ok, entries_ok}
use Rattle.semantics.specs.Move.{move_ok, move_of, reacted, allowed, applied, step, step_words}
use Rattle.semantics.specs.Move as Move
use Rattle.semantics.specs.Log.{log_sizes_ok, run}
use Rattle.semantics.specs.Preview.{previewed}
use Rattle.semantics.specs.Answers.{table_verdict, state_own_verdict, state_verdict, log_verdict, run_result, run_log, run_log_target}
use Rattle.semantics.specs.Answers.{preview_result, preview_move}
use Rattle.semantics.specs.Cases.{two_lot, start, log_a, log_c, log_d, rule1, rule2, release, call_off, reached_by}
use Rattle.semantics.specs.AbortingCases.{three, growing, two}
use Rattle.semantics.specs.declared.Preview.{Preview}

pub record Shown : Type 0 where
  pub found : Preview
  pub stated : Preview

-- the preview of an end or of a reaction, which removes no member marks: its figures, or its number and no figures
abbrev shows_end : List ℕ → List ℕ → List ℕ → ℕ → ℕ → ℕ → ℕ → Shown
shows_end t s m entries next id members =
    record { found = preview_move t s m; stated = record { number = 0; entries = entries; next = next; id = id; members = members } }

abbrev shows : List ℕ → List ℕ → List ℕ → ℕ → ℕ → ℕ → Shown
shows t s m entries next id = shows_end t s m entries next id 0

abbrev refuses : List ℕ → List ℕ → List ℕ → ℕ → Shown
refuses t s m number = record { found = preview_move t s m; stated = record { number = number; entries = 0; next = 0; id = 0; members = 0 } }

-- on the two-lot plant, after some moves of a log
abbrev after : ℕ → List (List ℕ) → List ℕ → ℕ → ℕ → ℕ → Shown
after k log m entries next id = shows two_lot (reached_by (take k log)) m entries next id

abbrev end_after : ℕ → List (List ℕ) → List ℕ → ℕ → ℕ → ℕ → ℕ → Shown
end_after k log m entries next id members = shows_end two_lot (reached_by (take k log)) m entries next id members

abbrev refused_after : ℕ → List (List ℕ) → List ℕ → ℕ → Shown
refused_after k log m number = refuses two_lot (reached_by (take k log)) m number

pub plant_previews : List Shown
plant_previews =
    -- (a) begins get N before the move; a local reaction its transaction; a merge the smallest; the commit its own id
    after 0 log_a (rule1 0 0) 4 2 1
    ∷ after 1 log_a (rule1 0 0) 6 3 2
    ∷ after 2 log_a (rule1 1 1) 6 3 1
    ∷ after 3 log_a (rule1 1 3) 6 3 2
    ∷ after 4 log_a (rule2 2 4 5) 6 3 1
    ∷ after 4 log_a (rule2 2 5 4) 6 3 1
    ∷ end_after 5 log_a (release 1) 2 3 1 2
    -- (b) 10
    ∷ refused_after 4 log_a (release 1) 10
    -- (c) the second transaction asks for its abort, and is aborted
    ∷ after 3 log_c (rule1 3 3) 6 3 2
    ∷ end_after 4 log_c (call_off 2) 4 3 2 1
    -- (d) each asks for its abort; the abort of the second, then of the first
    ∷ after 2 log_d (rule1 3 1) 6 3 1
    ∷ after 3 log_d (rule1 3 3) 6 3 2
    ∷ end_after 4 log_d (call_off 2) 4 3 2 1
    ∷ end_after 5 log_d (call_off 1) 2 3 1 1
    -- (e) 7, (f) 10, (g) 9; 9 also for an id that was merged into a smaller one
    ∷ refused_after 4 log_a (rule2 2 4 4) 7
    ∷ refused_after 1 log_a (call_off 1) 10
    ∷ refused_after 2 log_a (release 3) 9
    ∷ refused_after 5 log_a (release 2) 9
    ∷ []

-- global rules: one emits what it consumes, one only consumes, one emits and begins
pub global_rules : List ℕ
global_rules =
    1 ∷ 0 ∷ 0 ∷ 3 ∷ 6
    ∷ 0 ∷ 0 ∷ 1 ∷ 2 ∷ 2 ∷ 2
    ∷ 0x00000000 ∷ 0x11000000
    ∷ 0x00000000
    ∷ 0x00000000 ∷ 0x10000000 ∷ 0x20000000
    ∷ []

-- a merge rule that consumes four and emits one, and four transactions, of which the third has the smallest id
pub merge_four : List ℕ
merge_four = 0 ∷ 0 ∷ 1 ∷ 1 ∷ 5 ∷ 0 ∷ 0 ∷ 0 ∷ 0 ∷ 0 ∷ 0 ∷ 0 ∷ 0 ∷ 0 ∷ 0x10000005 ∷ []

pub four_apart : List ℕ
four_apart =
    8 ∷ 9
    ∷ 8 ∷ 3 ∷ 2 ∷ 7 ∷ 8 ∷ 3 ∷ 2 ∷ 7
    ∷ 0x03000008 ∷ 0x03000003 ∷ 0x03000002 ∷ 0x03000007 ∷ 0 ∷ 1 ∷ 2 ∷ 3
    ∷ []

pub odd_previews : List Shown
odd_previews =
    -- a global rule without begin: 0
    shows global_rules start (rule1 0 1) 2 1 0
    ∷ shows global_rules start (rule1 1 1) 1 1 0
    -- the smallest of four, picked third; a merge inside one transaction
    ∷ shows merge_four four_apart (0 ∷ 4 ∷ 5 ∷ 6 ∷ 7 ∷ []) 5 9 2
    ∷ shows two_lot (4 ∷ 4 ∷ 3 ∷ 3 ∷ 3 ∷ 3 ∷ 0x03000003 ∷ 0x01000001 ∷ 0x00030001 ∷ 0x00030002 ∷ []) (rule2 2 3 2) 4 4 3
    -- an end under its own id, where its transaction has other members too: what it frees stays, the rest goes
    ∷ shows_end two_lot (5 ∷ 9 ∷ 2 ∷ 0 ∷ 2 ∷ 2 ∷ 2 ∷ 0x03000002 ∷ 0x00000001 ∷ 0x03000005 ∷ 0x01000004 ∷ 0x00010006 ∷ []) (release 2) 2 9 2 2
    ∷ shows_end two_lot (5 ∷ 9 ∷ 2 ∷ 0 ∷ 2 ∷ 2 ∷ 2 ∷ 0x03000002 ∷ 0x00000001 ∷ 0x02000000 ∷ 0x01000004 ∷ 0x00010006 ∷ []) (call_off 2) 2 9 2 1
    ∷ shows_end two_lot three (call_off 2) 7 4 2 1
    -- the last id is begun, and no further one: 11
    ∷ shows two_lot (1 ∷ 65535 ∷ 0 ∷ 5 ∷ []) (rule1 0 0) 3 65536 65535
    ∷ refuses two_lot (1 ∷ 65536 ∷ 0 ∷ 5 ∷ []) (rule1 0 0) 11
    -- a begin beside an emit
    ∷ shows global_rules (1 ∷ 7 ∷ 0 ∷ 5 ∷ []) (rule1 2 0) 2 8 7
    -- 1 to 5, each before the next; 7, 8 and 18
    ∷ refuses [] [] [] 1
    ∷ refuses (1 ∷ 0 ∷ 0 ∷ 1 ∷ 0 ∷ []) [] [] 2
    ∷ refuses two_lot (2 ∷ 0 ∷ []) [] 3
    ∷ refuses two_lot (1 ∷ 1 ∷ 0 ∷ 0x00020000 ∷ []) [] 4
    ∷ refuses two_lot start [] 5
    ∷ refuses two_lot start (rule1 0 0 ++ 0 ∷ []) 5
    ∷ refuses two_lot start (rule1 4 9) 5
    ∷ refuses two_lot start (rule2 0 9 1) 5
    ∷ refuses two_lot start (call_off 0) 5
    ∷ refuses two_lot start (rule1 0 2) 7
    ∷ refuses growing two (rule2 2 3 5) 8
    ∷ refuses two_lot three (rule2 2 4 6) 18
    ∷ []

-- so many messages on port 0
abbrev full : ℕ → List ℕ
full n = n ∷ 1 ∷ replicate (2 * n) 0

-- room for 1,024 entries, and no more (12): a rule that leaves three for one, and one that leaves one for one
abbrev full_previews : List Shown
full_previews =
    shows two_lot (full 1022) (rule1 0 1021) 1024 2 1
    ∷ refuses two_lot (full 1023) (rule1 0 1022) 12
    ∷ shows global_rules (full 1024) (rule1 0 1023) 1024 1 0
    ∷ []

pub plant-previews-hold : map (λ c. c.found) plant_previews ≡ map (λ c. c.stated) plant_previews
unfolding two_lot start log_a log_c log_d plant_previews table_sizes_ok numbers_ok atom_ok rule_ok rules_ok table_contents_ok rule_of table_of state_of
    state_words
    state_sizes_ok entry_ok entries_ok move_ok move_of reacted Move.ended allowed applied step step_words log_sizes_ok run table_verdict state_own_verdict
    state_verdict log_verdict run_result run_log run_log_target previewed preview_result preview_move
plant-previews-hold = refl

pub odd-previews-hold : map (λ c. c.found) odd_previews ≡ map (λ c. c.stated) odd_previews
unfolding two_lot start three growing two global_rules merge_four four_apart odd_previews table_sizes_ok numbers_ok atom_ok rule_ok rules_ok
    table_contents_ok rule_of table_of state_of
    state_sizes_ok entry_ok entries_ok move_ok move_of reacted Move.ended allowed applied step step_words table_verdict state_own_verdict
    state_verdict previewed preview_result preview_move
odd-previews-hold = refl

pub full-previews-hold : map (λ c. c.found) full_previews ≡ map (λ c. c.stated) full_previews
unfolding two_lot global_rules table_sizes_ok numbers_ok atom_ok rule_ok rules_ok table_contents_ok rule_of table_of state_of
    state_sizes_ok entry_ok entries_ok move_ok move_of reacted Move.ended allowed applied step step_words table_verdict state_own_verdict
    state_verdict previewed preview_result preview_move
full-previews-hold = refl
