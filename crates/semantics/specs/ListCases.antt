-- 02, M-100 on the two-lot plant: the list after each move of (a), its pages, and odd cases, as one table under one statement.
use Rattle.std.specs.Prelude.{ℕ, List, [], ◌∷◌, ◌++◌, map, ◌≡◌, refl, length, take, replicate}
use Rattle.lists.specs.Lists.{keep, each}
use Rattle.semantics.specs.Table.{table_sizes_ok, numbers_ok, atom_ok, rule_ok, rules_ok, table_contents_ok, rule_of, table_of}
use Rattle.semantics.specs.State.{state_of, state_words, state_sizes_ok, entry_ok, entries_ok}
use Rattle.semantics.specs.Move.{move_ok, move_of, reacted, allowed, applied, step, step_words, move_verdict}
use Rattle.semantics.specs.Move as Move
use Rattle.semantics.specs.Log.{log_sizes_ok, run}
use Rattle.semantics.specs.Enabled.{reactions_of, is_allowed, enabled}
use Rattle.semantics.specs.Answers.{table_verdict, state_own_verdict, state_verdict, log_verdict, run_result, run_log, run_log_target}
use Rattle.semantics.specs.Answers.{list_result, list_length, list_moves, list_moves_target}
use Rattle.semantics.specs.Cases.{two_lot, start, log_a, rule1, rule2, release, call_off, reached_by}
use Rattle.semantics.specs.declared.Page.{Page}

pub record Listing : Type 0 where
  pub answer : Page
  pub target : List ℕ

-- the list of a state's moves from first on
abbrev page : List ℕ → ℕ → ℕ → List ℕ → Listing
page s first count target = record { answer = list_moves two_lot s first count target; target = list_moves_target two_lot s first count target }

-- the first eight after some moves of (a)
abbrev after : ℕ → Listing
after k = page (reached_by (take k log_a)) 0 8 (replicate 40 0)

-- these moves, of a list of this length, over the beginning of a target of 40 zeros
abbrev lists : ℕ → List (List ℕ) → Listing
lists n ms = record {
  answer = record { number = 0; words = length (each (λ m. m) ms); length = n };
  target = take 40 (each (λ m. m) ms ++ replicate 40 0);
}

-- nothing is written
abbrev leaves : ℕ → ℕ → List ℕ → Listing
leaves number n target = record { answer = record { number = number; words = 0; length = n }; target = target }

pub record ListCase : Type 0 where
  pub found : Listing
  pub stated : Listing

abbrev case : Listing → Listing → ListCase
case a b = record { found = a; stated = b }

-- after four moves, with a second batch of one lot that asked for its end: (c) before the call-off
abbrev stopped : List ℕ
stopped = 7 ∷ 3 ∷ 1 ∷ 1 ∷ 2 ∷ 2 ∷ 1 ∷ 2 ∷ 2 ∷ 0x03000001 ∷ 0x01000007 ∷ 0x03000002 ∷ 0x01000009 ∷ 0x00030007 ∷ 0x02000000 ∷ 0x00030009 ∷ []

pub list_cases : List ListCase
list_cases =
    -- after each move of (a); permuted picks are two moves
    case (after 0) (lists 2 (rule1 0 0 ∷ rule1 0 1 ∷ []))
    ∷ case (after 1) (lists 3 (rule1 0 0 ∷ rule1 1 2 ∷ rule1 3 2 ∷ []))
    ∷ case (after 2) (lists 4 (rule1 1 1 ∷ rule1 1 4 ∷ rule1 3 1 ∷ rule1 3 4 ∷ []))
    ∷ case (after 3) (lists 2 (rule1 1 3 ∷ rule1 3 3 ∷ []))
    ∷ case (after 4) (lists 2 (rule2 2 4 5 ∷ rule2 2 5 4 ∷ []))
    ∷ case (after 5) (lists 1 (release 1 ∷ []))
    ∷ case (after 6) (lists 0 [])
    ∷ []

pub page_cases : List ListCase
page_cases =
    -- what is stopped is joined no more (M-105): it can be called off, and no other move is open
    case (page stopped 0 8 (replicate 40 0)) (lists 1 (call_off 2 ∷ []))
    -- a page from the middle; one past the end; the largest first place
    ∷ case (page (reached_by (take 2 log_a)) 1 2 (replicate 40 0)) (lists 4 (rule1 1 4 ∷ rule1 3 1 ∷ []))
    ∷ case (page (reached_by (take 2 log_a)) 4 2 (replicate 40 0)) (lists 4 [])
    ∷ case (page (reached_by (take 2 log_a)) 0xFFFFFFFFFFFFFFFF 2 (replicate 40 0)) (lists 4 [])
    -- count 0 wants no target, and gives the length
    ∷ case (page start 0 0 []) (leaves 0 2 [])
    -- a count of 300 is one of 256: 1,280 words are enough, 1,279 are not, whatever the list's length
    ∷ case (page (reached_by (take 5 log_a)) 0 300 (replicate 1280 7))
    (record { answer = record { number = 0; words = 5; length = 1 }; target = release 1 ++ replicate 1275 7 })
    ∷ case (page (reached_by (take 5 log_a)) 0 300 (replicate 1279 7)) (leaves 6 0 (replicate 1279 7))
    ∷ case (page (reached_by (take 6 log_a)) 0 1 (replicate 4 7)) (leaves 6 0 (replicate 4 7))
    -- 3 and 4 before 6
    ∷ case (page (2 ∷ 0 ∷ []) 0 1 []) (leaves 3 0 [])
    ∷ case (page (1 ∷ 1 ∷ 0 ∷ 0x00020000 ∷ []) 0 1 []) (leaves 4 0 [])
    ∷ []

pub list-cases-hold : map (λ c. c.found) list_cases ≡ map (λ c. c.stated) list_cases
unfolding two_lot start log_a list_cases table_sizes_ok numbers_ok atom_ok rule_ok rules_ok table_contents_ok rule_of table_of state_of state_words
    state_sizes_ok
    entry_ok entries_ok move_ok move_of reacted Move.ended allowed applied step step_words move_verdict log_sizes_ok run table_verdict state_own_verdict
    state_verdict log_verdict run_result run_log run_log_target enabled list_result list_length list_moves list_moves_target
list-cases-hold = refl

pub page-cases-hold : map (λ c. c.found) page_cases ≡ map (λ c. c.stated) page_cases
unfolding two_lot start log_a page_cases table_sizes_ok numbers_ok atom_ok rule_ok rules_ok table_contents_ok rule_of table_of state_of state_words
    state_sizes_ok
    entry_ok entries_ok move_ok move_of reacted Move.ended allowed applied step step_words move_verdict log_sizes_ok run table_verdict state_own_verdict
    state_verdict log_verdict run_result run_log run_log_target enabled list_result list_length list_moves list_moves_target
page-cases-hold = refl

-- Where two entries more would be too many (12), a rule that leaves three for one is not open at all; nor is one that begins where N is 65,536 (11). The
-- reactions alone, since with that N the candidates are too many to be run here.
abbrev reactions_open : ℕ → List ℕ → ℕ
reactions_open ceiling s =
    length (keep (λ m. is_allowed (move_verdict ceiling (table_of two_lot) (state_of s) m)) (each (reactions_of (table_of two_lot) 2) (0 ∷ 1 ∷ 2 ∷ 3 ∷ [])))

-- the same two messages, with another next id
abbrev start_with : ℕ → List ℕ
start_with next = 2 ∷ next ∷ 0 ∷ 0 ∷ 7 ∷ 9 ∷ []

pub none_open : reactions_open 3 start ∷ reactions_open 4 start ∷ reactions_open 4 (start_with 65536) ∷ reactions_open 4 (start_with 65535) ∷ []
    ≡ 0 ∷ 2 ∷ 0 ∷ 2 ∷ []
unfolding two_lot start rule_of table_of state_of reacted Move.ended allowed applied move_verdict
none_open = refl
