-- 02, M-130 on the two-lot plant, on one at rest, and on one that goes on for ever.
use Rattle.std.specs.Prelude.{ℕ, ◌+◌, ◌*◌, List, [], ◌∷◌, ◌++◌, map, ◌≡◌, refl, length, take, drop, replicate}
use Rattle.semantics.specs.Table.{table_sizes_ok, numbers_ok, atom_ok, rule_ok, rules_ok, table_contents_ok, rule_of, table_of}
use Rattle.semantics.specs.State.{state_of, state_words, state_sizes_ok, entry_ok, entries_ok}
use Rattle.semantics.specs.Move.{move_ok, move_of, reacted, allowed, applied, step, step_words, move_verdict}
use Rattle.semantics.specs.Move as Move
use Rattle.semantics.specs.Log.{log_sizes_ok, log_words, run}
use Rattle.semantics.specs.Enabled.{enabled}
use Rattle.semantics.specs.Unattended.{moves_alone, reached_alone, is_still}
use Rattle.semantics.specs.Answers.{table_verdict, state_own_verdict, state_verdict, log_verdict, run_result, run_log, run_log_target}
use Rattle.semantics.specs.Answers.{alone_verdict, alone_result, alone_count, alone_still, run_unattended, run_unattended_target}
use Rattle.semantics.specs.Cases.{two_lot, start, log_a, rule1, call_off, log_of, reached_by}
use Rattle.semantics.specs.declared.Unattended.{Unattended}

-- a call's answer, and the target after it
pub record Alone : Type 0 where
  pub answer : Unattended
  pub target : List ℕ

abbrev alone : List ℕ → List ℕ → ℕ → List ℕ → Alone
alone t s budget target = record { answer = run_unattended t s budget target; target = run_unattended_target t s budget target }

-- these moves over the beginning of a target of so many words 5; 1 where the plant is still
abbrev makes : ℕ → List (List ℕ) → ℕ → Alone
makes n ms still = record {
  answer = record { number = 0; words = 1 + 5 * length ms; moves = length ms; still = still };
  target = log_of ms ++ drop (1 + 5 * length ms) (replicate n 5);
}

-- nothing is written
abbrev refuses : ℕ → ℕ → Alone
refuses n number = record { answer = record { number = number; words = 0; moves = 0; still = 0 }; target = replicate n 5 }

pub record AloneCase : Type 0 where
  pub found : Alone
  pub stated : Alone

abbrev case : Alone → Alone → AloneCase
case a b = record { found = a; stated = b }

-- the two-lot plant from its start, which makes the moves of (a)
abbrev plant : ℕ → ℕ → Alone
plant budget n = alone two_lot start budget (replicate n 5)

-- the state with a second batch that asked for its end, and one that has nothing left in it to do
abbrev stopped : List ℕ
stopped = 7 ∷ 3 ∷ 1 ∷ 1 ∷ 2 ∷ 2 ∷ 1 ∷ 2 ∷ 2 ∷ 0x03000001 ∷ 0x01000007 ∷ 0x03000002 ∷ 0x01000009 ∷ 0x00030007 ∷ 0x02000000 ∷ 0x00030009 ∷ []

pub plant_cases : List AloneCase
plant_cases =
    case (plant 0 1) (makes 1 [] 0)
    ∷ case (plant 1 6) (makes 6 (take 1 log_a) 0)
    -- one move short of rest, and at rest with nothing of the budget left: still, not spent
    ∷ case (plant 5 27) (makes 27 (take 5 log_a) 0)
    ∷ case (plant 6 33) (makes 33 log_a 1)
    ∷ case (plant 7 36) (makes 36 log_a 1)
    -- at rest from the start
    ∷ case (alone two_lot (reached_by log_a) 9 (replicate 46 5)) (makes 46 [] 1)
    ∷ case (alone two_lot (reached_by log_a) 0 (replicate 1 5)) (makes 1 [] 1)
    -- what is stopped is called off, which frees what was to be freed, and the plant goes on
    ∷ case (alone two_lot stopped 1 (replicate 6 5)) (makes 6 (call_off 2 ∷ []) 0)
    ∷ []

pub refused_cases : List AloneCase
refused_cases =
    -- 19 before 6, and 6 by the budget, not by what would be made
    case (plant 1025 0) (refuses 0 19)
    ∷ case (plant 4294967295 4) (refuses 4 19)
    ∷ case (plant 6 30) (refuses 30 6)
    ∷ case (plant 0 0) (refuses 0 6)
    -- 4 before 19, and so on down to 1
    ∷ case (alone two_lot (1 ∷ 1 ∷ 0 ∷ 0x05000000 ∷ []) 1025 []) (refuses 0 4)
    ∷ case (alone two_lot (1 ∷ []) 1025 []) (refuses 0 3)
    ∷ case (alone (1 ∷ 0 ∷ 0 ∷ 1 ∷ 1 ∷ 0 ∷ 0x10000000 ∷ []) (1 ∷ []) 1025 []) (refuses 0 2)
    ∷ case (alone [] (1 ∷ []) 1025 []) (refuses 0 1)
    ∷ []

-- one global port, and a rule that makes what it takes
unfoldable pub endless : List ℕ
endless = 1 ∷ 0 ∷ 0 ∷ 1 ∷ 2 ∷ 0 ∷ 0 ∷ 0x00000000 ∷ 0x11000000 ∷ []

abbrev forever : ℕ → AloneCase
forever n = case (alone endless (1 ∷ 1 ∷ 0 ∷ 3 ∷ []) n (replicate (1 + 5 * n) 5)) (makes (1 + 5 * n) (replicate n (rule1 0 0)) 0)

pub endless_cases : List AloneCase
endless_cases = map forever (0 ∷ 1 ∷ 5 ∷ [])

-- the largest budget, in a table of its own, since it takes many steps to compute
pub full_cases : List AloneCase
full_cases =
    case (plant 1024 5121) (makes 5121 log_a 1) ∷ case (plant 1024 5120) (refuses 5120 6) ∷ case (plant 1025 5126) (refuses 5126 19) ∷ forever 1024 ∷ []

pub plant-alone-holds : map (λ c. c.found) plant_cases ≡ map (λ c. c.stated) plant_cases
unfolding two_lot start log_a plant_cases table_sizes_ok numbers_ok atom_ok rule_ok rules_ok table_contents_ok rule_of table_of state_of state_words
    state_sizes_ok
    entry_ok entries_ok move_ok move_of reacted Move.ended allowed applied step step_words move_verdict log_sizes_ok log_words run enabled moves_alone
    reached_alone
    is_still table_verdict state_own_verdict state_verdict log_verdict run_result run_log run_log_target alone_verdict alone_result alone_count
    alone_still run_unattended
    run_unattended_target
plant-alone-holds = refl

pub refused-alone-holds : map (λ c. c.found) refused_cases ≡ map (λ c. c.stated) refused_cases
unfolding two_lot start refused_cases table_sizes_ok numbers_ok atom_ok rule_ok rules_ok table_contents_ok rule_of table_of state_of state_sizes_ok
    entry_ok entries_ok
    table_verdict state_own_verdict state_verdict alone_verdict alone_result alone_count alone_still run_unattended run_unattended_target
refused-alone-holds = refl

pub endless-alone-holds : map (λ c. c.found) endless_cases ≡ map (λ c. c.stated) endless_cases
unfolding endless endless_cases table_sizes_ok numbers_ok atom_ok rule_ok rules_ok table_contents_ok rule_of table_of state_of state_sizes_ok entry_ok
    entries_ok reacted
    allowed applied move_verdict log_words enabled moves_alone reached_alone is_still table_verdict state_own_verdict state_verdict alone_verdict alone_result
    alone_count alone_still run_unattended run_unattended_target
endless-alone-holds = refl

pub full-alone-holds : map (λ c. c.found) full_cases ≡ map (λ c. c.stated) full_cases
unfolding two_lot start log_a endless full_cases table_sizes_ok numbers_ok atom_ok rule_ok rules_ok table_contents_ok rule_of table_of state_of
    state_sizes_ok entry_ok
    entries_ok reacted Move.ended allowed applied move_verdict log_words enabled moves_alone reached_alone is_still table_verdict state_own_verdict
    state_verdict
    alone_verdict alone_result alone_count alone_still run_unattended run_unattended_target
full-alone-holds = refl
