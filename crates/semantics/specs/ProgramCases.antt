-- The program on case (a) and on damaged inputs: 01's seven lines, and the number of each fault.
use Rattle.std.specs.Prelude.{ℕ, ◌/◌, ◌%◌, List, [], ◌∷◌, ◌++◌, map, ◌≡◌, refl, length, take, set}
use Rattle.semantics.specs.Table.{table_sizes_ok, numbers_ok, atom_ok, rule_ok, rules_ok, table_contents_ok, rule_of, table_of}
use Rattle.semantics.specs.State.{state_of, state_sizes_ok, entry_ok, entries_ok}
use Rattle.semantics.specs.Move.{move_ok, move_of, reacted, allowed, applied, step, step_words}
use Rattle.semantics.specs.Move as Move
use Rattle.semantics.specs.Log.{log_sizes_ok}
use Rattle.semantics.specs.Answers.{number, table_verdict, state_own_verdict, state_verdict, log_verdict}
use Rattle.semantics.specs.Cases.{two_lot, start, log_a, log_of}
use Rattle.semantics.specs.Program.{Line, words_of, parts_of, input_verdict, lines, lines_from, first_line}
use Rattle.semantics.specs.declared.Verdict.{Verdict}
use Rattle.semantics.specs.declared.Verdict.TheVariants.{Allowed, Denied}

abbrev bytes_of : List ℕ → List ℕ
bytes_of [] = []
bytes_of (w ∷ ws) = w % 256 ∷ w / 256 % 256 ∷ w / 65536 % 256 ∷ w / 16777216 ∷ bytes_of ws

abbrev input_a : List ℕ
input_a = bytes_of (two_lot ++ start ++ log_of log_a)

abbrev number_of : Verdict → ℕ
number_of Allowed = 0
number_of (Denied r) = number r

abbrev said : List ℕ → ℕ
said bytes = number_of (input_verdict (words_of bytes) (length bytes))

abbrev line : ℕ → ℕ → ℕ → ℕ → Line
line p a n next = record { place = p; answer = a; entries = n; next = next }

pub case-a-first : first_line (parts_of (words_of input_a)) ≡ record { moves = 6; entries = 2; next = 1 }
unfolding first_line parts_of two_lot start log_a
case-a-first = refl

pub case-a-lines : lines (parts_of (words_of input_a)) ≡ line 0 0 4 2 ∷ line 1 0 6 3 ∷ line 2 0 6 3 ∷ line 3 0 6 3 ∷ line 4 0 6 3 ∷ line 5 0 2 3 ∷ []
unfolding lines lines_from parts_of two_lot start log_a table_of rule_of state_of move_ok move_of reacted Move.ended allowed applied step step_words
case-a-lines = refl

-- whole; empty; the table cut at its last byte, with a size over its limit, with a bad atom and cut; a bad atom before a cut state;
-- the state cut, N = 0; the log cut, k over its limit; one to five bytes left over
pub damaged : map said
    (input_a
    ∷ []
    ∷ take 115 input_a
    ∷ set input_a 14 1
    ∷ take 115 (set input_a 68 1)
    ∷ take 130 (set input_a 71 1)
    ∷ take 139 input_a
    ∷ set input_a 120 0
    ∷ take 263 input_a
    ∷ set input_a 142 1
    ∷ (input_a ++ 0 ∷ [])
    ∷ (input_a ++ 0 ∷ 0 ∷ [])
    ∷ (input_a ++ 0 ∷ 0 ∷ 0 ∷ [])
    ∷ (input_a ++ 0 ∷ 0 ∷ 0 ∷ 0 ∷ [])
    ∷ (input_a ++ 0 ∷ 0 ∷ 0 ∷ 0 ∷ 0 ∷ [])
    ∷ [])
    ≡ 0 ∷ 1 ∷ 1 ∷ 1 ∷ 1 ∷ 2 ∷ 3 ∷ 3 ∷ 13 ∷ 13 ∷ 13 ∷ 13 ∷ 13 ∷ 13 ∷ 13 ∷ []
unfolding input_verdict parts_of two_lot start log_a table_sizes_ok numbers_ok atom_ok rule_ok rules_ok table_contents_ok state_of state_sizes_ok entry_ok
    entries_ok
    log_sizes_ok table_verdict state_own_verdict state_verdict log_verdict
damaged = refl
