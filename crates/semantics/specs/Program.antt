-- 01, the program: how its input falls into table, state and log, and the figures of each line that it prints.
use Rattle.std.specs.Prelude.{ℕ, suc, ◌+◌, ◌*◌, ◌^◌, List, [], ◌∷◌, eqb, length, take, drop}
use Rattle.semantics.specs.Table.{Table, sizes_of, table_of}
use Rattle.semantics.specs.State.{State, entry_count, next_of, state_of}
use Rattle.semantics.specs.Move.{unless, first_fault, Stepped, to, refused, step_words}
use Rattle.semantics.specs.Log.{move_count, moves_of}
use Rattle.semantics.specs.Answers.{number, log_verdict, line_ceiling}
use Rattle.semantics.specs.declared.Refusal.TheVariants.{LogSizes}
use Rattle.semantics.specs.declared.Verdict.{Verdict}

-- ---- input

-- a word's four bytes, the lowest first
abbrev pub word_of : ℕ → ℕ → ℕ → ℕ → ℕ
word_of a b c d = a + b * 2 ^ 8 + c * 2 ^ 16 + d * 2 ^ 24

-- one to three bytes at the end make no word
abbrev pub words_of : List ℕ → List ℕ
words_of [] = []
words_of (a ∷ []) = []
words_of (a ∷ b ∷ []) = []
words_of (a ∷ b ∷ c ∷ []) = []
words_of (a ∷ b ∷ c ∷ d ∷ rest) = word_of a b c d ∷ words_of rest

pub record Parts : Type 0 where
  pub table : List ℕ
  pub state : List ℕ
  pub log : List ℕ

-- Three parts, one behind the other. Each says by its own sizes how long it is, so one that is cut short or too large fails its own check.
abbrev pub table_part : List ℕ → List ℕ
table_part ws = take (5 + 2 * (sizes_of ws).atoms) ws

abbrev pub state_part : List ℕ → List ℕ
state_part ws = take (2 + 2 * entry_count ws) ws

abbrev pub log_part : List ℕ → List ℕ
log_part ws = take (1 + 5 * move_count ws) ws

abbrev pub after_table : List ℕ → List ℕ
after_table ws = drop (length (table_part ws)) ws

abbrev pub after_state : List ℕ → List ℕ
after_state ws = drop (length (state_part (after_table ws))) (after_table ws)

unfoldable pub parts_of : List ℕ → Parts
parts_of ws = record { table = table_part ws; state = state_part (after_table ws); log = log_part (after_state ws) }

abbrev pub part_words : Parts → ℕ
part_words p = length p.table + length p.state + length p.log

-- 1, 2, 3, 4, 13 of the parts, and 13 again for bytes that no part takes
unfoldable pub input_verdict : List ℕ → ℕ → Verdict
input_verdict ws bytes =
    first_fault (
    log_verdict (parts_of ws).table (parts_of ws).state (parts_of ws).log
    ∷ unless (eqb bytes (4 * part_words (parts_of ws))) LogSizes
    ∷ []
    )

-- ---- output

-- The figures of a move's line: its place, 0 or why it is refused, and the entries and next id that are there then.
pub record Line : Type 0 where
  pub place : ℕ
  pub answer : ℕ
  pub entries : ℕ
  pub next : ℕ

abbrev pub line_of : ℕ → ℕ → State → Line
line_of i answer s = record { place = i; answer = answer; entries = length s.entries; next = s.next }

-- a refused move leaves the state as it was, and no line follows
abbrev pub lines_by : Stepped → ℕ → State → (State → List Line) → List Line
lines_by (to s') i s rest = line_of i 0 s' ∷ rest s'
lines_by (refused r) i s rest = line_of i (number r) s ∷ []

-- the lines of a log's moves, of which the first has the place i
unfoldable pub lines_from : ℕ → Table → ℕ → State → List (List ℕ) → List Line
lines_from ceiling t i s [] = []
lines_from ceiling t i s (m ∷ ms) = lines_by (step_words ceiling t (suc i) s m) i s (λ s'. lines_from ceiling t (suc i) s' ms)

unfoldable pub lines : Parts → List Line
lines p = lines_from line_ceiling (table_of p.table) 0 (state_of p.state) (moves_of p.log)

-- the figures of the line before them: the log's moves, and the start's entries and next id
pub record FirstLine : Type 0 where
  pub moves : ℕ
  pub entries : ℕ
  pub next : ℕ

unfoldable pub first_line : Parts → FirstLine
first_line p = record { moves = move_count p.log; entries = entry_count p.state; next = next_of p.state }
