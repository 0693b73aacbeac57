-- What the program's figures are: those of 01's lines, for the whole of its input.
use Rattle.std.specs.Prelude.{ℕ, ◌*◌, ◌≤◌, List, ◌≡◌, length, take}
use Rattle.std.proofs.Common.{sym, ◌∙◌}
use Rattle.semantics.specs.Program.{words_of, Parts, parts_of, input_verdict, FirstLine, first_line, lines}
use Rattle.semantics.specs.declared.Verdict.TheVariants.{Allowed}
use Rattle.intake.specs.Enough.{enough, enough-parts}
use Rattle.run.specs.Lines.{line_words}
use Rattle.report.specs.declared.figures.Figures.{Figures}

abbrev pub first_in : Figures → FirstLine
first_in f = record { moves = f.moves; entries = f.entries; next = f.next }

-- the words of the lines after the first, as `print_lines` reads them
abbrev pub shown_lines : Figures → List ℕ
shown_lines f = take (4 * f.count) f.lines

pub record Shows (p : Parts) (f : Figures) : Type 0 where
  pub first : first_in f ≡ first_line p
  pub count : f.count ≡ length (lines p)
  pub further : shown_lines f ≡ line_words (lines p)

-- the figures of an input of these words and so many bytes
pub record FiguresOf (ws : List ℕ) (bytes : ℕ) (f : Figures) : Type 0 where
  pub verdict : f.verdict ≡ input_verdict ws bytes
  pub shown : f.verdict ≡ Allowed → Shows (parts_of ws) f
  pub room : 4 * f.count ≤ length f.lines

-- the figures of the bytes that are read are those of the whole input, however long it is
pub figures-whole :
    (bytes : List ℕ) {f : Figures} → FiguresOf (words_of (take 32801 bytes)) (length (take 32801 bytes)) f → FiguresOf (words_of bytes) (length bytes) f
figures-whole bytes {f} h =
    let v : f.verdict ≡ input_verdict (words_of bytes) (length bytes) = h.verdict ∙ enough bytes in
    record {
      verdict = v;
      shown = λ allowed. rw (enough-parts bytes (sym v ∙ allowed)) at (h.shown allowed);
      room = h.room;
    }
