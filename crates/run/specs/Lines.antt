-- The figures of the program's lines as words, four a line, and the laws of the loop that writes them.
use Rattle.std.specs.Prelude.{ℕ, suc, ◌+◌, ◌*◌, ◌≤◌, ◌<◌, ◌≡◌, refl}
use mathlib.Core.List.{List, [], ◌∷◌, ◌++◌, append-nil, append_assoc}
use Rattle.std.proofs.Common.{sym, ◌∙◌, arith, length-append}
use Rattle.std.proofs.Math.Path.{ap}
use Rattle.std.proofs.Math.ListN.{length}
use Rattle.std.proofs.Math.Seq.{sets, length-sets}
use Rattle.lists.specs.Lists.{over}
use Rattle.lists.specs.Over.{over-sets}
use Rattle.semantics.specs.Table.{Table}
use Rattle.semantics.specs.Log.{move_count, move_at, moves_of}
use Rattle.semantics.specs.Answers.{number, line_ceiling}
use Rattle.semantics.specs.State as semantics
use Rattle.semantics.specs.Move.{Stepped, to, refused, step_words}
use Rattle.semantics.specs.Program.{Line, line_of, lines_by, lines_from}
use Rattle.semantics.specs.declared.Refusal.{Refusal}
use Rattle.semantics.specs.declared.Verdict.{Verdict}
use Rattle.semantics.specs.declared.Verdict.TheVariants.{Allowed, Denied}
use Rattle.state.specs.declared.State.{State}
use Rattle.state.specs.Working.{state_in}
use Rattle.state.specs.Arrays.{count-in}
use Rattle.step.specs.declared.make.Made.{Made}
use Rattle.step.specs.Make.{Workable, MadeAs}
use Rattle.run.specs.Runs.{Prepared}
use Rattle.run.specs.Fold.{gather_by, fold_log, Folded, folded_start, folded-made, folded-refused, folded-end}

-- ---- contracts

abbrev pub line_words : List Line → List ℕ
line_words [] = []
line_words (x ∷ xs) = x.place ∷ x.answer ∷ x.entries ∷ x.next ∷ line_words xs

-- answer (0 accepted)
abbrev pub answer_in : Verdict → ℕ
answer_in Allowed = 0
answer_in (Denied q) = number q

-- the program's lines of a log from the state in lent columns
abbrev pub lines_in : Table → List ℕ → State → List Line
lines_in t l s = lines_from line_ceiling t 0 (state_in s) (moves_of l)

pub record Traceable (t index l : List ℕ) (s : State) (target : List ℕ) : Type 0 where
  pub prepared : Prepared t index l
  pub workable : Workable s line_ceiling
  pub room : 4 * move_count l ≤ length target

-- the target is as it was, with these lines over its beginning
pub record TracedAs (lines : List Line) (before after : List ℕ) (n : ℕ) : Type 0 where
  pub count : n ≡ length lines
  pub target : after ≡ over (line_words lines) before

-- ---- one line more

pub length-line_words : (xs : List Line) → length (line_words xs) ≡ 4 * length xs
length-line_words [] = refl
length-line_words (x ∷ xs) = omega (arith, length-line_words xs)

line_words-append : (xs ys : List Line) → line_words (xs ++ ys) ≡ line_words xs ++ line_words ys
line_words-append [] ys = refl
line_words-append (x ∷ xs) ys = rw (line_words-append xs ys)

over-line : (xs : List Line) (x : Line) (old : List ℕ) (i : ℕ) → length xs ≡ i → 4 * i + 4 ≤ length old
    → sets (over (line_words xs) old) (4 * i) (line_words (x ∷ [])) ≡ over (line_words (xs ++ x ∷ [])) old
over-line xs x old i e h =
    let n = length-line_words xs in
    let at : 4 * i ≡ length (line_words xs) = omega arith in
    rw (at, line_words-append xs (x ∷ [])) (over-sets (line_words xs) old (line_words (x ∷ [])) (omega arith))

-- the words of the line of a state, as the code has them
line-words : (i answer : ℕ) (s : State) → line_words (line_of i answer (state_in s) ∷ []) ≡ i ∷ answer ∷ s.len ∷ s.next ∷ []
unfolding state_in
line-words i answer s = rw (count-in s)

-- ---- the lines as a fold over the log: an accepted move adds its line, and a refused one the last

abbrev add_line : ℕ → semantics.State → List ℕ → semantics.State → List Line → List Line
add_line i s w s' xs = xs ++ line_of i 0 s' ∷ []

abbrev add_last : ℕ → semantics.State → Refusal → List Line → List Line
add_last i s q xs = xs ++ line_of i (number q) s ∷ []

lines-fold : (ceiling : ℕ) (t : Table) (i : ℕ) (s : semantics.State) (ms : List (List ℕ)) (xs : List Line)
    → fold_log add_line add_last ceiling t i s ms xs ≡ xs ++ lines_from ceiling t i s ms
unfolding fold_log lines_from
lines-fold ceiling t i s [] xs = sym (append-nil xs)
lines-fold ceiling t i s (m ∷ ms) xs = go (λ s' ys. lines-fold ceiling t (suc i) s' ms ys) (step_words ceiling t (suc i) s m)
  where
    go : ((s' : semantics.State) (ys : List Line) → fold_log add_line add_last ceiling t (suc i) s' ms ys ≡ ys ++ lines_from ceiling t (suc i) s' ms)
        → (x : Stepped) → gather_by add_line add_last ceiling t x i s m xs (λ s' a'. fold_log add_line add_last ceiling t (suc i) s' ms a')
        ≡ xs ++ lines_by x i s (λ s'. lines_from ceiling t (suc i) s' ms)
    go ih (to s') = ih s' (xs ++ line_of i 0 s' ∷ []) ∙ append_assoc xs (line_of i 0 s' ∷ []) (lines_from ceiling t (suc i) s' ms)
    go ih (refused q) = refl

-- ---- the loop: at place i the lines of the moves before it are written, and s is the state there

pub record Tracing (t : Table) (l : List ℕ) (start : State) (before : List ℕ) (i : ℕ) (s : State) (after : List ℕ) : Type 0 where
  pub made : List Line
  pub folded : Folded add_line add_last line_ceiling t l start [] i s made
  pub count : length made ≡ i
  pub target : after ≡ over (line_words made) before
  pub size : length after ≡ length before

pub tracing-start : (t : Table) (l : List ℕ) {s : State} (before : List ℕ) → Workable s line_ceiling → Tracing t l s before 0 s before
tracing-start t l before w =
    record { made = []; folded = folded_start add_line add_last line_ceiling t l [] w; count = refl; target = refl; size = refl }

module _ {t : Table} {l : List ℕ} {start : State} {before : List ℕ} {i : ℕ} {s : State} {after : List ℕ} (h : Tracing t l start before i s after) where
  pub tracing-workable : Workable s line_ceiling
  tracing-workable = h.folded.reached.workable

  -- all lines are written
  traced : (xs : List Line) {new : List ℕ} {n : ℕ} → length xs ≡ n → new ≡ over (line_words xs) before
      → xs ≡ fold_log add_line add_last line_ceiling t 0 (state_in start) (moves_of l) [] → TracedAs (lines_in t l start) before new n
  traced xs n e all =
      let whole : xs ≡ lines_in t l start = all ∙ lines-fold line_ceiling t 0 (state_in start) (moves_of l) [] in
      record { count = sym n ∙ ap length whole; target = e ∙ ap (λ (xs : List Line). over (line_words xs) before) whole }

  -- no move is left
  pub tracing-end : move_count l ≤ i → TracedAs (lines_in t l start) before after i
  tracing-end e = traced h.made h.count h.target (folded-end add_line add_last line_ceiling t h.folded e)

  module _ (more : i < move_count l) (room : 4 * move_count l ≤ length before)
      {x : Made} {s' : State} (m : MadeAs x line_ceiling t (i + 1) (move_at l i) s s')
      {new : List ℕ} (write : new ≡ sets after (4 * i) (i ∷ answer_in x.verdict ∷ s'.len ∷ s'.next ∷ [])) where
    line : Line
    line = line_of i (answer_in x.verdict) (state_in s')

    written : new ≡ over (line_words (h.made ++ line ∷ [])) before
    unfolding line
    written =
        write
        ∙ ap (sets after (4 * i)) (sym (line-words i (answer_in x.verdict) s'))
        ∙ ap (λ (ws : List ℕ). sets ws (4 * i) (line_words (line ∷ []))) h.target
        ∙ over-line h.made line before i h.count (omega arith)

    count-new : length (h.made ++ line ∷ []) ≡ i + 1
    count-new = omega (arith, length-append h.made (line ∷ []), h.count)

    -- an accepted move
    pub tracing-made : x.verdict ≡ Allowed → Tracing t l start before (i + 1) s' new
    unfolding line
    tracing-made e = record {
      made = h.made ++ line ∷ [];
      folded = rw e (folded-made add_line add_last line_ceiling t h.folded more m e);
      count = count-new;
      target = written;
      size = ap length write ∙ length-sets after (4 * i) (i ∷ answer_in x.verdict ∷ s'.len ∷ s'.next ∷ []) ∙ h.size;
    }

    -- after a refused one no line follows
    pub tracing-refused : {q : Refusal} → x.verdict ≡ Denied q → TracedAs (lines_in t l start) before new (i + 1)
    unfolding line
    tracing-refused {q} e =
        traced (h.made ++ line ∷ []) count-new written (rw (e, m.same q e) (folded-refused add_line add_last line_ceiling t h.folded more m e))
