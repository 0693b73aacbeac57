-- From the parts of an input to the figures of its lines.
use Prim.Native.Nat.{ℕ, ◌/◌, ◌-◌, ◌*◌, ◌≤◌}
use mathlib.Core.Bool.{true}
use mathlib.Core.List.{List}
use mathlib.Core.Path.{◌≡◌, sym, ap, ◌∙◌}
use native.Mathlib.Omega.{arith}
use lib.ListN.{length, get_or, take, drop, length-append}
use lib.Seq.{take-append_seam}
use Rattle.semantics.specs.Table.{table_of}
use Rattle.semantics.specs.State.{state_of, state_sizes_ok}
use Rattle.semantics.specs.Log.{moves_of}
use Rattle.semantics.specs.Answers.{line_ceiling}
use Rattle.semantics.specs.Program.{Line, lines_from, lines, first_line, words_of}
use Rattle.semantics.specs.declared.Refusal.{Refusal}
use Rattle.semantics.specs.declared.Verdict.TheVariants.{Allowed, Denied}
use Rattle.intake.specs.Gather.{Gathered, gathered-all}
use Rattle.state.specs.Parts.{Loadable, loadable}
use Rattle.ready.specs.Ready.{ready-table}
use Rattle.intake.specs.Split.{SplitAs, accepted-input}
use Rattle.intake.specs.declared.parts.Parts as intake
use Rattle.move_log.specs.Form.{log-sized}
use Rattle.state.specs.declared.State.{State}
use Rattle.state.specs.Working.{state_in}
use Rattle.state.specs.Arrays.{HoldsIn}
use Rattle.run.specs.Runs.{Prepared}
use Rattle.run.specs.Whole.{loaded-traceable}
use Rattle.run.specs.Lines.{line_words, length-line_words, Traceable, TracedAs}
use Rattle.report.specs.declared.figures.Figures.{Figures}
use Rattle.report.specs.Shown.{Shows, FiguresOf}

-- ---- the lines of three parts

-- there is room for the lines of any log
pub traceable : {t index l : List ℕ} → Prepared t index l → (st : List ℕ) → state_sizes_ok st ≡ true → {s : State} → HoldsIn s (state_of st)
    → {target : List ℕ} → length target ≡ 4096
    → Traceable t index l s target
traceable p st z h n = loaded-traceable st z h p (omega (arith, p.log.few))

pub lines-written : {xs : List Line} {before after : List ℕ} {n : ℕ} → TracedAs xs before after n
    → (4 * n ≤ length after) × (take (4 * n) after ≡ line_words xs)
lines-written {xs} {before} {after} {n} h =
    let e : 4 * n ≡ length (line_words xs) = omega (arith, h.count, length-line_words xs) in (
      rw h.target (omega (arith, e, length-append (line_words xs) (drop (length (line_words xs)) before))),
      rw (h.target, e) (take-append_seam (line_words xs) (drop (length (line_words xs)) before)),
    )

-- the lines that are traced from the state loaded are those of the parts
pub shows :
    (t st l : List ℕ) {before : List ℕ} {s : State} → HoldsIn s (state_of st) → (f : Figures)
    → TracedAs (lines_from line_ceiling (table_of t) 0 (state_in s) (moves_of l)) before f.lines f.count
    → f.moves ≡ get_or l 0 0 → f.entries ≡ get_or st 0 0 → f.next ≡ get_or st 1 0
    → (4 * f.count ≤ length f.lines) × Shows (record { table = t; state = st; log = l }) f
unfolding lines first_line
shows t st l h f traced m e n =
    let same = ap (λ x. lines_from line_ceiling (table_of t) 0 x (moves_of l)) h.holds.value in
    let (room, words) = lines-written traced in
    (room, record { first = rw (m, e, n); count = traced.count ∙ ap length same; further = words ∙ ap line_words same })

-- ---- an input that is split

module _ {ws : List ℕ} {bytes : ℕ} {p : intake.Parts} (h : SplitAs ws bytes p) where
  pub refused-figures : {q : Refusal} → p.verdict ≡ Denied q → (f : Figures) → f.verdict ≡ Denied q → 4 * f.count ≤ length f.lines → FiguresOf ws bytes f
  refused-figures {q} e f v room = record {
    verdict = v ∙ sym e ∙ h.verdict;
    shown = λ allowed. let k : Denied q ≡ Allowed = sym v ∙ allowed in absurd (let z : ◌≡◌ {A = ℕ} 0 1 = cc in omega arith);
    room = room;
  }

  module _ (allowed : p.verdict ≡ Allowed) where
    pub prepared : Prepared (take p.state_at ws) p.starts (take (p.end - p.log_at) (drop p.log_at ws))
        × Loadable (take (p.log_at - p.state_at) (drop p.state_at ws))
    prepared =
        let a = accepted-input (sym h.verdict ∙ allowed) in
        let r = h.ready allowed in
        rw (h.cut.table, h.cut.state, h.cut.log) (
          record { indexed = record { table = ready-table r; starts = r.starts }; log = log-sized _ a.log },
          loadable _ _ r.accepted,
        )

    pub accepted-figures :
        (f : Figures) → f.verdict ≡ Allowed → 4 * f.count ≤ length f.lines
        → Shows
        (record {
          table = take p.state_at ws;
          state = take (p.log_at - p.state_at) (drop p.state_at ws);
          log = take (p.end - p.log_at) (drop p.log_at ws);
        })
        f
        → FiguresOf ws bytes f
    accepted-figures f v room shown = record {
      verdict = v ∙ sym allowed ∙ h.verdict;
      shown = λ _. rw (h.cut.table, h.cut.state, h.cut.log) at shown;
      room = room;
    }

-- ---- an input in bytes

pub gathered-figures :
    {bytes before after : List ℕ} {n : ℕ} → Gathered bytes before after n → length bytes / 4 ≤ length before → {f : Figures}
    → FiguresOf (take n after) (length bytes) f → FiguresOf (words_of bytes) (length bytes) f
gathered-figures g room h = rw (gathered-all g room) at h
