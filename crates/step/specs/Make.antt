-- What making a move in words asks of the lent columns, and what it leaves in them.
use Rattle.std.specs.Prelude.{ℕ, ◌≤◌, ◌≡◌, refl, true, false, List}
use Rattle.std.proofs.Common.{sym, ◌∙◌}
use Rattle.semantics.specs.Table.{Table, sizes_of, numbers_of}
use Rattle.semantics.specs.Move.{move_ok, move_of, applied, refused, stepped_by, step_words, move_verdict}
use Rattle.semantics.specs.Members.{members_ended}
use Rattle.semantics.specs.Answers.{table_verdict, unless_denied_zero}
use Rattle.semantics.specs.declared.Refusal.{Refusal}
use Rattle.semantics.specs.declared.Refusal.TheVariants.{MoveForm}
use Rattle.semantics.specs.declared.Verdict.TheVariants.{Allowed, Denied}
use Rattle.wellformed.specs.Verdicts.{denied≢allowed}
use Rattle.wellformed.specs.Step.{step_words-verdict}
use Rattle.table.specs.Index.{Starts}
use Rattle.state.specs.declared.State.{State}
use Rattle.state.specs.Working.{state_in}
use Rattle.state.specs.Arrays.{Arrays, Looked, HoldsIn}
use Rattle.words.specs.Origin.{Maker}
use Rattle.step.specs.declared.make.Made.{Made}
use Rattle.step.specs.Bounds.{Bounded, applied-bounded}
use Rattle.semantics.specs.State as semantics

-- a table that is accepted, with the index of its rules
pub record Indexed (t index : List ℕ) : Type 0 where
  pub table : table_verdict t ≡ Allowed
  pub starts : Starts (numbers_of t) (sizes_of t).rules index

-- a working state that a move may be made on: columns of the right length, within the ceiling, and no abort mark before the place that says so
pub record Workable (s : State) (ceiling : ℕ) : Type 0 where
  pub arrays : Arrays s.owners s.items s.origins
  pub bounds : Bounded s ceiling
  pub looked : Looked s
  pub limit : ceiling ≤ 1024

-- what a move asks: its table, its maker, and the columns lent to it
pub record Makeable (t index : List ℕ) (maker ceiling : ℕ) (s : State) : Type 0 where
  pub indexed : Indexed t index
  pub maker-fits : Maker maker
  pub workable : Workable s ceiling

-- s' is what the move w, of this maker, leaves of s; the verdict says why it is refused, and then s is as it was. The members are those that the move ends
-- in s, 0 where it is refused.
pub record MadeAs (made : Made) (ceiling : ℕ) (t : Table) (maker : ℕ) (w : List ℕ) (s s' : State) : Type 0 where
  pub step : step_words ceiling t maker (state_in s) w ≡ stepped_by made.verdict (state_in s')
  pub same : (q : Refusal) → made.verdict ≡ Denied q → s' ≡ s
  pub members : made.members ≡ unless_denied_zero made.verdict (members_ended (state_in s) (move_of t w))
  pub workable : Workable s' ceiling

-- ---- from the tests to the step

module _ (ceiling : ℕ) (t : Table) (i : ℕ) (s : semantics.State) (w : List ℕ) where
  pub step-malformed : move_ok t w ≡ false → step_words ceiling t i s w ≡ refused MoveForm
  step-malformed h = step_words-verdict ceiling t i s w ∙ rw h

  pub step-formed : move_ok t w ≡ true → step_words ceiling t i s w ≡ stepped_by (move_verdict ceiling t s (move_of t w)) (applied t i s (move_of t w))
  step-formed h = step_words-verdict ceiling t i s w ∙ rw h

module _ {ceiling : ℕ} {t : Table} {i : ℕ} {w : List ℕ} {s : State} (k : Workable s ceiling) {made : Made} where
  -- 5
  pub made-malformed : made.verdict ≡ Denied MoveForm → made.members ≡ 0 → move_ok t w ≡ false → MadeAs made ceiling t i w s s
  made-malformed v n h = record { step = step-malformed ceiling t i (state_in s) w h ∙ rw v; same = λ q e. refl; members = rw v n; workable = k }

  module _ (form : move_ok t w ≡ true) where
    -- 7 to 12, 18
    pub made-refused : {q : Refusal} → made.verdict ≡ Denied q → made.members ≡ 0 → move_verdict ceiling t (state_in s) (move_of t w) ≡ Denied q
        → MadeAs made ceiling t i w s s
    made-refused v n h = record { step = step-formed ceiling t i (state_in s) w form ∙ rw (h, v); same = λ q e. refl; members = rw v n; workable = k }

    pub made-allowed : made.verdict ≡ Allowed → made.members ≡ members_ended (state_in s) (move_of t w)
        → move_verdict ceiling t (state_in s) (move_of t w) ≡ Allowed
        → {s' : State} → HoldsIn s' (applied t i (state_in s) (move_of t w)) → MadeAs made ceiling t i w s s'
    unfolding state_in
    made-allowed v n h {s'} held = record {
      step = step-formed ceiling t i (state_in s) w form ∙ rw (h, v, held.holds.value);
      same = λ q e. absurd (denied≢allowed (sym e ∙ v));
      members = rw v n;
      workable = record {
        arrays = held.arrays;
        bounds = applied-bounded ceiling t (state_in s) (move_of t w) h k.bounds.next i held.holds;
        looked = held.looked;
        limit = k.limit;
      };
    }
