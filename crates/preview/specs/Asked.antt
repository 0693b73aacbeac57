-- What the preview of a move asks of the lent columns, and what it is where the move's form is wrong.
use Rattle.std.specs.Prelude.{ℕ, ◌≤◌, true, false, List, ◌≡◌}
use Rattle.semantics.specs.Table.{Table, table_of}
use Rattle.semantics.specs.State.{State}
use Rattle.semantics.specs.Move.{move_ok}
use Rattle.semantics.specs.Preview.{previewed}
use Rattle.semantics.specs.Answers.{table_verdict}
use Rattle.semantics.specs.declared.Previewed.TheVariants.{Rejected}
use Rattle.semantics.specs.declared.Refusal.TheVariants.{MoveForm}
use Rattle.semantics.specs.declared.Verdict.TheVariants.{Allowed}
use Rattle.state.specs.declared.Extent.{Extent}
use Rattle.state.specs.Lent.{Columns}
use Rattle.step.specs.Make.{step-malformed}

-- an accepted table, columns within the ceiling, and a move in order
pub record Formed (t os ws : List ℕ) (at : Extent) (ceiling : ℕ) (m : List ℕ) : Type 0 where
  pub table : table_verdict t ≡ Allowed
  pub columns : Columns os ws at.len
  pub fits : at.len ≤ ceiling
  pub form : move_ok (table_of t) m ≡ true

-- 5
pub preview-malformed : (ceiling : ℕ) (t : Table) (s : State) (m : List ℕ) → move_ok t m ≡ false → Rejected MoveForm ≡ previewed ceiling t s m
unfolding previewed
preview-malformed ceiling t s m h = rw (step-malformed ceiling t 1 s m h)
