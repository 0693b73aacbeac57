-- The answers of the two checks.
use Prim.Native.Nat.{ℕ}
use mathlib.Core.List.{List}
use mathlib.Core.Path.{◌≡◌}
use Rattle.semantics.specs.Answers.{answer_of, outcome_of_check, table_verdict, state_verdict, check_table, check_state}
use Rattle.semantics.specs.declared.Verdict.{Verdict}
use Rattle.semantics.specs.declared.Outcome.{Outcome}

pub table-answer : (t : List ℕ) (v : Verdict) (o : Outcome) → v ≡ table_verdict t → o ≡ outcome_of_check v → answer_of o ≡ check_table t
unfolding check_table
table-answer t v o e f = rw (f, e)

pub state-answer : (t s : List ℕ) (v : Verdict) (o : Outcome) → v ≡ state_verdict t s → o ≡ outcome_of_check v → answer_of o ≡ check_state t s
unfolding check_state
state-answer t s v o e f = rw (f, e)
