-- What a call comes to.
use Rattle.std.specs.Prelude.{ℕ, ◌≡◌, List}
use Rattle.semantics.specs.Answers.{Result, outcome_of, target_after}
use Rattle.semantics.specs.declared.Outcome.{Outcome}

-- the outcome o, and the target afterwards, are those of the result x
pub record ComesTo (x : Result) (before after : List ℕ) (o : Outcome) : Type 0 where
  pub outcome : o ≡ outcome_of x
  pub target : after ≡ target_after x before
