-- What the inner function of the run asks and comes to.
use Rattle.std.specs.Prelude.{ℕ, ◌≤◌, true, ◌≡◌, List, length}
use Rattle.semantics.specs.Log.{log_sizes_ok}
use Rattle.semantics.specs.Answers.{Result, state_room, line_ceiling, run_of, run_members, ran_result, tally_after}
use Rattle.semantics.specs.declared.Outcome.{Outcome}
use Rattle.semantics.specs.declared.Tally.{Tally}
use Rattle.ready.specs.Ready.{Ready}
use Rattle.calls.specs.Results.{ComesTo}

-- all that is tested before the log is run
pub record LogReady (t index s l target : List ℕ) : Type 0 where
  pub ready : Ready t s index
  pub sizes : log_sizes_ok l ≡ true
  pub room : state_room ≤ length target

-- the run of a log in order
abbrev pub run_made : List ℕ → List ℕ → List ℕ → Result
run_made t s l = ran_result (run_members line_ceiling t s l) (run_of line_ceiling t s l)

-- what a run comes to, and what becomes of the caller's tally
pub record RunsTo (x : Result) (y : Tally) (before after words words' : List ℕ) (o : Outcome) : Type 0 where
  pub comes : ComesTo x before after o
  pub tally : words' ≡ tally_after x y words
