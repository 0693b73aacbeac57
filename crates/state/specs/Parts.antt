-- What the parts of a state's words say.
use Rattle.std.specs.Prelude.{ℕ, ◌<◌, true, ◌≡◌, List, length, get_or}
use Rattle.semantics.specs.State.{entry_count, owners_of, state_sizes_ok}
use Rattle.semantics.specs.Answers.{state_verdict}
use Rattle.semantics.specs.declared.Verdict.TheVariants.{Allowed}
use Rattle.wellformed.specs.States.{StateSized, state-given}
use Rattle.wellformed.specs.Held.{owners-narrow}

-- a slice that is a column of a state whose sizes are in order
pub record Column (xs column state : List ℕ) : Type 0 where
  pub value : xs ≡ column
  pub size : length xs ≡ entry_count state
  pub sizes : StateSized state

-- words that the columns can hold: sizes in order, and owners that fit 16 bits
pub record Loadable (s : List ℕ) : Type 0 where
  pub sizes : state_sizes_ok s ≡ true
  pub narrow : (k : ℕ) → get_or (owners_of s) k 0 < 65536

pub loadable : (t s : List ℕ) → state_verdict t s ≡ Allowed → Loadable s
loadable t s h = record { sizes = (state-given s t h).1; narrow = owners-narrow t s h }
