-- What every call has established once its table and its state are checked.
use Rattle.std.specs.Prelude.{ℕ, true, ◌≡◌, List, length}
use Rattle.semantics.specs.Table.{sizes_of, numbers_of}
use Rattle.semantics.specs.State.{state_sizes_ok}
use Rattle.semantics.specs.Answers.{table_verdict, state_verdict}
use Rattle.semantics.specs.declared.Verdict.{Verdict}
use Rattle.semantics.specs.declared.Verdict.TheVariants.{Allowed}
use Rattle.wellformed.specs.States.{state-given}
use Rattle.table.specs.Index.{Starts}

-- an accepted table with the index of its rules, and an accepted state
pub record Ready (t s index : List ℕ) : Type 0 where
  pub accepted : state_verdict t s ≡ Allowed
  pub starts : Starts (numbers_of t) (sizes_of t).rules index

pub ready-table : {t s index : List ℕ} → Ready t s index → table_verdict t ≡ Allowed
ready-table {t} {s} r = (state-given s t r.accepted).0

pub ready-sizes : {t s index : List ℕ} → Ready t s index → state_sizes_ok s ≡ true
ready-sizes {t} {s} r = (state-given s t r.accepted).1

-- the verdict on table and state; where it is Allowed they are ready, and after a refusal the index is of no use
pub record ReadyAs (t s : List ℕ) (v : Verdict) (index : List ℕ) : Type 0 where
  pub verdict : v ≡ state_verdict t s
  pub room : length index ≡ 65
  pub ready : state_verdict t s ≡ Allowed → Ready t s index
