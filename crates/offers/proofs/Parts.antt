-- Every owner takes part where no abort mark stands in the columns: the set is empty.
use Prim.Native.Nat.{ℕ}
use mathlib.Core.Bool.{Bool, true, false, ◌&&◌, not}
use mathlib.Core.List.{List}
use mathlib.Core.Path.{◌≡◌, ◌∙◌, fun_ext}
use native.Mathlib.Omega.{arith}
use lib.Dec.{ltb}
use Rattle.lists.specs.Found.{none_rows}
use Rattle.lists.specs.Rows.{rows}
use Rattle.lists.specs.Tests.{and-right-false}
use Rattle.semantics.specs.State.{owned}
use Rattle.idset.specs.IdSet.{has}
use Rattle.state.specs.Working.{row_of}
use Rattle.state.specs.Arrays.{UnmarkedTo}
use Rattle.transactions.specs.Sets.{stops}
use Rattle.stopped.specs.Stopped.{StoppedIn}

pub all-outside : (os ws gs : List ℕ) (n : ℕ) {stopped : List ℕ} → StoppedIn (rows (row_of os ws gs) 0 n) stopped → UnmarkedTo ws n
    → ◌≡◌ {A = ℕ → Bool} (λ v. true) (λ v. not (has stopped v))
all-outside os ws gs n {stopped} are none = fun_ext (λ v.
    let out : has stopped v ≡ false = are.are v ∙ none_rows (λ e. owned v e && stops e) (row_of os ws gs) 0 n
    (λ k l u. and-right-false (owned v (row_of os ws gs k)) (and-right-false (ltb 0 (row_of os ws gs k).owner) (none k (omega arith)))) in
    rw out)
