-- A reaction that changes the totals by port.
use Rattle.std.specs.Prelude.{ℕ, ◌≤◌, List, ◌≡◌, length}
use Rattle.semantics.specs.Table.{sizes_of, table_of}
use Rattle.semantics.specs.State.{State}
use Rattle.semantics.specs.Move.{react, allowed}
use Rattle.semantics.specs.declared.Verdict.TheVariants.{Allowed}
use Rattle.wellformed.specs.Entries.{Sound}
use Rattle.enabled.specs.Supply.{Supply}

-- it is allowed in s, of which the totals are
pub record Reacts (t : List ℕ) (r : ℕ) (s : State) (ps totals : List ℕ) : Type 0 where
  pub sound : Sound (sizes_of t) s
  pub few : length s.entries ≤ 1024
  pub allows : allowed (table_of t) s (react r ps) ≡ Allowed
  pub supply : Supply (sizes_of t) s totals
