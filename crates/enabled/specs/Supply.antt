-- How many messages rules may consume from each port.
use Rattle.std.specs.Prelude.{ℕ, ◌<◌, List, ◌≡◌, length, get_or}
use Rattle.lists.specs.Lists.{count_if}
use Rattle.semantics.specs.State.{State}
use Rattle.semantics.specs.Move.{takes_part}
use Rattle.semantics.specs.declared.Sizes.{Sizes}
use Rattle.enabled.specs.Keys.{takeable_on}

-- totals by port; what stands from 256 on says nothing
pub record Supply (z : Sizes) (s : State) (totals : List ℕ) : Type 0 where
  pub size : length totals ≡ 512
  pub each : (p : ℕ) → p < 256 → get_or totals p 0 ≡ count_if (takeable_on z (takes_part s) p) s.entries
