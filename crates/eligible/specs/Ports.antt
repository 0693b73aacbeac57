-- Entries counted by port.
use Rattle.std.specs.Prelude.{ℕ, ◌<◌, ◌≡◌, List, length, get_or}
use Rattle.lists.specs.Keys.{times_in}

-- how many of the keys are each port; no port is 511
pub record PortCounts (ks counts : List ℕ) : Type 0 where
  pub size : length counts ≡ 512
  pub each : (t : ℕ) → t < 511 → get_or counts t 0 ≡ times_in t ks
