-- The next place that has a key.
use Rattle.std.specs.Prelude.{ℕ, ◌≤◌, ◌<◌, ◌≡◌, List, get_or}

-- r is the first place from `from` on and below `end` with the key t, or end if none has it
pub record NextKey (ks : List ℕ) (t from end r : ℕ) : Type 0 where
  pub low : from ≤ r
  pub high : r ≤ end
  pub none : (j : ℕ) → from ≤ j → j < r → get_or ks j 0 ≡ t → ⊥
  pub here : r < end → get_or ks r 0 ≡ t
