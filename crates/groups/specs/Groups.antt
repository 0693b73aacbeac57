-- Entries counted by group and port.
use Rattle.std.specs.Prelude.{ℕ, ◌+◌, ◌*◌, ◌/◌, ◌%◌, ◌≤◌, ◌<◌, ◌≡◌, List, [], ◌∷◌, eqb, length, get_or}
use Rattle.lists.specs.Lists.{one_if}
use Rattle.lists.specs.Keys.{times_in}
use Rattle.choices.specs.Widths.{widths_of}

-- the first n keys have groups below 1,024
pub record KeysBelow (n : ℕ) (keys : List ℕ) : Type 0 where
  pub few : n ≤ 1024
  pub size : length keys ≡ 1024
  pub below : (i : ℕ) → i < n → get_or keys i 0 < 524288

-- all groups of the first n keys are below top
pub record TopGroup (n : ℕ) (keys : List ℕ) (top : ℕ) : Type 0 where
  pub few : top ≤ 1024
  pub below : (i : ℕ) → i < n → get_or keys i 0 < 512 * top

-- four counts in one word, so that an entry costs one store
abbrev pub packed : ℕ → ℕ → ℕ → ℕ → ℕ
packed x y z w = x + 1048576 * y + 1099511627776 * z + 4503599627370496 * w

-- what an entry on each port adds to its group's word
pub record Weights (a b c d : ℕ) (weights : List ℕ) : Type 0 where
  pub size : length weights ≡ 512
  pub each : (p : ℕ) → p < 512 → get_or weights p 0 ≡ packed (one_if (eqb p b)) (one_if (eqb p c)) (one_if (eqb p d)) (one_if (eqb p a))

-- how many of the keys ks each group has on ports a to d; a count has its place in the word, for there are at most 1,024 keys
pub record Grouped (ks : List ℕ) (a b c d : ℕ) (counts : List ℕ) : Type 0 where
  pub few : length ks ≤ 1024
  pub size : length counts ≡ 1024
  pub each : (g : ℕ) → g < 1024 → get_or counts g 0
      ≡ packed (times_in (g * 512 + b) ks) (times_in (g * 512 + c) ks) (times_in (g * 512 + d) ks) (times_in (g * 512 + a) ks)

-- what is counted for four numbers
abbrev pub CountedFor : List ℕ → List ℕ → List ℕ → Type 0
CountedFor ks takes counts = Grouped ks (get_or takes 0 0) (get_or takes 1 0) (get_or takes 2 0) (get_or takes 3 0) counts

-- how many of the first number there are in a group
abbrev pub on_first : List ℕ → ℕ → ℕ
on_first counts g = get_or counts g 0 / 4503599627370496

-- how many of each number behind it
abbrev pub left_in : List ℕ → ℕ → List ℕ
left_in counts g = 0 ∷ (get_or counts g 0 % 1048576) ∷ (get_or counts g 0 / 1048576 % 1048576) ∷ (get_or counts g 0 / 1099511627776 % 4096) ∷ []

-- how many choices there are in a group
abbrev pub ways_in : List ℕ → ℕ → List ℕ → ℕ → ℕ
ways_in takes k counts g = on_first counts g * get_or (widths_of takes (left_in counts g) k) 0 0

pub record Sized (counts : List ℕ) : Type 0 where
  pub size : length counts ≡ 1024
  pub few : (g : ℕ) → g < 1024 → (j : ℕ) → get_or (left_in counts g) j 0 ≤ 1024
  pub firsts : (g : ℕ) → g < 1024 → on_first counts g ≤ 1024
