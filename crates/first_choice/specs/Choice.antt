-- The first of some choices, as four places, and what keys of places say of the messages that stand there.
use Rattle.std.specs.Prelude.{ℕ, ◌+◌, ◌%◌, ◌≤◌, ◌<◌, true, false, List, [], ◌∷◌, ◌++◌, map, ◌≡◌, eqb, length, get_or, take, replicate}
use Rattle.lists.specs.Choosing.{group_base, choices_in}
use Rattle.lists.specs.Tuples.{each_from}
use Rattle.lists.specs.Rows.{rows}
use Rattle.semantics.specs.Table.{port_count}
use Rattle.semantics.specs.declared.Sizes.{Sizes}
use Rattle.enabled.specs.Reactions.{OfClass}
use Rattle.state.specs.declared.Extent.{Extent}
use Rattle.state.specs.Working.{row_of}
use Rattle.state.specs.Arrays.{UnmarkedTo}
use Rattle.state.specs.Lent.{Columns}
use Rattle.seek.specs.Seek.{fits_at}
use Rattle.stopped.specs.Stopped.{StoppedIn}
use Rattle.first_choice.specs.declared.Choice.{Choice}

abbrev pub first_choice : List (List ℕ) → Choice
first_choice [] = record { found = false; picks = 0 ∷ 0 ∷ 0 ∷ 0 ∷ [] }
first_choice (c ∷ cs) = record { found = true; picks = take 4 (c ++ replicate 4 0) }

-- the choices within a group that begin with a place from p on
abbrev pub begin_from : List ℕ → ℕ → List ℕ → ℕ → List (List ℕ)
begin_from ks t ts p = each_from (choices_in ks t ts) (λ x. eqb (get_or ks x 0 % 512) t) (length ks) p

-- the owners of n entries, as they stand in 16 bits
abbrev pub NarrowOwners : List ℕ → ℕ → Type 0
NarrowOwners os n = (p : ℕ) → p < n → get_or os p 0 < 65536

-- the first k of some ports are all of this class
abbrev pub AllOfClass : Sizes → ℕ → List ℕ → ℕ → Type 0
AllOfClass z class takes k = (j : ℕ) → j < k → OfClass z class (get_or takes j 0)

-- A place has the ith key wanted exactly if a message fits there, on the ith of k ports and of an owner from low to high.
pub record FitKeys (os ws stopped ports : List ℕ) (n k low high : ℕ) (ks wanted : List ℕ) : Type 0 where
  pub size : length ks ≡ n
  pub enough : k ≤ length wanted
  pub same : (i p : ℕ) → i < k → p < n → eqb (get_or ks p 0) (get_or wanted i 0) ≡ fits_at os ws low high stopped (get_or ports i 0) p

-- The same of keys by group: a first place on its port may be of any group, and the keys wanted behind it are those of its owner.
pub record GroupKeys (os ws stopped takes : List ℕ) (n k : ℕ) (ks : List ℕ) : Type 0 where
  pub size : length ks ≡ n
  pub first : (p : ℕ) → p < n → eqb (get_or ks p 0 % 512) (get_or takes 0 0) ≡ fits_at os ws 0 65535 stopped (get_or takes 0 0) p
  pub within : (p : ℕ) → p < n → fits_at os ws 0 65535 stopped (get_or takes 0 0) p ≡ true
      → FitKeys os ws stopped takes n k (get_or os p 0) (get_or os p 0) ks (map (λ u. u + group_base ks (get_or takes 0 0) p) takes)

-- what a search by counts of groups asks for
pub record ByGroups (os ws stopped takes keys : List ℕ) (n k : ℕ) : Type 0 where
  pub columns : Columns os ws n
  pub long : length keys ≡ 1024
  pub four : length takes ≡ 4
  pub some : 1 ≤ k
  pub most : k ≤ 4
  pub low : (j : ℕ) → get_or takes j 0 < 512
  pub grouped : GroupKeys os ws stopped takes n k (take n keys)

-- what a search within owners asks for, of a state in columns and of k ports
pub record Groupable (z : Sizes) (os ws stopped : List ℕ) (at : Extent) (takes : List ℕ) (k : ℕ) : Type 0 where
  pub columns : Columns os ws at.len
  pub narrow : NarrowOwners os at.len
  pub few-ports : port_count z ≤ 256
  pub looked : at.unmarked ≤ at.len
  pub unmarked : UnmarkedTo ws at.unmarked
  pub stops : (gs : List ℕ) → StoppedIn (rows (row_of os ws gs) 0 at.len) stopped
  pub four : length takes ≡ 4
  pub some : 1 ≤ k
  pub most : k ≤ 4
  pub low : (j : ℕ) → get_or takes j 0 < 512
  pub local : AllOfClass z 1 takes k
