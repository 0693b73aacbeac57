-- The abstract value of a working state, and what it is to hold one.
use Rattle.std.specs.Prelude.{ℕ, ◌≤◌, ◌≡◌, List, length, get_or}
use Rattle.lists.specs.Lists.{over}
use Rattle.lists.specs.Rows.{rows}
use Rattle.semantics.specs.Words.{item_kind, port_of, value_of}
use Rattle.semantics.specs.State as semantics
use Rattle.semantics.specs.State.{Entry}
use Rattle.words.specs.Origin.{origin_of}
use Rattle.state.specs.declared.State.{State}
use Rattle.state.specs.declared.Extent.{Extent}

-- the entry of an owner, an item and an origin
abbrev pub entry_from : ℕ → ℕ → ℕ → Entry
entry_from o w g = record { origin = origin_of g; owner = o; kind = item_kind w; port = port_of w; value = value_of w }

-- the entry at place k of the columns of owners, items and origins
abbrev pub row_of : List ℕ → List ℕ → List ℕ → ℕ → Entry
row_of os ws gs k = entry_from (get_or os k 0) (get_or ws k 0) (get_or gs k 0)

abbrev pub entry_in : State → ℕ → Entry
entry_in s = row_of s.owners s.items s.origins

unfoldable pub state_in : State → semantics.State
state_in s = record { next = s.next; entries = rows (entry_in s) 0 s.len }

-- the state in lent columns
abbrev pub held : List ℕ → List ℕ → List ℕ → Extent → State
held os ws gs at = record { owners = os; items = ws; origins = gs; len = at.len; next = at.next; unmarked = at.unmarked }

-- s holds σ, and is within its limit
pub record Holds (s : State) (σ : semantics.State) : Type 0 where
  pub value : state_in s ≡ σ
  pub fits : s.len ≤ 1024

-- what `store` leaves in the target, and the number of words
pub record Stored (s : State) (before after : List ℕ) (count : ℕ) : Type 0 where
  pub target : after ≡ over (semantics.state_words (state_in s)) before
  pub words : count ≡ length (semantics.state_words (state_in s))
