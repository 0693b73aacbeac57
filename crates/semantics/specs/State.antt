-- 01, "State": when the words of a state are well formed, and the entries that they hold.
use Rattle.std.specs.Prelude.{ℕ, suc, ◌+◌, ◌*◌, Bool, ◌&&◌, ◌||◌, List, [], ◌∷◌, ◌++◌, map, leb, ltb, eqb, length, get_or, take, drop}
use Rattle.lists.specs.Lists.{given, all, any, keep, distinct}
use Rattle.semantics.specs.Words.{item_kind, item_word, port_of, value_of}
use Rattle.semantics.specs.Table.{port_count}
use Rattle.semantics.specs.declared.Sizes.{Sizes}

-- ---- entries

-- Where an entry comes from: maker 0 is the start, and the index the entry's place there; maker i + 1 is the log's move at place i, and the index counts
-- its products (01, Log and serial log). Only the serial log looks at origins.
pub record Origin : Type 0 where
  pub maker : ℕ
  pub index : ℕ

-- Owner 0 is the global one (01's plant), any other a transaction (batch) by its id. Kinds, with 01's words: 0 message (note), 1 compensation (call-off
-- note), 2 abort mark (stop mark), 3 member mark (lot mark).
pub record Entry : Type 0 where
  pub origin : Origin
  pub owner : ℕ
  pub kind : ℕ
  pub port : ℕ
  pub value : ℕ

-- next: the id that the next begin gets, 01's N
pub record State : Type 0 where
  pub next : ℕ
  pub entries : List Entry

abbrev pub is_message : Entry → Bool
is_message e = eqb e.kind 0

abbrev pub is_compensation : Entry → Bool
is_compensation e = eqb e.kind 1

abbrev pub is_abort_mark : Entry → Bool
is_abort_mark e = eqb e.kind 2

abbrev pub is_member_mark : Entry → Bool
is_member_mark e = eqb e.kind 3

abbrev pub owned : ℕ → Entry → Bool
owned o e = eqb e.owner o

-- ---- the parts of a state

-- Two sizes come first, the number of entries and the next id; a column of owners and one of items follow.
abbrev pub entry_count : List ℕ → ℕ
entry_count s = get_or s 0 0

abbrev pub next_of : List ℕ → ℕ
next_of s = get_or s 1 0

abbrev pub owners_of : List ℕ → List ℕ
owners_of s = take (entry_count s) (drop 2 s)

abbrev pub items_of : List ℕ → List ℕ
items_of s = drop (2 + entry_count s) s

abbrev pub entry_of : ℕ → ℕ → ℕ → Entry
entry_of place owner item =
    record { origin = record { maker = 0; index = place }; owner = owner; kind = item_kind item; port = port_of item; value = value_of item }

-- entries from the two columns; the first has the given place
abbrev pub entries_of : ℕ → List ℕ → List ℕ → List Entry
entries_of place [] items = []
entries_of place (o ∷ os) [] = []
entries_of place (o ∷ os) (w ∷ ws) = entry_of place o w ∷ entries_of (suc place) os ws

unfoldable pub state_of : List ℕ → State
state_of s = record { next = next_of s; entries = entries_of 0 (owners_of s) (items_of s) }

-- and back: the words of a state
unfoldable pub state_words : State → List ℕ
state_words s =
    length s.entries
    ∷ s.next
    ∷ map (λ e. e.owner) s.entries ++ map (λ e. item_word e.kind e.port e.value) s.entries

-- ---- n, N and length (3)

-- the most entries that the line holds
abbrev pub max_entries : ℕ
max_entries = 1024

-- entries and next id within their limits, and no word missing or left over
unfoldable pub state_sizes_ok : List ℕ → Bool
state_sizes_ok s =
    leb 2 (length s)
    && (leb (entry_count s) max_entries && (leb 1 (next_of s) && leb (next_of s) 65536) && eqb (length s) (2 + 2 * entry_count s))

-- ---- entries (4)

-- What is global is a message on a global port: everything else belongs to a transaction.
abbrev pub global_ok : Sizes → Entry → Bool
global_ok z e = given (owned 0 e) (is_message e && ltb e.port z.globals)

-- A message's port exists.
abbrev pub message_ok : Sizes → Entry → Bool
message_ok z e = given (is_message e) (ltb e.port (port_count z))

-- A compensation waits on a global port.
abbrev pub compensation_ok : Sizes → Entry → Bool
compensation_ok z e = given (is_compensation e) (ltb e.port z.globals)

-- An abort mark is bare.
abbrev pub abort_mark_ok : Entry → Bool
abort_mark_ok e = given (is_abort_mark e) (eqb e.port 0 && eqb e.value 0)

-- A member mark has the member's id for its value: one that a begin has given out, in a transaction whose own id is no larger.
abbrev pub member_mark_ok : ℕ → Entry → Bool
member_mark_ok next e = given (is_member_mark e) (eqb e.port 0 && leb 1 e.owner && leb e.owner e.value && ltb e.value next)

unfoldable pub entry_ok : Sizes → ℕ → Entry → Bool
entry_ok z next e =
    leb e.kind 3 && global_ok z e && message_ok z e && compensation_ok z e && abort_mark_ok e && member_mark_ok next e

-- the ids of the members; no two marks have the same
abbrev pub mark_values : List Entry → List ℕ
mark_values es = map (λ e. e.value) (keep is_member_mark es)

-- the mark of member t, in the transaction t itself
abbrev pub is_own_mark : ℕ → Entry → Bool
is_own_mark t e = is_member_mark e && eqb e.value t && owned t e

-- A transaction goes under the id of one of its members, and owns that member's mark. A merge made by halves would show here.
abbrev pub owner_ok : List Entry → Entry → Bool
owner_ok es e = owned 0 e || any (is_own_mark e.owner) es

unfoldable pub entries_ok : Sizes → State → Bool
entries_ok z s = all (entry_ok z s.next) s.entries && distinct (mark_values s.entries) && all (owner_ok s.entries) s.entries
