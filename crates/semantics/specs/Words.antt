-- Fields of words: the only place, with `Log`'s head and `State`'s and `Table`'s columns, that knows how words hold things.
-- 01 lays them out by powers of two, from the top of a 32-bit word down.
use Rattle.std.specs.Prelude.{ℕ, ◌+◌, ◌*◌, ◌/◌, ◌%◌, ◌^◌}

-- an atom: four bits of role, four of mode, then port and value (01, Recipe table)
abbrev pub atom_role : ℕ → ℕ
atom_role w = w / 2 ^ 28

abbrev pub atom_mode : ℕ → ℕ
atom_mode w = w / 2 ^ 24 % 16

-- an item: eight bits of kind, then port and value (01, State)
abbrev pub item_kind : ℕ → ℕ
item_kind w = w / 2 ^ 24

abbrev pub item_word : ℕ → ℕ → ℕ → ℕ
item_word kind port value = kind * 2 ^ 24 + port * 2 ^ 16 + value

-- atoms and items have eight bits of port and sixteen of value in common
abbrev pub port_of : ℕ → ℕ
port_of w = w / 2 ^ 16 % 256

abbrev pub value_of : ℕ → ℕ
value_of w = w % 2 ^ 16

-- a head: eight bits of kind, then a rule's number or an id (01, Move)
abbrev pub head_kind : ℕ → ℕ
head_kind w = w / 2 ^ 24

abbrev pub head_number : ℕ → ℕ
head_number w = w % 2 ^ 24

abbrev pub head_word : ℕ → ℕ → ℕ
head_word kind number = kind * 2 ^ 24 + number
