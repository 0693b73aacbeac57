-- An item as a message.
use Rattle.std.specs.Prelude.{ℕ, ◌%◌, ◌^◌}

-- the same port and value, of kind 0
abbrev pub as_message : ℕ → ℕ
as_message w = w % 2 ^ 24
