-- An abort mark of one of some transactions.
use Rattle.std.specs.Prelude.{ℕ, Bool, ◌&&◌, List}
use Rattle.lists.specs.Lists.{is_in}
use Rattle.semantics.specs.State.{Entry, is_abort_mark}

abbrev pub abort_mark_in : List ℕ → Entry → Bool
abort_mark_in ids e = is_in e.owner ids && is_abort_mark e
