-- `State::empty` meets its contract: no row is in use.
use mathlib.Core.Path.{refl}
use borrow.Author.Rules.{rules}
use Rattle.lists.specs.Rows.{rows_none}
use Rattle.state.specs.Arrays.{holds_of}
use Rattle.state.proofs.State.empty.Statement.{statement}
use Rattle.state.proofs.State.empty.Tie as tie

returns : tie.Need-returns
returns c = holds_of _ refl refl (search rules) (rows_none _ 0)

pub empty_spec : {M : Type 1} → statement M
empty_spec = tie.close (tie.spec returns)
