-- `entry_count` meets its contract: a word fits.
use mathlib.Core.Path.{refl}
use native.Mathlib.Omega.{arith}
use Rattle.wellformed.specs.States.{state-sized}
use Rattle.state.proofs.parts.entry_count.Statement.{statement}
use Rattle.state.proofs.parts.entry_count.Tie as tie

pub entry_count_spec : {M : Type 1} → statement M
entry_count_spec =
    tie.close
    (tie.spec (λ c. let q = state-sized _ c.requires in omega arith) (λ c. omega (arith, c.shared_slice_known-1.given 0))
    (λ c. (refl, state-sized _ c.requires)))
