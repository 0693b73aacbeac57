-- `last_aborts` meets its contract.
use Prim.Native.Nat.{ℕ}
use mathlib.Core.Path.{ap}
use lib.Dec.{eqb}
use borrow.Author.Rules.{rules}
use Rattle.supply.proofs.last_aborts.Statement.{statement}
use Rattle.supply.proofs.last_aborts.Tie as tie

returns : tie.Need-returns
returns c = ap (λ (k : ℕ). eqb k 5) c.role_of.ensures

pub last_aborts_spec : {M : Type 1} → statement M
last_aborts_spec =
    tie.close (tie.spec (λ c. search rules) (λ c. search rules) (λ c. search rules) (λ c κs. search rules) returns)
