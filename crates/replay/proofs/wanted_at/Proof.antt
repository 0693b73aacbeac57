use Prim.Native.Nat.{◌*◌}
use native.Mathlib.Omega.{arith}
use borrow.Author.Rules.{rules}
use Rattle.lists.specs.Walk.{take-four}
use Rattle.replay.proofs.wanted_at.Statement.{statement}
use Rattle.replay.proofs.wanted_at.Tie as tie

returns : tie.Need-returns
returns c =
    let a = c.args in
    take-four a.origins.now (4 * a.p) 0 (omega arith)

pub wanted_at_spec : {M : Type 1} → statement M
wanted_at_spec =
    tie.close
    (tie.spec
    (λ c. search rules) (λ c. search rules) (λ c. search rules) (λ c. search rules) (λ c. search rules) (λ c. search rules)
    (λ c. search rules) (λ c. search rules) (λ c. search rules) (λ c. search rules) (λ c. search rules) (λ c. search rules) returns)
