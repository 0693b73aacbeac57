-- `idset::behind` meets its contract: what it passes over are the zeros above v, and never another word.
use Prim.Native.Nat.{◌<◌}
use native.Mathlib.Omega.{arith}
use borrow.Author.Rules.{rules}
use Rattle.idset.proofs.Bits.{zeros-fit, zeros-skipped}
use Rattle.idset.proofs.behind.Statement.{statement}
use Rattle.idset.proofs.behind.Tie as tie

add-next-2 : tie.Need-overflow_add-next-2
add-next-2 c = let h : c.before.args.v < 65536 = omega arith in record { fits = zeros-fit c.before.args.v _ h }

returns : tie.Need-returns
returns c = zeros-skipped _ _ _ c.before.before.before.requires.0 c.before.lower.ensures c.lower-2.ensures

pub behind_spec : {M : Type 1} → statement M
behind_spec =
    tie.close
    (tie.spec
    (λ c. search rules) (λ c. search rules) (λ c. search rules) (λ c. search rules) (λ c. search rules)
    (λ c. search rules) add-next-2 (λ c. search rules) (λ c. search rules) (λ c κs. search rules)
    (λ c κs. search rules) returns)
