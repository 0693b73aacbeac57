-- `shifted` adds the base to each.
use native.Mathlib.Omega.{arith}
use Rattle.groups.proofs.Within.{shifted_as}
use borrow.Author.Rules.{rules}
use Rattle.groups.proofs.pages.shifted.Statement.{statement}
use Rattle.groups.proofs.pages.shifted.Tie as tie

pub shifted_spec : {M : Type 1} → statement M
shifted_spec =
    tie.close
    (tie.spec
    (λ c. search rules)
    (λ c. omega (arith, c.requires.0, c.requires.1 0))
    (λ c. search rules)
    (λ c. omega (arith, c.requires.0, c.requires.1 1))
    (λ c. search rules)
    (λ c. omega (arith, c.requires.0, c.requires.1 2))
    (λ c. search rules)
    (λ c. omega (arith, c.requires.0, c.requires.1 3))
    (λ c. shifted_as c.args.base c.args.takes (search rules)))
