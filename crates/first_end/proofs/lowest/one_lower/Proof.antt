-- `one_lower` meets its contract: what is not above counts as 65536.
use native.Mathlib.Omega.{arith}
use borrow.Author.Rules.{rules}
use borrow.Author.Tests.{lt-ltb, le-ltb}
use Rattle.lists.specs.Choices.{cond-true, cond-false}
use Rattle.first_end.proofs.lowest.one_lower.Statement.{statement}
use Rattle.first_end.proofs.lowest.one_lower.Tie as tie

returns : tie.Need-returns-then-above-owner
returns c =
    let a = c.args in
    omega (arith, c.if-above-owner.true, cond-true a.owner 65536 (lt-ltb a.above a.owner c.if-above-owner.true))

returns-2 : tie.Need-returns-else-above-owner
returns-2 c =
    let a = c.args in
    omega (arith, cond-false a.owner 65536 (le-ltb a.above a.owner c.if-above-owner.false))

pub one_lower_spec : {M : Type 1} → statement M
one_lower_spec = tie.close (tie.spec (λ c. search rules) returns returns-2)
