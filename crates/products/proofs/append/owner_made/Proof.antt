-- `owner_made` meets its contract: its test is the definition's.
use mathlib.Core.Bool.{not}
use native.Mathlib.Omega.{arith}
use lib.Dec.{eqb}
use borrow.Author.Tests.{eqb-true, eqb-false, not-true}
use Rattle.lists.specs.Tests.{and_both}
use Rattle.products.proofs.append.owner_made.Statement.{statement}
use Rattle.products.proofs.append.owner_made.Tie as tie

-- the id of what is begun is narrow
cast-result : tie.Need-overflow_cast-result
cast-result c =
    let a = c.args in
    let (global, other) = and_both (eqb a.class 0) (not (eqb a.role 1)) c.if-class-role.true in
    omega (arith, c.requires (eqb-true a.class 0 global) (eqb-false a.role 1 (not-true _ other)))

pub owner_made_spec : {M : Type 1} → statement M
owner_made_spec = tie.close (tie.spec cast-result (λ c. rw c.if-class-role.true) (λ c. rw c.if-class-role.false))
