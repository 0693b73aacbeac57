-- `kind_made` meets its contract: by the tests of the role.
use borrow.Author.Rules.{rules}
use borrow.Author.Tests.{eq-eqb, ne_eqb}
use Rattle.products.proofs.append.kind_made.Statement.{statement}
use Rattle.products.proofs.append.kind_made.Tie as tie

returns : tie.Need-returns-then-role-eq2
returns c = (rw (eq-eqb _ _ c.if-role-eq2.true), search rules)

returns-2 : tie.Need-returns-then-role-eq4
returns-2 c = (rw (ne_eqb _ _ c.if-role-eq2.false, eq-eqb _ _ c.if-role-eq4.true), search rules)

returns-3 : tie.Need-returns-then-role-eq5
returns-3 c = (rw (ne_eqb _ _ c.if-role-eq2.false, ne_eqb _ _ c.if-role-eq4.false, eq-eqb _ _ c.if-role-eq5.true), search rules)

returns-4 : tie.Need-returns
returns-4 c = (rw (ne_eqb _ _ c.if-role-eq2.false, ne_eqb _ _ c.if-role-eq4.false, ne_eqb _ _ c.if-role-eq5.false), search rules)

pub kind_made_spec : {M : Type 1} → statement M
kind_made_spec = tie.close (tie.spec returns returns-2 returns-3 returns-4)
