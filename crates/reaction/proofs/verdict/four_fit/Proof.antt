-- `four_fit` meets its contract: by the rule's class (`Picking`).
use borrow.Author.Rules.{rules}
use borrow.Author.Tests.{eq-eqb, ne_eqb}
use lib.Dec.{ltb}
use Rattle.semantics.specs.Move.{is_zero}
use Rattle.reaction.proofs.Picking.{four-all, four-one}
use Rattle.reaction.proofs.verdict.four_fit.Statement.{statement}
use Rattle.reaction.proofs.verdict.four_fit.Tie as tie

returns : tie.Need-returns-then-class-eq0
returns c = rw (eq-eqb _ 0 c.if-class-eq0.true) (four-all c.args.owners (search rules) is_zero)

returns-2 : tie.Need-returns-then-class-eq1
returns-2 c = rw (ne_eqb _ 0 c.if-class-eq0.false, eq-eqb _ 1 c.if-class-eq1.true) (four-one c.args.owners (search rules))

returns-3 : tie.Need-returns
returns-3 c = rw (ne_eqb _ 0 c.if-class-eq0.false, ne_eqb _ 1 c.if-class-eq1.false) (four-all c.args.owners (search rules) (ltb 0))

pub four_fit_spec : {M : Type 1} → statement M
four_fit_spec =
    tie.close (tie.spec (λ c. search rules) (λ c. search rules) (λ c. search rules) (λ c. search rules) returns returns-2 returns-3)
