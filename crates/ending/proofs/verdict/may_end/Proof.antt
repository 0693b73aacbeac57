use borrow.Author.Tests.{eq-eqb, ne_eqb}
use Rattle.ending.proofs.verdict.may_end.Statement.{statement}
use Rattle.ending.proofs.verdict.may_end.Tie as tie

pub may_end_spec : {M : Type 1} → statement M
may_end_spec = tie.close (tie.spec (λ c. simp (eq-eqb _ _ c.if-kind-eq-COMMIT.true)) (λ c. simp (ne_eqb _ _ c.if-kind-eq-COMMIT.false)))
