use borrow.Author.Rules.{rules}
use borrow.Author.Tests.{eq-eqb, ne_eqb}
use Rattle.ending.proofs.free.same.Statement.{statement}
use Rattle.ending.proofs.free.same.Tie as tie

pub same_spec : {M : Type 1} → statement M
same_spec = tie.close (tie.spec (λ c. (simp (eq-eqb _ _ c.if-a-b.true), search rules)) (λ c. (simp (ne_eqb _ _ c.if-a-b.false), search rules)))
