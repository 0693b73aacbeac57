use borrow.Author.Tests.{eq-eqb, ne_eqb}
use Rattle.ending.proofs.free.owner_after.Statement.{statement}
use Rattle.ending.proofs.free.owner_after.Tie as tie

pub owner_after_spec : {M : Type 1} → statement M
owner_after_spec = tie.close (tie.spec (λ c. simp (eq-eqb _ _ c.if-owner-id.true)) (λ c. simp (ne_eqb _ _ c.if-owner-id.false)))
