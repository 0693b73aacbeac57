use borrow.Author.Rules.{rules}
use borrow.Author.Tests.{eq-eqb, ne_eqb}
use Rattle.ending.proofs.free.kind_within.Statement.{statement}
use Rattle.ending.proofs.free.kind_within.Tie as tie

pub kind_within_spec : {M : Type 1} → statement M
kind_within_spec = tie.close (tie.spec (λ c κs. search rules) (λ c. rw (c.kind_of.ensures, eq-eqb _ _ c.if-owner-id.true))
    (λ c. simp (ne_eqb _ _ c.if-owner-id.false)))
