use borrow.Author.Rules.{rules}
use borrow.Author.Tests.{eq-eqb, ne_eqb}
use Rattle.ending.proofs.free.item_after.Statement.{statement}
use Rattle.ending.proofs.free.item_after.Tie as tie

pub item_after_spec : {M : Type 1} → statement M
item_after_spec = tie.close (tie.spec (λ c κs. search rules) (λ c. rw (c.as_message.ensures, eq-eqb _ _ c.if-owner-id.true))
    (λ c. simp (ne_eqb _ _ c.if-owner-id.false)))
