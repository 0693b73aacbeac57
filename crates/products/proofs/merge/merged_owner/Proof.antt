use mathlib.Core.Bool.{or-false}
use Rattle.products.proofs.merge.merged_owner.Statement.{statement}
use Rattle.products.proofs.merge.merged_owner.Tie as tie

pub merged_owner_spec : {M : Type 1} → statement M
merged_owner_spec = tie.close (tie.spec (λ c. rw (or-false, c.if-owner-a.true)) (λ c. rw (or-false, c.if-owner-a.false)))
