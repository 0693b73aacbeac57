use native.Mathlib.Omega.{arith}
use Rattle.preview.proofs.reactions.next_after.Statement.{statement}
use Rattle.preview.proofs.reactions.next_after.Tie as tie

pub next_after_spec : {M : Type 1} → statement M
next_after_spec = tie.close (tie.spec (λ c. omega (arith, c.requires c.if-begins.true)) (λ c. rw c.if-begins.true) (λ c. rw c.if-begins.false))
