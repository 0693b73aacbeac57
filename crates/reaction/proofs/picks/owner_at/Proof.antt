use native.Mathlib.Omega.{arith}
use Rattle.reaction.proofs.picks.owner_at.Statement.{statement}
use Rattle.reaction.proofs.picks.owner_at.Tie as tie

pub owner_at_spec : {M : Type 1} → statement M
owner_at_spec =
    tie.close
    (tie.spec (λ c. let l = c.requires.1 c.if-used.true in omega arith) (λ c. c.requires.1 c.if-used.true)
    (λ c. rw c.if-used.true) (λ c. rw c.if-used.false))
