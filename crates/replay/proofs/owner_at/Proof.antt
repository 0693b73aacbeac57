use borrow.Author.Rules.{rules}
use Rattle.replay.proofs.Places.{owner-within, owner-past}
use Rattle.replay.proofs.owner_at.Statement.{statement}
use Rattle.replay.proofs.owner_at.Tie as tie

returns : tie.Need-returns-then-place-n
returns c ws gs = let a = c.args in owner-within a.owners.now ws gs a.n a.place c.if-place-n.true

returns-2 : tie.Need-returns-else-place-n
returns-2 c ws gs = let a = c.args in owner-past a.owners.now ws gs a.n a.place c.if-place-n.false

pub owner_at_spec : {M : Type 1} → statement M
owner_at_spec = tie.close (tie.spec (λ c. search rules) (λ c. search rules) returns returns-2)
