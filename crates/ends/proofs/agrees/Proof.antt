-- `agrees` meets its contract: what the set says, or the opposite.
use borrow.Author.Rules.{rules}
use Rattle.ends.proofs.agrees.Statement.{statement}
use Rattle.ends.proofs.agrees.Tie as tie

pub agrees_spec : {M : Type 1} → statement M
agrees_spec =
    tie.close
    (tie.spec (λ c κs. search rules) (λ c. rw c.if-wanted.true c.has-there.ensures) (λ c. rw (c.if-wanted.false, c.has-there.ensures)))
