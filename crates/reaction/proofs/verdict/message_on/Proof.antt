-- `message_on` meets its contract: past the last entry there is none, and no message.
use borrow.Author.Rules.{rules}
use Rattle.reaction.specs.Places.{entry_past, entry-at}
use Rattle.reaction.proofs.verdict.message_on.Statement.{statement}
use Rattle.reaction.proofs.verdict.message_on.Tie as tie

returns : tie.Need-returns-then-n-p
returns c = λ os gs. rw (entry_past os _ gs _ _ c.if-n-p.true)

returns-2 : tie.Need-returns
returns-2 c = λ os gs. rw (entry-at os _ gs _ _ c.if-n-p.false, c.port_of.ensures, c.kind_of.ensures)

pub message_on_spec : {M : Type 1} → statement M
message_on_spec =
    tie.close
    (tie.spec returns (λ c. search rules) (λ c. search rules) (λ c κs. search rules) (λ c κs. search rules) returns-2)
