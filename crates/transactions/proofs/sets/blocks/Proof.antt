-- `blocks` meets its contract: the code is the definition.
use borrow.Author.Rules.{rules}
use Rattle.transactions.proofs.sets.blocks.Statement.{statement}
use Rattle.transactions.proofs.sets.blocks.Tie as tie

pub blocks_spec : {M : Type 1} → statement M
blocks_spec = tie.close (tie.spec (λ c κs. search rules) (λ c κs. search rules) (λ c owner origin. rw (c.port_of-port.ensures, c.kind_of-kind.ensures)))
