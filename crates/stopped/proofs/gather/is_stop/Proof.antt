-- `is_stop` meets its contract: the code is the definition.
use borrow.Author.Rules.{rules}
use Rattle.stopped.proofs.gather.is_stop.Statement.{statement}
use Rattle.stopped.proofs.gather.is_stop.Tie as tie

pub is_stop_spec : {M : Type 1} → statement M
is_stop_spec = tie.close (tie.spec (λ c κs. search rules) (λ c origin. rw c.kind_of.ensures))
