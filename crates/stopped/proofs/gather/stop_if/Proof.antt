-- `stop_if` meets its contract: the owner is put in where the entry is its abort mark.
use borrow.Author.Rules.{rules}
use Rattle.stopped.proofs.gather.stop_if.Statement.{statement}
use Rattle.stopped.proofs.gather.stop_if.Tie as tie

pub stop_if_spec : {M : Type 1} → statement M
stop_if_spec =
    tie.close
    (tie.spec (λ c κs. search rules) (λ c κs. search rules) (λ c origin. rw (c.is_stop-stop.ensures origin) at c.insert_if.ensures))
