-- `enter` meets its contract: its three calls are the record's three parts.
use borrow.Author.Rules.{rules}
use Rattle.transactions.proofs.sets.enter.Statement.{statement}
use Rattle.transactions.proofs.sets.enter.Tie as tie

returns : tie.Need-returns
returns c origin =
    record {
      owning = c.insert.ensures;
      blocking = rw (c.blocks-2.ensures 0 origin) at c.insert_if.ensures;
      marking = rw c.kind_of.ensures at c.insert_if-2.ensures;
    }

pub enter_spec : {M : Type 1} → statement M
enter_spec =
    tie.close
    (tie.spec
    (λ c κs. search rules) (λ c κs. search rules) (λ c κs. search rules) (λ c κs. search rules) (λ c κs. search rules) returns)
