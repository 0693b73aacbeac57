-- `store_reached` meets its contract (`Results`).
use borrow.Author.Rules.{rules}
use Rattle.calls.proofs.Results.{stored-to}
use Rattle.calls.proofs.logs.store_reached.Statement.{statement}
use Rattle.calls.proofs.logs.store_reached.Tie as tie

returns : tie.Need-returns-in-Denied
returns c = λ gs.
    let told = c.in-Denied.is in
    record { comes = record { outcome = rw told; target = rw told }; tally = rw told }

returns-2 : tie.Need-returns
returns-2 c = λ gs.
    rw c.in_default.is
    (record { comes = stored-to (c.store.ensures gs) _; tally = c.put_tally.ensures })

pub store_reached_spec : {M : Type 1} → statement M
store_reached_spec =
    tie.close
    (tie.spec
    (λ c. search rules) returns (λ c. search rules) (λ c. search rules) (λ c κs. search rules) (λ c κs. search rules) (λ c. search rules) returns-2)
