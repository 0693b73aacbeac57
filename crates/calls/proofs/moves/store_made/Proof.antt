-- `store_made` meets its contract (`Results`).
use borrow.Author.Rules.{rules}
use Rattle.calls.proofs.Results.{stored-to}
use Rattle.calls.proofs.moves.store_made.Statement.{statement}
use Rattle.calls.proofs.moves.store_made.Tie as tie

returns : tie.Need-returns-in-Denied
returns c = λ gs.
    let told = c.in-Denied.is in
    record { outcome = rw told; target = rw told }

returns-2 : tie.Need-returns
returns-2 c = λ gs. rw c.in_default.is (stored-to (c.store.ensures gs) _)

pub store_made_spec : {M : Type 1} → statement M
store_made_spec = tie.close (tie.spec (λ c. search rules) returns (λ c. search rules) (λ c κs. search rules) (λ c. search rules) returns-2)
