-- `may_fit`: kind and port are told by a call.
use borrow.Author.Rules.{rules}
use Rattle.seek.proofs.may_fit.Statement.{statement}
use Rattle.seek.proofs.may_fit.Tie as tie

returns : tie.Need-returns
returns c = rw c.kind_and_port.ensures

pub may_fit_spec : {M : Type 1} → statement M
may_fit_spec = tie.close (tie.spec (λ c κs. search rules) returns)
