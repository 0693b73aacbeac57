-- `supplies_any` meets its contract.
use borrow.Author.Rules.{rules}
use Rattle.supply.proofs.supplies_any.Statement.{statement}
use Rattle.supply.proofs.supplies_any.Tie as tie

returns : tie.Need-returns
returns c = rw (c.role_of-role.ensures, c.port_of.ensures)

pub supplies_any_spec : {M : Type 1} → statement M
supplies_any_spec = tie.close (tie.spec (λ c κs. search rules) (λ c κs. search rules) returns)
