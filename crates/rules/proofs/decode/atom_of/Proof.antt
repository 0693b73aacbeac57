-- `decode::atom_of` meets its contract.
use native.Mathlib.Omega.{arith}
use borrow.Author.Rules.{rules}
use Rattle.rules.proofs.decode.atom_of.Statement.{statement}
use Rattle.rules.proofs.decode.atom_of.Tie as tie

returns : tie.Need-returns
returns c = rw (c.value_of-value.ensures, c.role_of.ensures, c.port_of.ensures)

pub atom_of_spec : {M : Type 1} → statement M
atom_of_spec = tie.close (tie.spec (λ c κs. search rules) (λ c κs. search rules) (λ c. omega (arith, c.role_of.ensures)) (λ c κs. search rules)
    (λ c. omega (arith, c.port_of.ensures)) returns)
