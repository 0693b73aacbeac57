-- `idset::has` meets its contract: the code is the definition of `has`, once that is unfolded.
use borrow.Author.Rules.{rules}
use Rattle.idset.specs.IdSet.{has}
use Rattle.idset.proofs.has.Statement.{statement}
use Rattle.idset.proofs.has.Tie as tie

returns : tie.Need-returns
unfolding has
returns c = search rules

pub has_spec : {M : Type 1} → statement M
has_spec = tie.close (tie.spec (λ c. search rules) (λ c. search rules) (λ c. search rules) (λ c. search rules) (λ c. search rules) returns)
