-- `idset::remove` meets its contract: its one store is that of `store-removes`.
use borrow.Author.Rules.{rules}
use Rattle.idset.proofs.Words.{store-removes}
use Rattle.idset.proofs.remove.Statement.{statement}
use Rattle.idset.proofs.remove.Tie as tie

returns : tie.Need-returns
returns c = store-removes _ _ c.before.requires.0 c.before.requires.1 c.before.requires.2

pub remove_spec : {M : Type 1} → statement M
remove_spec =
    tie.close (tie.spec (λ c. search rules) (λ c. search rules) (λ c. search rules) (λ c. search rules) (λ c. search rules) (λ c. search rules) returns)
