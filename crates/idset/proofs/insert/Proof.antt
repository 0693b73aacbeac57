-- `idset::insert` meets its contract: its one store is that of `store-inserts`.
use borrow.Author.Rules.{rules}
use Rattle.idset.proofs.Words.{store-inserts}
use Rattle.idset.proofs.insert.Statement.{statement}
use Rattle.idset.proofs.insert.Tie as tie

returns : tie.Need-returns
returns c = store-inserts _ _ c.before.requires.0 c.before.requires.1

pub insert_spec : {M : Type 1} → statement M
insert_spec =
    tie.close (tie.spec (λ c. search rules) (λ c. search rules) (λ c. search rules) (λ c. search rules) (λ c. search rules) (λ c. search rules) returns)
