-- `owner_in` meets its contract: no set holds an owner of 65,536 or more.
use mathlib.Core.Path.{sym}
use borrow.Author.Rules.{rules}
use Rattle.idset.specs.IdSet.{beyond}
use Rattle.state_check.proofs.entries.owner_in.Statement.{statement}
use Rattle.state_check.proofs.entries.owner_in.Tie as tie

returns : tie.Need-returns-then-owner-ge65536
returns c = sym (beyond _ _ c.requires c.if-owner-ge65536.true)

pub owner_in_spec : {M : Type 1} → statement M
owner_in_spec = tie.close (tie.spec returns (λ c κs. search rules) (λ c. search rules))
