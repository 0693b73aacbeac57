use mathlib.Core.Path.{sym, ◌∙◌}
use Rattle.wellformed.specs.Tables.{well-formed}
use Rattle.ready.proofs.Checking.{table-denied, state-checked}
use borrow.Author.Rules.{rules}
use Rattle.ready.proofs.ready.Statement.{statement}
use Rattle.ready.proofs.ready.Tie as tie

returns : tie.Need-returns-in-Denied
returns c = table-denied _ _ c.check-of_table.ensures c.in-Denied.is

sizes-of-requires : tie.Need-sizes_of-requires
sizes-of-requires c κs =
    (well-formed _ (sym c.check-of_table.ensures.verdict ∙ c.in_default.is)).sizes.long

returns-2 : tie.Need-returns
returns-2 c =
    state-checked _ _ c.check-of_table.ensures c.in_default.is
    (rw c.sizes_of.ensures at c.check.ensures)

pub ready_spec : {M : Type 1} → statement M
ready_spec =
    tie.close
    (tie.spec
    (λ c κs. search rules)
    (λ c. search rules)
    returns
    (λ c. search rules)
    sizes-of-requires
    (λ c κs. search rules)
    returns-2)
