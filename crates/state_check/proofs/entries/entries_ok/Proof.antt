-- `entries_ok` meets its contract by what its two passes say of the two columns.
use mathlib.Core.Path.{◌∙◌}
use borrow.Author.Rules.{rules}
use borrow.Author.Tests.{not-true, not-false}
use Rattle.state_check.proofs.Marks.{none-own, first-fails, second-decides}
use Rattle.state_check.proofs.entries.entries_ok.Statement.{statement}
use Rattle.state_check.proofs.entries.entries_ok.Tie as tie

enter-all-requires : tie.Need-enter_all-requires
enter-all-requires c κs = (search rules, none-own c.insert.ensures)

returns : tie.Need-returns-then-not-enter_all
returns c =
    first-fails c.owners_of-owners.ensures c.items_of-items.ensures c.enter_all.ensures (not-true _ c.if-not-enter_all.true-raw)

owners-in-requires : tie.Need-owners_in-requires
owners-in-requires c κs = (c.enter_all.ensures.set (not-false _ c.if-not-enter_all.false-raw)).size

returns-2 : tie.Need-returns
returns-2 c =
    c.owners_in.ensures
    ∙ second-decides c.owners_of-owners.ensures c.items_of-items.ensures c.enter_all.ensures (not-false _ c.if-not-enter_all.false-raw)

pub entries_ok_spec : {M : Type 1} → statement M
entries_ok_spec =
    tie.close
    (tie.spec (λ c κs. search rules) (λ c κs. search rules) (λ c κs. search rules) (λ c. search rules)
    enter-all-requires returns owners-in-requires returns-2)
