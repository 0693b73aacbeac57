-- `recount` meets its contract: the totals of the keys are the state's supply.
use borrow.Author.Rules.{rules}
use Rattle.offers.specs.ColumnKeys.{keys-supply}
use Rattle.offers.proofs.Parts.{all-outside}
use Rattle.offers.proofs.recount.Statement.{statement}
use Rattle.offers.proofs.recount.Tie as tie

returns : tie.Need-returns-then-none_stopped
returns c gs =
    let a = c.args in
    let e = all-outside a.owners.now a.items.now gs a.at.len (c.requires.1 gs) (c.none_stopped.ensures c.if-none_stopped.true) in
    keys-supply a.z a.owners.now a.items.now gs a.at (c.requires.1 gs) (rw e at c.count_free.ensures)

returns-2 : tie.Need-returns
returns-2 c gs =
    let a = c.args in
    keys-supply a.z a.owners.now a.items.now gs a.at (c.requires.1 gs) c.count_outside.ensures

pub recount_spec : {M : Type 1} → statement M
recount_spec =
    tie.close
    (tie.spec
    (λ c κs. search rules) (λ c κs. search rules) (λ c κs. search rules) returns (λ c κs. search rules) returns-2)
