-- `idset::insert_if` meets its contract: where b fails the set is as it was.
use borrow.Author.Rules.{rules}
use borrow.Author.Tests.{not-true, not-false}
use Rattle.idset.proofs.insert_if.Statement.{statement}
use Rattle.idset.proofs.insert_if.Tie as tie

returns : tie.Need-returns-then-not-b
returns c =
    let e = not-true c.before.args.b c.if-not-b.true-raw in
    record { size = c.before.requires.1; holds = λ u. rw e }

returns-2 : tie.Need-returns
returns-2 c =
    let e = not-false c.before.before.before.args.b c.before.before.if-not-b.false-raw in
    record { size = c.insert.ensures.size; holds = λ u. rw e (c.insert.ensures.holds u) }

pub insert_if_spec : {M : Type 1} → statement M
insert_if_spec = tie.close (tie.spec returns (λ c κs. search rules) returns-2)
