-- `lowest_unstopped` meets its contract: the lowest of all, where it is not in the set.
use mathlib.Core.Path.{sym, ap, ◌∙◌}
use mathlib.Core.Bool.{not}
use borrow.Author.Rules.{rules}
use Rattle.idset.specs.IdSet.{has}
use Rattle.first_end.proofs.FirstEnds.{lowest-stays, lowest-holder}
use Rattle.first_end.proofs.lowest_unstopped.Statement.{statement}
use Rattle.first_end.proofs.lowest_unstopped.Tie as tie

returns : tie.Need-returns-then-not-has
returns c ws gs =
    let a = c.args in
    let g = c.requires.0 in
    lowest-stays a.owners.now ws gs a.at g.2 g.3 (λ v. not (has a.stopped.now v)) (c.requires.1.1 ws gs) c.requires.1.0
    (ap not (sym c.has.ensures) ∙ c.if-not-has.true-raw)

returns-2 : tie.Need-returns
returns-2 c ws gs =
    let a = c.args in
    let g = c.requires.0 in
    lowest-holder a.owners.now ws gs a.at g.2 g.3 0 (λ v. not (has a.stopped.now v)) (c.first_free.ensures ws gs)

pub lowest_unstopped_spec : {M : Type 1} → statement M
lowest_unstopped_spec = tie.close (tie.spec (λ c κs. search rules) returns (λ c κs. search rules) returns-2)
