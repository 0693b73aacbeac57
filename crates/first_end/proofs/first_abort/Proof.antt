-- `first_abort` meets its contract: the lowest id of an abort mark is that of the first abort.
use mathlib.Core.Path.{◌∙◌}
use borrow.Author.Rules.{rules}
use Rattle.first_end.proofs.FirstEnds.{abort-first, none-to-abort}
use Rattle.first_end.proofs.first_abort.Statement.{statement}
use Rattle.first_end.proofs.first_abort.Tie as tie

returns : tie.Need-returns-then-marked-lt65536
returns c gs T ceiling few =
    let a = c.args in
    c.end_of.ensures
    ∙ abort-first a.owners.now a.items.now gs a.at c.requires.1 c.requires.2 T ceiling few (c.first_marked-marked.ensures gs) c.if-marked-lt65536.true

returns-2 : tie.Need-returns
returns-2 c gs T ceiling few =
    let a = c.args in
    c.no_end.ensures
    ∙ none-to-abort a.owners.now a.items.now gs a.at c.requires.1 c.requires.2 T ceiling few (c.first_marked-marked.ensures gs) c.if-marked-lt65536.false

pub first_abort_spec : {M : Type 1} → statement M
first_abort_spec = tie.close (tie.spec (λ c κs. search rules) (λ c κs. search rules) returns (λ c κs. search rules) returns-2)
