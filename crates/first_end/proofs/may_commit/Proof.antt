-- `may_commit` meets its contract: an abort mark and a message inside are all that blocks.
use mathlib.Core.Path.{sym, ap, ◌∙◌}
use mathlib.Core.Bool.{not}
use borrow.Author.Rules.{rules}
use Rattle.state.specs.Lent.{state_from}
use Rattle.first_end.proofs.Commits.{stopped-blocked, outside-commits}
use Rattle.first_end.proofs.may_commit.Statement.{statement}
use Rattle.first_end.proofs.may_commit.Tie as tie

returns : tie.Need-returns-then-has
returns c gs T ports =
    let a = c.args in
    stopped-blocked T (state_from a.owners.now a.items.now gs a.at) ports (c.requires.3 gs) a.id (sym c.has.ensures ∙ c.if-has.true)

returns-2 : tie.Need-returns
returns-2 c gs T ports =
    let a = c.args in
    ap not (c.has_inside.ensures gs)
    ∙ outside-commits T (state_from a.owners.now a.items.now gs a.at) ports (c.requires.3 gs) a.id c.requires.1
    (sym c.has.ensures ∙ c.if-has.false)

pub may_commit_spec : {M : Type 1} → statement M
may_commit_spec = tie.close (tie.spec (λ c κs. search rules) returns (λ c. search rules) (λ c κs. search rules) returns-2)
