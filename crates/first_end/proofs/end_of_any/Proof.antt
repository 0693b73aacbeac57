-- `end_of_any` meets its contract: the first that is not blocked is committed.
use mathlib.Core.Path.{◌∙◌}
use borrow.Author.Rules.{rules}
use Rattle.idset.specs.IdSet.{zeros-empty}
use Rattle.first_end.proofs.FirstEnds.{free-first, none_free}
use Rattle.first_end.proofs.end_of_any.Statement.{statement}
use Rattle.first_end.proofs.end_of_any.Tie as tie

-- where the first that may be committed is known
abbrev start : tie.After-first_free-free → tie.Start
start c = c.before.before.before.before

returns : tie.Need-returns-then-free-lt65536
returns c gs T ceiling ports few =
    let s = start c.before.before in
    let a = s.args in
    c.end_of.ensures
    ∙ free-first a.owners.now a.items.now gs a.at s.requires.1 s.requires.2 T ceiling few a.globals ports
    (c.gather_blocked.ensures gs) (c.first_free-free.ensures a.items.now gs) c.if-free-lt65536.true

returns-2 : tie.Need-returns
returns-2 c gs T ceiling ports few =
    let s = start c.before.before in
    let a = s.args in
    c.first_abort.ensures gs T ceiling few
    ∙ none_free a.owners.now a.items.now gs a.at s.requires.1 s.requires.2 T ceiling few a.globals ports
    (c.gather_blocked.ensures gs) (c.first_free-free.ensures a.items.now gs) c.if-free-lt65536.false

pub end_of_any_spec : {M : Type 1} → statement M
end_of_any_spec =
    tie.close
    (tie.spec
    (λ c κs. (c.requires.0, zeros-empty))
    (λ c κs. search rules)
    (λ c κs. search rules)
    returns
    (λ c κs. search rules)
    returns-2)
