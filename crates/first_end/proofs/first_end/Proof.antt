-- `first_end` meets its contract: each return is a law of `FirstEnds`, or another function's.
use mathlib.Core.Path.{sym, ◌∙◌}
use borrow.Author.Rules.{rules}
use borrow.Author.Tests.{not-true, not-false}
use Rattle.first_end.proofs.FirstEnds.{no-owner, all-stopped, outside-first}
use Rattle.first_end.proofs.first_end.Statement.{statement}
use Rattle.first_end.proofs.first_end.Tie as tie

returns : tie.Need-returns-then-lowest-ge65536
returns c gs T ceiling ports few =
    let a = c.args in
    c.no_end.ensures
    ∙ no-owner a.owners.now a.items.now gs a.at c.requires.1 c.requires.2 T ceiling few
    (c.lowest_owner-lowest.ensures a.items.now gs) c.if-lowest-ge65536.true

-- where the first without an abort mark is known
abbrev start : tie.After-lowest_unstopped-free → tie.Start
start c = c.before.before.before

returns-2 : tie.Need-returns-then-free-ge65536
returns-2 c gs T ceiling ports few =
    let s = start c.before.before in
    let a = s.args in
    c.first_abort.ensures gs T ceiling few
    ∙ all-stopped a.owners.now a.items.now gs a.at s.requires.1 s.requires.2 T ceiling few a.globals ports
    (s.requires.3 gs) (c.lowest_unstopped-free.ensures a.items.now gs) c.if-free-ge65536.true

returns-3 : tie.Need-returns-then-not-has_inside
returns-3 c gs T ceiling ports few =
    let s = start c.before.before.before.before in
    let a = s.args in
    c.end_of.ensures
    ∙ outside-first a.owners.now a.items.now gs a.at s.requires.1 s.requires.2 T ceiling few a.globals ports
    (s.requires.3 gs) (c.lowest_unstopped-free.ensures a.items.now gs) c.if-free-ge65536.false
    (sym (c.has_inside.ensures gs) ∙ not-true _ c.if-not-has_inside.true-raw)

end-of-few-requires : tie.Need-end_of_few-requires
end-of-few-requires c κs =
    let s = start c.before.before.before.before in
    let items = s.args.items.now in (
      s.requires,
      (search rules, c.lowest_unstopped-free.ensures items, λ gs. sym (c.has_inside.ensures gs) ∙ not-false _ c.if-not-has_inside.false-raw),
    )

pub first_end_spec : {M : Type 1} → statement M
first_end_spec =
    tie.close
    (tie.spec
    (λ c κs. search rules)
    (λ c κs. search rules)
    returns
    (λ c κs. search rules)
    (λ c κs. search rules)
    returns-2
    (λ c. search rules)
    (λ c κs. search rules)
    (λ c κs. search rules)
    returns-3
    end-of-few-requires
    (λ c. c.end_of_few.ensures)
    (λ c κs. search rules)
    (λ c. c.end_of_any.ensures))
