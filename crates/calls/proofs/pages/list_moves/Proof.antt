-- `list_moves` meets its contract: each return is a fault at a place of `list_faults`, or the page (`Listing`).
use mathlib.Core.Logic.{inl}
use mathlib.Core.Path.{sym, ◌∙◌}
use native.Mathlib.Omega.{arith}
use Rattle.calls.proofs.Listing.{list-fault, list-short, list_done}
use borrow.Author.Rules.{rules}
use Rattle.calls.proofs.pages.list_moves.Statement.{statement}
use Rattle.calls.proofs.pages.list_moves.Tie as tie

returns : tie.Need-returns-in-Denied
returns c =
    list-fault _ _ _ _ _ _ (inl (sym c.ready-checked.ensures.verdict ∙ c.in-Denied.is)) c.refused.ensures

returns-2 : tie.Need-returns-then-target-most
returns-2 c =
    list-short _ _ _ _ _ (sym c.ready-checked.ensures.verdict ∙ c.in_default.is) c.page_count-most.ensures
    c.if-target-most.true c.refused-then-target-most.ensures

list-page-requires : tie.Need-list_page-requires
list-page-requires c κs =
    let said = c.ready-checked.ensures in
    (said.ready (sym said.verdict ∙ c.in_default.is), omega (arith, c.page_count-most.ensures), c.if-target-most.false)

returns-3 : tie.Need-returns
returns-3 c =
    list_done _ _ _ _ _ (sym c.ready-checked.ensures.verdict ∙ c.in_default.is)
    c.page_count-most.ensures
    c.if-target-most.false c.list_page.ensures

pub list_moves_spec : {M : Type 1} → statement M
list_moves_spec =
    tie.close
    (tie.spec
    (λ c κs. search rules)
    (λ c. search rules)
    (λ c κs. search rules)
    returns
    (λ c. search rules)
    (λ c κs. search rules)
    (λ c. omega (arith, c.page_count-most.ensures))
    (λ c κs. search rules)
    returns-2
    list-page-requires
    (λ c. search rules)
    returns-3)
