-- `verdict::check` meets its contract: each answer by the tests that led to it (`Whole`).
use mathlib.Core.Bool.{true, false}
use mathlib.Core.Path.{sym, ◌∙◌}
use borrow.Author.Rules.{rules}
use borrow.Author.Tests.{not-true, not-false}
use Rattle.wellformed.specs.Tables.{table-sized}
use Rattle.table.proofs.Whole.{sizes-wrong, sizes-right}
use Rattle.table.proofs.verdict.check.Statement.{statement}
use Rattle.table.proofs.verdict.check.Tie as tie

returns : tie.Need-returns-then-not-sizes_ok
returns c = sizes-wrong _ _ c.requires (sym c.sizes_ok.ensures ∙ not-true _ c.if-not-sizes_ok.true-raw)

contents-ok-requires : tie.Need-contents_ok-requires
contents-ok-requires c κs =
    (table-sized _ (sym c.sizes_ok.ensures ∙ not-false _ c.if-not-sizes_ok.false-raw), c.requires)

returns-2 : tie.Need-returns-then-not-contents_ok
returns-2 c =
    sizes-right _ _ false (sym c.sizes_ok.ensures ∙ not-false _ c.if-not-sizes_ok.false-raw) c.contents_ok.ensures (not-true _ c.if-not-contents_ok.true-raw)

returns-3 : tie.Need-returns
returns-3 c =
    sizes-right _ _ true (sym c.sizes_ok.ensures ∙ not-false _ c.if-not-sizes_ok.false-raw) c.contents_ok.ensures (not-false _ c.if-not-contents_ok.false-raw)

pub check_spec : {M : Type 1} → statement M
check_spec = tie.close (tie.spec (λ c κs. search rules) returns contents-ok-requires returns-2 returns-3)
