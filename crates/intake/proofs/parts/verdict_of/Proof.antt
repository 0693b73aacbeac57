-- `verdict_of` meets its contract: each return is a fault at its place, or there is none.
use mathlib.Core.Path.{sym, ◌∙◌}
use borrow.Author.Tests.{not-true, not-false}
use borrow.Author.Rules.{rules}
use Rattle.intake.proofs.parts.verdict_of.Statement.{statement}
use Rattle.intake.proofs.parts.verdict_of.Tie as tie

returns : tie.Need-returns-in-Denied
returns c = rw c.in-Denied.is

returns-2 : tie.Need-returns-then-not-sizes_ok
returns-2 c = rw (c.in_default.is, sym c.sizes_ok.ensures ∙ not-true _ c.if-not-sizes_ok.true-raw)

returns-3 : tie.Need-returns-then-not-whole
returns-3 c =
    rw (
      c.in_default.is,
      sym c.sizes_ok.ensures ∙ not-false _ c.if-not-sizes_ok.false-raw,
      not-true c.args.whole c.if-not-whole.true-raw,
    )

returns-4 : tie.Need-returns
returns-4 c =
    rw (
      c.in_default.is,
      sym c.sizes_ok.ensures ∙ not-false _ c.if-not-sizes_ok.false-raw,
      not-false c.args.whole c.if-not-whole.false-raw,
    )

pub verdict_of_spec : {M : Type 1} → statement M
verdict_of_spec =
    tie.close
    (tie.spec
    (λ c. search rules)
    returns
    (λ c. search rules)
    (λ c κs. search rules)
    returns-2
    returns-3
    returns-4)
