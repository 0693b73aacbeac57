-- `check` meets its contract: the first fault counts.
use mathlib.Core.Path.{sym, ◌∙◌}
use borrow.Author.Rules.{rules}
use borrow.Author.Tests.{not-true, not-false}
use Rattle.semantics.specs.Answers.{state_own_verdict}
use Rattle.state_check.proofs.check.Statement.{statement}
use Rattle.state_check.proofs.check.Tie as tie

returns : tie.Need-returns-then-not-sizes_ok
unfolding state_own_verdict
returns c = rw (sym c.sizes_ok.ensures ∙ not-true _ c.if-not-sizes_ok.true-raw)

entries-ok-requires : tie.Need-entries_ok-requires
entries-ok-requires c κs = sym c.sizes_ok.ensures ∙ not-false _ c.if-not-sizes_ok.false-raw

returns-2 : tie.Need-returns-then-not-entries_ok
unfolding state_own_verdict
returns-2 c =
    rw (
      sym c.sizes_ok.ensures ∙ not-false _ c.if-not-sizes_ok.false-raw,
      sym c.entries_ok.ensures ∙ not-true _ c.if-not-entries_ok.true-raw,
    )

returns-3 : tie.Need-returns
unfolding state_own_verdict
returns-3 c =
    rw (
      sym c.sizes_ok.ensures ∙ not-false _ c.if-not-sizes_ok.false-raw,
      sym c.entries_ok.ensures ∙ not-false _ c.if-not-entries_ok.false-raw,
    )

pub check_spec : {M : Type 1} → statement M
check_spec = tie.close (tie.spec (λ c κs. search rules) returns entries-ok-requires returns-2 returns-3)
