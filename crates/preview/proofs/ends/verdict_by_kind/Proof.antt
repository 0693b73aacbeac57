use borrow.Author.Rules.{rules}
use borrow.Author.Tests.{ne_eqb}
use mathlib.Core.Path.{◌∙◌}
use Rattle.ending.specs.End.{end_verdict}
use Rattle.preview.proofs.ends.verdict_by_kind.Statement.{statement}
use Rattle.preview.proofs.ends.verdict_by_kind.Tie as tie

returns : tie.Need-returns-then-kind-eq-COMMIT
returns c gs = rw c.if-kind-eq-COMMIT.true (c.end_verdict.ensures gs)

-- any kind but a commit's is an abort
returns-2 : tie.Need-returns
unfolding end_verdict
returns-2 c gs = c.end_verdict-2.ensures gs ∙ rw (ne_eqb _ 1 c.if-kind-eq-COMMIT.false)

pub verdict_by_kind_spec : {M : Type 1} → statement M
verdict_by_kind_spec = tie.close (tie.spec (λ c κs. search rules) returns (λ c κs. search rules) returns-2)
