use mathlib.Core.Path.{sym, ap}
use Rattle.semantics.specs.Answers.{outcome_of_check}
use borrow.Author.Rules.{rules}
use Rattle.calls.proofs.checks.outcome_of_check.Statement.{statement}
use Rattle.calls.proofs.checks.outcome_of_check.Tie as tie

returns-2 : tie.Need-returns-in-Denied
returns-2 c = sym (ap outcome_of_check c.in-Denied.is)

pub outcome_of_check_spec : {M : Type 1} → statement M
outcome_of_check_spec = tie.close (tie.spec (λ c. search rules) (λ c. search rules) (λ c. search rules) returns-2)
