use Rattle.calls.proofs.Answers.{table-answer}
use borrow.Author.Rules.{rules}
use Rattle.calls.proofs.checks.check_table.Statement.{statement}
use Rattle.calls.proofs.checks.check_table.Tie as tie

returns : tie.Need-returns
returns c = table-answer _ _ _ c.check.ensures.verdict c.outcome_of_check.ensures

pub check_table_spec : {M : Type 1} → statement M
check_table_spec = tie.close (tie.spec (λ c κs. search rules) (λ c κs. search rules) returns)
