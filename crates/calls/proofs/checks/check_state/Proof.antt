use Rattle.calls.proofs.Answers.{state-answer}
use borrow.Author.Rules.{rules}
use Rattle.calls.proofs.checks.check_state.Statement.{statement}
use Rattle.calls.proofs.checks.check_state.Tie as tie

returns : tie.Need-returns
returns c = state-answer _ _ _ _ c.ready.ensures.verdict c.outcome_of_check.ensures

pub check_state_spec : {M : Type 1} → statement M
check_state_spec = tie.close (tie.spec (λ c κs. search rules) (λ c κs. search rules) returns)
