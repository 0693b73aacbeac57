use mathlib.Core.Path.{◌∙◌}
use borrow.Author.Rules.{rules}
use Rattle.coordinator.proofs.coordinator_check_state.Statement.{statement}
use Rattle.coordinator.proofs.coordinator_check_state.Tie as tie

returns : tie.Need-returns
returns c = c.answer_of.ensures ∙ c.check_state.ensures

pub coordinator_check_state_spec : {M : Type 1} → statement M
coordinator_check_state_spec = tie.close (tie.spec (λ c κs. search rules) (λ c κs. search rules) returns)
