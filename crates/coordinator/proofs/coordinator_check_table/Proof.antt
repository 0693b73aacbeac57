use mathlib.Core.Path.{◌∙◌}
use borrow.Author.Rules.{rules}
use Rattle.coordinator.proofs.coordinator_check_table.Statement.{statement}
use Rattle.coordinator.proofs.coordinator_check_table.Tie as tie

returns : tie.Need-returns
returns c = c.answer_of.ensures ∙ c.check_table.ensures

pub coordinator_check_table_spec : {M : Type 1} → statement M
coordinator_check_table_spec = tie.close (tie.spec (λ c κs. search rules) (λ c κs. search rules) returns)
