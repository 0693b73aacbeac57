use mathlib.Core.Path.{◌∙◌}
use borrow.Author.Rules.{rules}
use Rattle.coordinator.proofs.coordinator_preview.Statement.{statement}
use Rattle.coordinator.proofs.coordinator_preview.Tie as tie

returns : tie.Need-returns
returns c = c.preview_of.ensures ∙ c.preview.ensures

pub coordinator_preview_spec : {M : Type 1} → statement M
coordinator_preview_spec = tie.close (tie.spec (λ c κs. search rules) (λ c κs. search rules) returns)
