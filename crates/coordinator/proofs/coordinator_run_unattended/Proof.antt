use mathlib.Core.Path.{◌∙◌}
use borrow.Author.Rules.{rules}
use Rattle.coordinator.proofs.coordinator_run_unattended.Statement.{statement}
use Rattle.coordinator.proofs.coordinator_run_unattended.Tie as tie

returns : tie.Need-returns
returns c =
    let e = c.run_unattended.ensures in
    (c.unattended_of.ensures ∙ e.0, e.1)

pub coordinator_run_unattended_spec : {M : Type 1} → statement M
coordinator_run_unattended_spec = tie.close (tie.spec (λ c κs. search rules) (λ c κs. search rules) (λ c. search rules) returns)
