use mathlib.Core.Path.{◌∙◌}
use borrow.Author.Rules.{rules}
use Rattle.coordinator.proofs.coordinator_list_moves.Statement.{statement}
use Rattle.coordinator.proofs.coordinator_list_moves.Tie as tie

returns : tie.Need-returns
returns c =
    let e = c.list_moves.ensures in
    (c.page_of.ensures ∙ e.0, e.1)

pub coordinator_list_moves_spec : {M : Type 1} → statement M
coordinator_list_moves_spec = tie.close (tie.spec (λ c κs. search rules) (λ c κs. search rules) (λ c. search rules) returns)
