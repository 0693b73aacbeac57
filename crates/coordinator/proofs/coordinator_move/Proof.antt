use mathlib.Core.Path.{◌∙◌}
use borrow.Author.Rules.{rules}
use Rattle.coordinator.proofs.coordinator_move.Statement.{statement}
use Rattle.coordinator.proofs.coordinator_move.Tie as tie

returns : tie.Need-returns
returns c =
    let e = c.make_move.ensures in
    (c.answer_of.ensures ∙ e.0, e.1)

pub coordinator_move_spec : {M : Type 1} → statement M
coordinator_move_spec = tie.close (tie.spec (λ c κs. search rules) (λ c κs. search rules) (λ c. search rules) returns)
