-- `after_move` meets its contract.
use mathlib.Core.Path.{sym, ◌∙◌}
use borrow.Author.Rules.{rules}
use Rattle.tracking.proofs.reacted.after_move.Statement.{statement}
use Rattle.tracking.proofs.reacted.after_move.Tie as tie

follow-reaction-requires : tie.Need-follow_reaction-requires
follow-reaction-requires c κs =
    rw c.number_of-rule.ensures (c.requires.reaction (sym c.kind_of.ensures ∙ c.if-kind_of-eq-REACT.true))

returns-2 : tie.Need-returns-else-kind_of-eq-REACT
returns-2 c = c.requires.ended (λ e. c.if-kind_of-eq-REACT.false (c.kind_of.ensures ∙ e))

pub after_move_spec : {M : Type 1} → statement M
after_move_spec =
    tie.close (tie.spec (λ c κs. search rules) (λ c κs. search rules) follow-reaction-requires (λ c. search rules) returns-2)
