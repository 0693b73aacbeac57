use mathlib.Core.Path.{sym, ◌∙◌}
use borrow.Author.Rules.{rules}
use Rattle.preview.proofs.preview_formed.Statement.{statement}
use Rattle.preview.proofs.preview_formed.Tie as tie

pub preview_formed_spec : {M : Type 1} → statement M
preview_formed_spec =
    tie.close
    (tie.spec
    (λ c κs. search rules)
    (λ c κs. (c.requires.0, (c.requires.1, sym c.kind_of.ensures ∙ c.if-kind_of-eq-REACT.true)))
    (λ c. c.preview_reaction.ensures)
    (λ c κs. (c.requires.1, λ e. c.if-kind_of-eq-REACT.false (c.kind_of.ensures ∙ e)))
    (λ c. c.preview_end.ensures))
