use borrow.Author.Rules.{rules}
use mathlib.Core.Path.{sym, ◌∙◌}
use borrow.Author.Tests.{eq-eqb, ne_eqb}
use Rattle.recording.proofs.record.concerned.Statement.{statement}
use Rattle.recording.proofs.record.concerned.Tie as tie

pub concerned_spec : {M : Type 1} → statement M
concerned_spec =
    tie.close
    (tie.spec (λ c κs. search rules) (λ c. search rules) (λ c κs. search rules) (λ c. search rules) (λ c κs. search rules)
    (λ c. rw (eq-eqb _ _ (sym c.kind_of.ensures ∙ c.if-kind_of-eq-REACT.true)) c.half_at.ensures)
    (λ c. rw (ne_eqb _ _ (λ e. c.if-kind_of-eq-REACT.false (c.kind_of.ensures ∙ e))) c.number_of.ensures))
