use borrow.Author.Rules.{rules}
use mathlib.Core.Path.{sym, ◌∙◌}
use Rattle.recording.proofs.ends.begun_by.Statement.{statement}
use Rattle.recording.proofs.ends.begun_by.Tie as tie

pub begun_by_spec : {M : Type 1} → statement M
begun_by_spec =
    tie.close
    (tie.spec (λ c κs. search rules) (λ c κs. search rules) (λ c. rw (sym c.is_mark.ensures ∙ c.if-is_mark.true)
    c.maker_of.ensures) (λ c. rw (sym c.is_mark.ensures ∙ c.if-is_mark.false)))
