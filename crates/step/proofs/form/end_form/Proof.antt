use borrow.Author.Rules.{rules}
use Rattle.step.proofs.form.end_form.Statement.{statement}
use Rattle.step.proofs.form.end_form.Tie as tie

pub end_form_spec : {M : Type 1} → statement M
end_form_spec =
    tie.close
    (tie.spec (λ c κs. search rules) (λ c κs. search rules) (λ c κs. search rules)
    (λ c. rw (c.unused_zero.ensures, c.kind_of.ensures, c.number_of-id.ensures)))
