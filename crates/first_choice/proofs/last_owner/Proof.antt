-- `last_owner`: the two cases.
use mathlib.Core.Path.{sym}
use borrow.Author.Tests.{eq-eqb, ne_eqb}
use Rattle.lists.specs.Choices.{cond-true, cond-false}
use Rattle.first_choice.proofs.last_owner.Statement.{statement}
use Rattle.first_choice.proofs.last_owner.Tie as tie

pub last_owner_spec : {M : Type 1} → statement M
last_owner_spec =
    tie.close
    (tie.spec (λ c. sym (cond-true _ _ (eq-eqb _ _ c.if-class-eq0.true))) (λ c. sym (cond-false _ _ (ne_eqb _ _ c.if-class-eq0.false))))
