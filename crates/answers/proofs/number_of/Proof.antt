-- `number_of` meets its contract, variant by variant: they are too many for `search` to close the returns by itself.
use mathlib.Core.Path.{sym, ap}
use borrow.Author.Rules.{rules}
use Rattle.semantics.specs.Answers.{number}
use Rattle.answers.proofs.number_of.Statement.{statement}
use Rattle.answers.proofs.number_of.Tie as tie

pub number_of_spec : {M : Type 1} → statement M
number_of_spec =
    tie.close
    (tie.spec
    (λ c. search rules) (λ c. search rules) (λ c. search rules) (λ c. search rules) (λ c. search rules) (λ c. search rules) (λ c. search rules)
    (λ c. search rules) (λ c. search rules) (λ c. search rules) (λ c. search rules) (λ c. search rules) (λ c. search rules) (λ c. search rules)
    (λ c. search rules) (λ c. search rules) (λ c. search rules) (λ c. search rules)
    (λ c. sym (ap number c.in-TableSizes.is)) (λ c. sym (ap number c.in-TableContents.is)) (λ c. sym (ap number c.in-StateSizes.is))
    (λ c. sym (ap number c.in-StateContents.is)) (λ c. sym (ap number c.in-MoveForm.is)) (λ c. sym (ap number c.in-TargetTooShort.is))
    (λ c. sym (ap number c.in-WrongPick.is)) (λ c. sym (ap number c.in-WrongOwner.is)) (λ c. sym (ap number c.in-NoTransaction.is))
    (λ c. sym (ap number c.in-EndNotAllowed.is)) (λ c. sym (ap number c.in-NoMoreIds.is)) (λ c. sym (ap number c.in-TooManyEntries.is))
    (λ c. sym (ap number c.in-LogSizes.is)) (λ c. sym (ap number c.in-BeginEmits.is)) (λ c. sym (ap number c.in-TransactionOpen.is))
    (λ c. sym (ap number c.in-SerialTooManyEntries.is)) (λ c. sym (ap number c.in-TransactionAborting.is)) (λ c. sym (ap number c.in-BudgetTooLarge.is)))
