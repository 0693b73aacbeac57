use mathlib.Core.Path.{sym, ap}
use Rattle.semantics.specs.Answers.{answer_of}
use borrow.Author.Rules.{rules}
use Rattle.answers.proofs.answer_of.Statement.{statement}
use Rattle.answers.proofs.answer_of.Tie as tie

returns : tie.Need-returns-in-Passed
returns c = rw c.of_call.ensures (sym (ap answer_of c.in-Passed.is))

returns-2 : tie.Need-returns-in-Written
returns-2 c = rw c.of_call-in-Written.ensures (sym (ap answer_of c.in-Written.is))

returns-3 : tie.Need-returns-in-Moved
returns-3 c = rw c.of_call-in-Moved.ensures (sym (ap answer_of c.in-Moved.is))

returns-4 : tie.Need-returns-in-Refused
returns-4 c = rw (c.of_call-in-Refused.ensures, c.number_of.ensures) (sym (ap answer_of c.in-Refused.is))

returns-5 : tie.Need-returns-in-MoveRefused
returns-5 c = rw c.number_of-in-MoveRefused.ensures (sym (ap answer_of c.in-MoveRefused.is))

pub answer_of_spec : {M : Type 1} → statement M
answer_of_spec =
    tie.close
    (tie.spec
    (λ c. search rules) (λ c κs. search rules) (λ c. search rules) (λ c κs. search rules) (λ c. search rules) (λ c κs. search rules)
    (λ c. search rules) (λ c κs. search rules) (λ c κs. search rules) (λ c. search rules) (λ c κs. search rules)
    returns returns-2 returns-3 returns-4 returns-5)
