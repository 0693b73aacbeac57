use mathlib.Core.Path.{sym, ap}
use Rattle.semantics.specs.Answers.{preview_answer}
use borrow.Author.Rules.{rules}
use Rattle.answers.proofs.preview_of.Statement.{statement}
use Rattle.answers.proofs.preview_of.Tie as tie

returns : tie.Need-returns-in-Accepted
returns c = sym (ap preview_answer c.in-Accepted.is)

returns-2 : tie.Need-returns-in-Rejected
returns-2 c = rw (c.no_figures.ensures, c.number_of.ensures) (sym (ap preview_answer c.in-Rejected.is))

pub preview_of_spec : {M : Type 1} → statement M
preview_of_spec = tie.close (tie.spec (λ c. search rules) (λ c. search rules) (λ c κs. search rules) (λ c κs. search rules) returns returns-2)
