-- `answer_in` meets its contract: the refusals are too many for `search` to close the second return by itself.
use mathlib.Core.Path.{sym, ap, ◌∙◌}
use Rattle.run.specs.Lines.{answer_in}
use borrow.Author.Rules.{rules}
use Rattle.run.proofs.trace.answer_in.Statement.{statement}
use Rattle.run.proofs.trace.answer_in.Tie as tie

returns-2 : tie.Need-returns-in-Denied
returns-2 c = c.number_of.ensures ∙ sym (ap answer_in c.in-Denied.is)

pub answer_in_spec : {M : Type 1} → statement M
answer_in_spec = tie.close (tie.spec (λ c. search rules) (λ c. search rules) (λ c κs. search rules) (λ c. search rules) returns-2)
