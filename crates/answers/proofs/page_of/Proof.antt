-- `page_of` is the answer of the outcome, with the length.
use mathlib.Core.Path.{ap}
use Rattle.semantics.specs.declared.Answer.{Answer}
use Rattle.semantics.specs.declared.Page.{Page}
use borrow.Author.Rules.{rules}
use Rattle.answers.proofs.page_of.Statement.{statement}
use Rattle.answers.proofs.page_of.Tie as tie

returns : tie.Need-returns
returns c = ap {B = Page} (λ (a : Answer). record { number = a.number; words = a.words; length = c.args.listed.length }) c.answer_of-answer.ensures

pub page_of_spec : {M : Type 1} → statement M
page_of_spec = tie.close (tie.spec (λ c κs. search rules) returns)
