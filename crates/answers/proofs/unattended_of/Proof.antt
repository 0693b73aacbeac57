-- `unattended_of` is the answer of the outcome, with the moves and how the run ended.
use mathlib.Core.Path.{ap, ◌∙◌}
use Rattle.semantics.specs.declared.Answer.{Answer}
use Rattle.semantics.specs.declared.Unattended.{Unattended}
use borrow.Author.Rules.{rules}
use Rattle.answers.proofs.unattended_of.Statement.{statement}
use Rattle.answers.proofs.unattended_of.Tie as tie

returns : tie.Need-returns
returns c =
    let l = c.args.left in
    let still = c.one_if.result in
    ap {B = Unattended} (λ (a : Answer). record { number = a.number; words = a.words; moves = l.moves; still = still }) c.answer_of-answer.ensures
    ∙ rw c.one_if.ensures

pub unattended_of_spec : {M : Type 1} → statement M
unattended_of_spec = tie.close (tie.spec (λ c κs. search rules) (λ c κs. search rules) returns)
