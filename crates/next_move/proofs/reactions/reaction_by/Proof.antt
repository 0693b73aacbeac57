-- `reaction_by` is the first reaction by the rule, whatever the choices are.
use mathlib.Core.Path.{sym, ap, ◌∙◌}
use borrow.Author.Tests.{not-true, not-false}
use Rattle.first_choice.specs.declared.Choice.{Choice}
use Rattle.next_move.proofs.Firsts.{choice-none, choice-found}
use borrow.Author.Rules.{rules}
use Rattle.next_move.proofs.reactions.reaction_by.Statement.{statement}
use Rattle.next_move.proofs.reactions.reaction_by.Tie as tie

returns : tie.Need-returns-then-not-choice
returns c =
    let a = c.args in
    λ cs e. c.none.ensures ∙ choice-none a.r cs (sym (ap (λ (x : Choice). x.found) e) ∙ not-true _ c.if-not-choice.true)

returns-2 : tie.Need-returns
returns-2 c =
    let a = c.args in
    λ cs e. rw e (choice-found a.r cs (sym (ap (λ (x : Choice). x.found) e) ∙ not-false _ c.if-not-choice.false))

pub reaction_by_spec : {M : Type 1} → statement M
reaction_by_spec = tie.close (tie.spec (λ c κs. search rules) returns returns-2)
