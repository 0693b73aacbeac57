-- `enter` meets its contract: what is asked of an entry goes by its kind.
use mathlib.Core.Path.{sym, ◌∙◌}
use borrow.Author.Rules.{rules}
use borrow.Author.Tests.{eq-eqb, ne_eqb}
use Rattle.state_check.proofs.Marks.{enter-message, enter-mark, enter-other}
use Rattle.state_check.proofs.entries.enter.Statement.{statement}
use Rattle.state_check.proofs.entries.enter.Tie as tie

returns : tie.Need-returns-then-message_fits
returns c = λ place. enter-message _ _ _ (sym (c.message_fits.ensures place) ∙ c.if-message_fits.true) c.requires.0 c.requires.1

returns-2 : tie.Need-returns-then-kind_of-eq-MEMBER_MARK
returns-2 c =
    λ place. enter-mark _ _ _ (sym (c.message_fits.ensures place) ∙ c.if-message_fits.false)
    (eq-eqb _ 3 (sym c.kind_of.ensures ∙ c.if-kind_of-eq-MEMBER_MARK.true)) (c.enter_mark.ensures place)

returns-3 : tie.Need-returns
returns-3 c =
    let start = c.requires in
    λ place. enter-other _ _ _ (sym (c.message_fits.ensures place) ∙ c.if-message_fits.false)
    (ne_eqb _ 3 (λ q. c.if-kind_of-eq-MEMBER_MARK.false (c.kind_of.ensures ∙ q))) (c.other_fits.ensures place) start.0 start.1

pub enter_spec : {M : Type 1} → statement M
enter_spec =
    tie.close
    (tie.spec (λ c κs. search rules) returns (λ c κs. search rules) (λ c κs. search rules) returns-2
    (λ c κs. search rules) returns-3)
