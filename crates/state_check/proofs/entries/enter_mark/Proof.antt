-- `enter_mark` meets its contract: a mark that fits and is new goes into the sets.
use mathlib.Core.Path.{sym, ap, ◌∙◌}
use mathlib.Core.Bool.{not}
use borrow.Author.Rules.{rules}
use borrow.Author.Tests.{eq-eqb, not-true, not-false}
use Rattle.state_check.proofs.Marks.{entering, unfit, not_new, entered-mark, entered-own, new-mark}
use Rattle.state_check.proofs.entries.enter_mark.Statement.{statement}
use Rattle.state_check.proofs.entries.enter_mark.Tie as tie

returns : tie.Need-returns-then-not-mark_fits
returns c = λ place. unfit (sym (c.mark_fits.ensures place) ∙ not-true _ c.if-not-mark_fits.true-raw)

returns-2 : tie.Need-returns-then-has
returns-2 c =
    let value = c.value_of-value.ensures in
    let mark = eq-eqb _ 3 c.requires.0 in
    λ place. not_new (new-mark _ _ mark ∙ ap not (rw value at (sym c.has.ensures ∙ c.if-has.true)))

returns-3 : tie.Need-returns-then-value-owner
returns-3 c =
    let value = c.value_of-value.ensures in
    let mark = eq-eqb _ 3 c.requires.0 in
    λ place. entering (sym (c.mark_fits.ensures place) ∙ not-false _ c.if-not-mark_fits.false-raw)
    (new-mark _ _ mark ∙ ap not (rw value at (sym c.has.ensures ∙ c.if-has.false)))
    (entered-mark mark (rw value at c.insert.ensures) (rw value at c.if-value-owner.true) c.requires.2)

returns-4 : tie.Need-returns
returns-4 c =
    let value = c.value_of-value.ensures in
    let mark = eq-eqb _ 3 c.requires.0 in
    λ place. entering (sym (c.mark_fits.ensures place) ∙ not-false _ c.if-not-mark_fits.false-raw)
    (new-mark _ _ mark ∙ ap not (rw value at (sym c.has.ensures ∙ c.if-has.false)))
    (entered-own mark (rw value at c.insert.ensures) (rw value at c.if-value-owner.false) (rw value at c.insert-2.ensures))

pub enter_mark_spec : {M : Type 1} → statement M
enter_mark_spec =
    tie.close
    (tie.spec (λ c κs. search rules) returns (λ c κs. search rules) (λ c κs. search rules) returns-2
    (λ c κs. search rules) returns-3 (λ c κs. search rules) returns-4)
