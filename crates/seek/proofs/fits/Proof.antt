-- `fits` meets its contract: the set is looked at only where the rest holds.
use mathlib.Core.Path.{sym, ap, ◌∙◌}
use mathlib.Core.Bool.{not}
use borrow.Author.Rules.{rules}
use borrow.Author.Tests.{not-true, not-false}
use Rattle.lists.specs.Tests.{false-and, true-and}
use Rattle.seek.proofs.fits.Statement.{statement}
use Rattle.seek.proofs.fits.Tie as tie

returns : tie.Need-returns-then-not-may_fit
returns c = sym (false-and _ (sym c.may_fit.ensures ∙ not-true _ c.if-not-may_fit.true-raw))

returns-2 : tie.Need-returns
returns-2 c =
    ap not c.has.ensures ∙ sym (true-and _ (sym c.may_fit.ensures ∙ not-false _ c.if-not-may_fit.false-raw))

pub fits_spec : {M : Type 1} → statement M
fits_spec = tie.close (tie.spec (λ c κs. search rules) returns (λ c κs. search rules) returns-2)
