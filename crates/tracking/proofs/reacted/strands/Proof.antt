-- `strands` meets its contract.
use mathlib.Core.Logic.{inl, inr}
use mathlib.Core.Path.{sym, ◌∙◌}
use borrow.Author.Rules.{rules}
use borrow.Author.Tests.{eqb-true, not-false}
use Rattle.tracking.proofs.reacted.strands.Statement.{statement}
use Rattle.tracking.proofs.reacted.strands.Tie as tie

returns : tie.Need-returns-then-marked
returns c e = inl (eqb-true _ 0 (sym c.is_global.ensures ∙ not-false _ e))

returns-2 : tie.Need-returns
returns-2 c e = inr c.if-marked.false

pub strands_spec : {M : Type 1} → statement M
strands_spec = tie.close (tie.spec (λ c κs. search rules) returns returns-2)
