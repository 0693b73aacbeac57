-- `decode::value_of` meets its contract: by the test of the mode.
use borrow.Author.Tests.{eq-eqb, ne_eqb}
use mathlib.Core.Path.{sym, ◌∙◌}
use native.Mathlib.Omega.{arith}
use borrow.Author.Rules.{rules}
use Rattle.rules.proofs.decode.value_of.Statement.{statement}
use Rattle.rules.proofs.decode.value_of.Tie as tie

returns : tie.Need-returns-then-mode_of-eq1
returns c = rw (c.value_of-value.ensures, eq-eqb _ _ (sym c.mode_of.ensures ∙ c.if-mode_of-eq1.true))

returns-2 : tie.Need-returns-else-mode_of-eq1
returns-2 c = rw (c.value_of-value.ensures, ne_eqb _ _ (λ e. c.if-mode_of-eq1.false (c.mode_of.ensures ∙ e)))

pub value_of_spec : {M : Type 1} → statement M
value_of_spec = tie.close (tie.spec (λ c κs. search rules) (λ c. omega (arith, c.value_of-value.ensures)) (λ c κs. search rules) returns returns-2)
