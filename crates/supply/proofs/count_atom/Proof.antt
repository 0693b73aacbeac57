-- `count_atom` meets its contract.
use mathlib.Core.Path.{sym, ◌∙◌}
use native.Mathlib.Omega.{arith}
use borrow.Author.Rules.{rules}
use borrow.Author.Tests.{not-true, not-false}
use Rattle.supply.proofs.Totals.{one-there, counted-less, counted-more, counted_none}
use Rattle.supply.proofs.count_atom.Statement.{statement}
use Rattle.supply.proofs.count_atom.Tie as tie

sub-totals : tie.Need-overflow_sub-totals
sub-totals c =
    one-there _ c.args.totals.now c.port_of-port.ensures (sym c.role_of.ensures ∙ c.if-role_of-eq0.true) c.requires.1

returns : tie.Need-returns-then-role_of-eq0
returns c =
    counted-less _ _ _ _ c.port_of-port.ensures c.requires.0 (sym c.role_of.ensures ∙ c.if-role_of-eq0.true) c.requires.1

returns-2 : tie.Need-returns-then-not-supplies_any
returns-2 c =
    counted_none _ _ _ _ c.requires.0 (λ e. c.if-role_of-eq0.false (c.role_of.ensures ∙ e))
    (sym c.supplies_any.ensures ∙ not-true _ c.if-not-supplies_any.true-raw)

add-totals : tie.Need-overflow_add-totals
add-totals c =
    rw c.port_of-port.ensures (omega (arith, c.requires.2))

returns-3 : tie.Need-returns
returns-3 c =
    counted-more _ _ _ _ c.port_of-port.ensures c.requires.0
    (λ e. c.if-role_of-eq0.false (c.role_of.ensures ∙ e))
    (sym c.supplies_any.ensures ∙ not-false _ c.if-not-supplies_any.false-raw)

pub count_atom_spec : {M : Type 1} → statement M
count_atom_spec =
    tie.close
    (tie.spec
    (λ c κs. search rules)
    (λ c. search rules)
    (λ c κs. search rules)
    (λ c. search rules)
    (λ c. search rules)
    sub-totals
    (λ c. search rules)
    returns
    (λ c κs. search rules)
    returns-2
    (λ c. search rules)
    (λ c. search rules)
    add-totals
    (λ c. search rules)
    returns-3)
