-- `value_made` meets its contract: by the role, then by where the value comes from.
use mathlib.Core.Path.{sym, ◌∙◌}
use mathlib.Core.List.{map}
use native.Mathlib.Omega.{arith}
use borrow.Author.Rules.{rules}
use borrow.Author.Tests.{eq-eqb, ne_eqb}
use lib.ListN.{length-map, get_or-map, get_or-eq_default}
use Rattle.semantics.specs.Words.{value_of}
use Rattle.products.proofs.append.value_made.Statement.{statement}
use Rattle.products.proofs.append.value_made.Tie as tie

returns : tie.Need-returns-then-atom-eq2
returns c = (rw (eq-eqb _ _ c.if-atom-eq2.true), c.requires.1 c.if-atom-eq2.true)

returns-2 : tie.Need-returns-in-Constant
returns-2 c =
    let constant = c.in-Constant.is in
    (rw (ne_eqb _ _ c.if-atom-eq2.false, constant), rw constant at c.requires.0)

returns-3 : tie.Need-returns-then-i-lt4
returns-3 c =
    let received = c.in-Received.is in
    let items = c.args.items.now in (
      rw (ne_eqb _ _ c.if-atom-eq2.false, received) (c.value_of.ensures ∙ sym (get_or-map value_of items _ 0)),
      omega (arith, c.value_of.ensures),
    )

returns-4 : tie.Need-returns-else-i-lt4
returns-4 c =
    let received = c.in-Received.is in
    let items = c.args.items.now in (
      rw (ne_eqb _ _ c.if-atom-eq2.false, received)
          (sym (get_or-eq_default (map value_of items) 0 (omega (arith, length-map items value_of)))),
      search rules,
    )

pub value_made_spec : {M : Type 1} → statement M
value_made_spec =
    tie.close
    (tie.spec returns (λ c. search rules) (λ c. search rules) (λ c. search rules) (λ c. search rules) (λ c. search rules) (λ c. search rules)
    (λ c κs. search rules)
    returns-2 returns-3 returns-4)
