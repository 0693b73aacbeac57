-- `add_if` meets its contract: v is added where it is in the set.
use mathlib.Core.Path.{◌≡◌, sym, ◌∙◌}
use mathlib.Core.Bool.{true}
use borrow.Author.Rules.{rules}
use borrow.Author.Tests.{not-true, not-false}
use Rattle.idset.specs.IdSet.{has}
use Rattle.transactions.proofs.Collecting.{not-added, added}
use Rattle.transactions.proofs.ids.add_if.Statement.{statement}
use Rattle.transactions.proofs.ids.add_if.Tie as tie

returns : tie.Need-returns-then-not-has
returns c =
    rw (sym c.has.ensures ∙ not-true _ c.if-not-has.true-raw) (not-added _ _ c.requires.1 c.requires.2)

member : (c : tie.Else-not-has) → has c.args.set.now c.args.v ≡ true
member c = sym c.has.ensures ∙ not-false _ c.if-not-has.false-raw

returns-2 : tie.Need-returns
returns-2 c =
    rw (member c.before) (added _ _ _ c.requires.1 (c.requires.3 (member c.before)))

pub add_if_spec : {M : Type 1} → statement M
add_if_spec =
    tie.close
    (tie.spec
    (λ c κs. search rules) returns (λ c. search rules) (λ c. search rules) (λ c. c.requires.3 (member c.before))
    (λ c. search rules) returns-2)
