-- `clear` meets its contract: the column is filled with zeros from the front.
use borrow.Author.Rules.{rules}
use Prim.Native.Nat.{◌-◌}
use Rattle.lists.specs.Filled.{Filled, filled_none, filled_more, filled-all}
use Rattle.offers.proofs.totals.clear.Statement.{statement}
use Rattle.offers.proofs.totals.clear.Tie as tie

abbrev Inv : tie.invariant-loop-i
Inv totals₀ i₀ totals i = Filled 0 (λ p. 0) 512 i totals

abbrev μ : tie.decreases-loop-i
μ totals₀ i₀ totals i = 512 - i

pub clear_spec : {M : Type 1} → statement M
clear_spec =
    tie.close
    (tie.spec
    Inv μ
    (λ c. filled_none 0 _ c.requires)
    (λ c. search rules)
    (λ c. search rules)
    (λ c. search rules)
    (λ c. search rules)
    (λ c. filled_more 0 c.loop-i.invariant c.loop-i-test.true)
    (λ c. filled-all 0 c.loop-i.invariant c.loop-i-test.false))
