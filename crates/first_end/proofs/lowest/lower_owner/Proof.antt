-- `lower_owner` meets its contract: the lowest is one lower than the definition's.
use borrow.Author.Rules.{rules}
use mathlib.Core.Path.{ap, ◌∙◌}
use Prim.Native.Nat.{ℕ, ◌+◌}
use Rattle.first_end.proofs.FirstIds.{lower-by-one}
use Rattle.first_end.proofs.lowest.lower_owner.Statement.{statement}
use Rattle.first_end.proofs.lowest.lower_owner.Tie as tie

returns : tie.Need-returns
returns c item origin =
    let a = c.args in
    ap (λ (k : ℕ). k + 1) c.lower_short.ensures ∙ lower-by-one _ a.low a.owner a.above (search rules) c.one_lower.ensures

pub lower_owner_spec : {M : Type 1} → statement M
lower_owner_spec = tie.close (tie.spec (λ c κs. search rules) (λ c κs. search rules) returns)
