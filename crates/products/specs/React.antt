-- What a reaction asks of the columns that are lent to it.
use Rattle.std.specs.Prelude.{ℕ, ◌≤◌, ◌≡◌, List, take}
use Rattle.semantics.specs.declared.Verdict.TheVariants.{Allowed}
use Rattle.rules.specs.declared.decode.Rule.{Rule}
use Rattle.state.specs.declared.State.{State}
use Rattle.state.specs.Working.{state_in}
use Rattle.state.specs.Arrays.{Arrays}
use Rattle.reaction.specs.Decoded.{rule_in}
use Rattle.reaction.specs.Verdict.{react_verdict}
use Rattle.products.specs.Narrow.{Applicable}

-- the rule may react at these picks, as this maker
pub record Permitted (x : Rule) (picks : List ℕ) (maker : ℕ) (s : State) : Type 0 where
  pub arrays : Arrays s.owners s.items s.origins
  pub fits : s.len ≤ 1024
  pub ready : Applicable x s.next maker
  pub verdict : react_verdict 1024 (rule_in x) (state_in s) (take x.consumes picks) ≡ Allowed
