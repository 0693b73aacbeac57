-- The outline of a rule: what a verdict asks of it.
use Rattle.std.specs.Prelude.{◌≤◌, ◌≡◌, length, take}
use Rattle.semantics.specs.Table.{Rule, consumed, begins}
use Rattle.wellformed.specs.Tables.{LegalRule}
use Rattle.reaction.specs.declared.verdict.Outline.{Outline}

-- o is the outline of r
pub record Outlines (o : Outline) (r : Rule) : Type 0 where
  pub ports : take o.consumes o.ports ≡ consumed r
  pub count : o.count ≡ length r.atoms
  pub few : o.count ≤ 16
  pub class : o.class ≡ r.class
  pub begins : o.begins ≡ begins r
  pub legal : LegalRule o.consumes r
