-- What a decoded rule says.
use Rattle.std.specs.Prelude.{◌≤◌, ◌≡◌, length, take}
use Rattle.semantics.specs.Table as table
use Rattle.wellformed.specs.Tables.{LegalRule}
use Rattle.rules.specs.declared.decode.Rule.{Rule}

-- the code's rule x is the rule r
pub record Decodes (x : Rule) (r : table.Rule) : Type 0 where
  pub room : length x.atoms ≡ 16
  pub few : x.count ≤ 16
  pub atoms : take x.count x.atoms ≡ r.atoms
  pub class : x.class ≡ r.class
  pub begins : x.begins ≡ table.begins r
  pub consumes : x.consumes ≡ length (table.consumed r)
  pub legal : LegalRule x.consumes r
