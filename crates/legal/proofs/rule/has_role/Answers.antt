use Rattle.std.proofs.Common.{rules, tests}
use Rattle.std.proofs.lemmas.Iterator.{YieldsList-from_slice}
use Rattle.std.proofs.lemmas.Iterator.Search.{any_from_yields_List}
use Rattle.semantics.specs.Table.{is_role}
use Rattle.legal.proofs.rule.has_role.Goals as goal

pub returns : goal.returns
returns c =
    any_from_yields_List (is_role c.args.role) _ _ c.any.result c.any.ensures.ran (YieldsList-from_slice c.args.ws.now cc) (λ x b q k. search (rules, tests))
