-- no atom so far is of another role
use Rattle.lists.specs.Runs.{Skipping}
use Rattle.semantics.specs.Table.{is_role}
use Rattle.legal.proofs.rule.consumes_of.Given as goal

abbrev pub invariant-loop-i : goal.invariant-loop-i
invariant-loop-i l = Skipping (is_role 0) l.ws 0 l.i
