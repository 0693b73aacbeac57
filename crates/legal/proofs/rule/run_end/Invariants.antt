-- all atoms so far are of the role, and right
use Rattle.lists.specs.Runs.{in_run, Skipping}
use Rattle.semantics.specs.Words.{atom_role}
use Rattle.semantics.specs.Table.{atom_ok}
use Rattle.legal.proofs.rule.run_end.Given as goal

abbrev pub invariant-loop-i : goal.invariant-loop-i
invariant-loop-i l = Skipping (in_run atom_role (atom_ok l.z l.s) l.role) l.ws l.from l.i
