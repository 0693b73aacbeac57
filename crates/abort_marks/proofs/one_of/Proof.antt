-- `one_of` meets its contract.
use mathlib.Core.Bool.{or-false}
use lib.Dec.{eqb}
use Rattle.abort_marks.proofs.one_of.Statement.{statement}
use Rattle.abort_marks.proofs.one_of.Tie as tie

pub one_of_spec : {M : Type 1} → statement M
one_of_spec = tie.close (tie.spec (λ c. rw (or-false (eqb c.args.id c.args.d))))
