-- `go_and_tell` tells what `go_alone` did.
use native.Mathlib.Omega.{arith}
use mathlib.Core.Path.{refl, ap, ◌∙◌}
use lib.ListN.{length}
use Rattle.semantics.specs.Table.{table_of}
use Rattle.semantics.specs.State.{state_of}
use Rattle.semantics.specs.Answers.{alone_moves}
use Rattle.enabled.specs.Alone.{moves-within}
use Rattle.unattended.proofs.Start.{log-fits}
use Rattle.unattended.proofs.Calling.{told-as}
use Rattle.unattended.proofs.call.go_and_tell.Statement.{statement}
use Rattle.unattended.proofs.call.go_and_tell.Tie as tie

same_length : tie.Need-shape_of-target
same_length c =
    let a = c.args in
    ap length c.go_alone-gone.ensures.log
    ∙ log-fits (alone_moves 1024 a.table.now a.state.now a.budget) a.budget a.target.now
    (moves-within 1024 (table_of a.table.now) a.budget 0 (state_of a.state.now)) c.requires.2

pub go_and_tell_spec : {M : Type 1} → statement M
go_and_tell_spec =
    tie.close
    (tie.spec
    (λ c κs. c.requires)
    (λ c. omega (arith, c.go_alone-gone.ensures.few, c.requires.1))
    (λ c. omega (arith, c.go_alone-gone.ensures.few, c.requires.1))
    (λ c. omega (arith, c.go_alone-gone.ensures.few, c.requires.1))
    (λ c. omega (arith, c.go_alone-gone.ensures.few, c.requires.1))
    same_length
    (λ c. told-as c.go_alone-gone.ensures refl refl))
