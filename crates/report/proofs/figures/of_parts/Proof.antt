-- `of_parts` meets its contract (`Laws`).
use Prim.Native.Nat.{ℕ}
use mathlib.Core.Path.{refl}
use native.Mathlib.Omega.{arith}
use borrow.Author.Rules.{rules}
use lib.ListN.{length-replicate}
use Rattle.wellformed.specs.States as States
use Rattle.report.proofs.Laws.{traceable, shows}
use Rattle.report.proofs.figures.of_parts.Statement.{statement}
use Rattle.report.proofs.figures.of_parts.Tie as tie

trace-requires : tie.Need-trace-count-requires
trace-requires c κs =
    let pre = c.requires in
    traceable pre.0 _ pre.1.sizes c.load-at.ensures (length-replicate {A = ℕ} 4096 0)

shared-slice-read-t24 : tie.Need-bounds-state-0
shared-slice-read-t24 c =
    let pre = c.requires in
    omega (arith, (States.state-sized _ pre.1.sizes).size)

shared-slice-read-t26 : tie.Need-bounds-state-1
shared-slice-read-t26 c =
    let pre = c.requires in
    omega (arith, (States.state-sized _ pre.1.sizes).size)

returns : tie.Need-returns
returns c =
    let (room, shown) = shows _ _ _ c.load-at.ensures _ c.trace-count.ensures refl refl refl in
    (refl, room, shown)

pub of_parts_spec : {M : Type 1} → statement M
of_parts_spec =
    tie.close
    (tie.spec (λ c κs. search rules) (λ c κs. search rules) (λ c. search rules) trace-requires (λ c. search rules) shared-slice-read-t24
    shared-slice-read-t26 returns)
