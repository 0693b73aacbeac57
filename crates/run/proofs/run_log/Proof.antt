-- `run_log` meets its contract: at place i the moves before it have led to the state in the columns, and the tally is theirs.
use Prim.Native.Nat.{◌-◌, ◌≤◌, ◌<◌}
use mathlib.Core.Path.{◌≡◌, refl}
use native.Mathlib.Omega.{arith}
use borrow.Author.Rules.{rules}
use Rattle.semantics.specs.Table.{table_of}
use Rattle.semantics.specs.Log.{move_count}
use Rattle.state.specs.Working.{held}
use Rattle.run.specs.Runs.{Prepared, reached-refused, reached-end}
use Rattle.run.specs.Tallies.{TallyAt, tally-at-start, tally-room, tally-few, tally-at-made, tally-at-refused, tally-at-end}
use Rattle.run.proofs.run_log.Statement.{statement}
use Rattle.run.proofs.run_log.Tie as tie

abbrev Inv : tie.invariant-loop-i
Inv table starts owners₀ items₀ origins₀ log ceiling moves left₀ tally₀ i₀ owners items origins left tally i =
    Prepared table starts log
    × (moves ≡ move_count log)
    × TallyAt ceiling (table_of table) log (held owners₀ items₀ origins₀ left₀) i (held owners items origins left) tally

abbrev μ : tie.decreases-loop-i
μ table starts owners₀ items₀ origins₀ log ceiling moves left₀ tally₀ i₀ owners items origins left tally i = moves - i

loop-holds : tie.Need-loop-i-init Inv μ
loop-holds c =
    let p = c.requires in
    (p.prepared, c.count_of-moves.ensures.0, tally-at-start _ _ p.workable)

more : (c : tie.In-loop-i Inv μ) → c.loop-i.i < move_count c.args.log.now
more c = omega (arith, c.loop-i.invariant.1, c.loop-i-test.true)

make-at-requires : tie.Need-make_at-made-requires Inv μ
make-at-requires c κs =
    ((c.loop-i.invariant.0, more c.before.before.before), c.loop-i.invariant.2.folded.reached.workable)

returns : tie.Need-returns-in-Denied Inv μ
returns c =
    let v = c.loop-i.invariant.2 in
    let refused = c.in-Denied.is in
    rw c.came_to.ensures (record {
      ran = reached-refused v.folded.reached (more c.before.before.before.before.before.before.before) c.make_at-made.ensures refused refl refl;
      tally = tally-at-refused v (more c.before.before.before.before.before.before.before) c.make_at-made.ensures refused;
      few = tally-few v c.loop-i.invariant.0.log.few;
    })

tally-at-requires : tie.Need-tally_at-tally-requires Inv μ
tally-at-requires c κs =
    let v = c.loop-i.invariant in
    let sized = v.0.log in (
      record { sizes = sized; within = more c.before.before.before.before.before.before },
      tally-room v.2
          (more c.before.before.before.before.before.before) c.make_at-made.ensures c.in_default.is sized.few,
    )

loop-again : tie.Need-loop-i-preserved Inv μ
loop-again c =
    let v = c.loop-i.invariant in
    (v.0, v.1, rw c.tally_at-tally.ensures (tally-at-made v.2 (more c.before.before.before.before.before.before.before) c.make_at-made.ensures c.in_default.is))

returns-2 : tie.Need-returns Inv μ
returns-2 c =
    let v = c.loop-i.invariant in
    let all : move_count c.args.log.now ≤ c.loop-i.i = omega (arith, c.loop-i-test.false, v.1) in
    rw c.came_to-2.ensures
    (record { ran = reached-end v.2.folded.reached all refl refl; tally = tally-at-end v.2 all; few = tally-few v.2 v.0.log.few })

pub run_log_spec : {M : Type 1} → statement M
run_log_spec =
    tie.close
    (tie.spec
    Inv μ (λ c κs. search rules) loop-holds make-at-requires (λ c. search rules)
    (λ c κs. let v = c.loop-i.invariant in
    omega (arith, more c.before.before.before.before.before.before, v.1, v.0.log.few))
    returns (λ c. search rules) tally-at-requires (λ c. search rules) (λ c. search rules) loop-again
    (λ c κs. let v = c.loop-i.invariant in omega (arith, v.1, v.2.folded.reached.within, v.0.log.few)) returns-2)
