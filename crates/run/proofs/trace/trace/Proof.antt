-- `trace` meets its contract: at place i the lines of the moves before it are written.
use Prim.Native.Nat.{◌-◌, ◌<◌}
use mathlib.Core.Path.{◌≡◌}
use native.Mathlib.Omega.{arith}
use borrow.Author.Rules.{rules}
use Rattle.semantics.specs.Table.{table_of}
use Rattle.semantics.specs.Log.{move_count}
use Rattle.state.specs.Working.{held}
use Rattle.run.specs.Lines.{Traceable, Tracing, tracing-start, tracing-workable, tracing-made, tracing-refused, tracing-end}
use Rattle.run.proofs.trace.trace.Statement.{statement}
use Rattle.run.proofs.trace.trace.Tie as tie

abbrev Inv : tie.invariant-loop-i
Inv table starts owners₀ items₀ origins₀ log lines₀ moves left₀ i₀ owners items origins lines left i =
    Traceable table starts log (held owners₀ items₀ origins₀ left₀) lines₀
    × (moves ≡ move_count log)
    × Tracing (table_of table) log (held owners₀ items₀ origins₀ left₀) lines₀ i (held owners items origins left) lines

abbrev μ : tie.decreases-loop-i
μ table starts owners₀ items₀ origins₀ log lines₀ moves left₀ i₀ owners items origins lines left i = moves - i

loop-holds : tie.Need-loop-i-init Inv μ
loop-holds c =
    let p = c.requires in
    (p, c.count_of-moves.ensures.0, tracing-start _ _ _ p.workable)

more : (c : tie.In-loop-i Inv μ) → c.loop-i.i < move_count c.args.log.now
more c = omega (arith, c.loop-i.invariant.1, c.loop-i-test.true)

make-at-requires : tie.Need-make_at-made-requires Inv μ
make-at-requires c κs =
    let v = c.loop-i.invariant in
    ((v.0.prepared, more c.before.before.before), tracing-workable v.2)

put-line-requires : tie.Need-put_line-requires Inv μ
put-line-requires c κs =
    let v = c.loop-i.invariant in (
      omega (arith, more c.before.before.before.before.before.before.before, v.0.room, v.2.size),
      omega (arith, more c.before.before.before.before.before.before.before, v.0.prepared.log.few),
      c.make_at-made.ensures.workable.bounds.fits,
    )

returns : tie.Need-returns-in-Denied Inv μ
returns c =
    let v = c.loop-i.invariant in
    tracing-refused v.2 (more c.before.before.before.before.before.before.before.before.before.before.before) v.0.room c.make_at-made.ensures
    (rw c.answer_in.ensures at c.put_line.ensures) c.in-Denied.is

loop-again : tie.Need-loop-i-preserved Inv μ
loop-again c =
    let v = c.loop-i.invariant in (
      v.0,
      v.1,
      tracing-made v.2 (more c.before.before.before.before.before.before.before.before.before.before.before) v.0.room c.make_at-made.ensures
          (rw c.answer_in.ensures at c.put_line.ensures) c.in_default.is,
    )

returns-2 : tie.Need-returns Inv μ
returns-2 c =
    let v = c.loop-i.invariant in
    tracing-end v.2 (omega (arith, c.loop-i-test.false, v.1))

pub trace_spec : {M : Type 1} → statement M
trace_spec =
    tie.close
    (tie.spec
    Inv μ (λ c κs. search rules) loop-holds make-at-requires (λ c κs. search rules) put-line-requires
    (λ c. search rules) (λ c. search rules) (λ c. search rules) returns (λ c. search rules) (λ c. search rules) loop-again (λ c. search rules) returns-2)
