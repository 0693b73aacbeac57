use Prim.Native.Nat.{◌+◌, ◌*◌, ◌≤◌}
use mathlib.Core.Bool.{true}
use mathlib.Core.Path.{◌≡◌, sym, ◌∙◌}
use native.Mathlib.Omega.{arith}
use lib.ListN.{length}
use borrow.Author.Tests.{not-true, not-false}
use borrow.Author.Rules.{rules}
use Rattle.semantics.specs.Log.{move_count, log_sizes_ok}
use Rattle.semantics.specs.Answers.{state_verdict}
use Rattle.semantics.specs.declared.Verdict.TheVariants.{Allowed}
use Rattle.wellformed.specs.States.{state-given}
use Rattle.calls.proofs.Serializing.{serial-denied, serial-missized, serial-short, serial-emits, serial-open, serial-done}
use Rattle.calls.proofs.serials.serialize.Statement.{statement}
use Rattle.calls.proofs.serials.serialize.Tie as tie

returns : tie.Need-returns-in-Denied
returns c = serial-denied _ _ _ _ _ (sym c.ready-checked.ensures.verdict ∙ c.in-Denied.is)

returns-2 : tie.Need-returns-then-not-sizes_ok
returns-2 c =
    serial-missized _ _ _ _ (sym c.ready-checked.ensures.verdict ∙ c.in_default.is)
    (sym c.sizes_ok.ensures ∙ not-true _ c.if-not-sizes_ok.true-raw)

returns-3 : tie.Need-returns-then-target-count_of
returns-3 c =
    let a = c.args in
    let ok = sym c.ready-checked.ensures.verdict ∙ c.in_default.is in
    let sizes = sym c.sizes_ok.ensures ∙ not-false _ c.if-not-sizes_ok.false-raw in
    serial-short a.table.now a.state.now a.log.now a.target.now ok sizes
    (omega (arith, c.count_of.ensures.0, c.if-target-count_of.true))

-- what is known past the test of the target's length
module _ (c : tie.Else-target-count_of) where
  abbrev start : tie.Start
  start = c.before.before.before.before.before.before.before.before.before.before.before

  ok : state_verdict start.args.table.now start.args.state.now ≡ Allowed
  ok = sym c.ready-checked.ensures.verdict ∙ c.in_default.is

  sizes : log_sizes_ok start.args.log.now ≡ true
  sizes = sym c.sizes_ok.ensures ∙ not-false _ c.if-not-sizes_ok.false-raw

  room : 1 + 5 * move_count start.args.log.now ≤ length start.args.target.now
  room = omega (arith, c.count_of.ensures.0, c.if-target-count_of.false)

begins-emit-requires : tie.Need-begins_emit-requires
begins-emit-requires c κs =
    ((state-given _ _ (ok c.before)).0, (c.ready-checked.ensures.ready (ok c.before)).starts)

returns-4 : tie.Need-returns-then-begins_emit
returns-4 c =
    let a = (start c.before.before.before).args in
    serial-emits a.table.now a.state.now a.log.now a.target.now (ok c.before.before.before) (sizes c.before.before.before) (room c.before.before.before)
    (sym c.begins_emit.ensures ∙ c.if-begins_emit.true)

open-in-requires : tie.Need-open_in-requires
open-in-requires c κs = (state-given _ _ (ok c.before.before.before)).1

returns-5 : tie.Need-returns-then-open_in
returns-5 c =
    let a = (start c.before.before.before.before.before).args in
    serial-open a.table.now a.state.now a.log.now a.target.now (ok c.before.before.before.before.before) (sizes c.before.before.before.before.before)
    (room c.before.before.before.before.before)
    (sym c.begins_emit.ensures ∙ c.if-begins_emit.false) (sym c.open_in.ensures ∙ c.if-open_in.true)

serialize-log-requires : tie.Need-serialize_log-requires
serialize-log-requires c κs =
    record {
      state = ok c.before.before.before.before.before.before.before;
      starts = (c.ready-checked.ensures.ready (ok c.before.before.before.before.before.before.before)).starts;
      sizes = sizes c.before.before.before.before.before.before.before;
      room = room c.before.before.before.before.before.before.before;
      quiet = sym c.begins_emit.ensures ∙ c.if-begins_emit.false;
      closed = sym c.open_in.ensures ∙ c.if-open_in.false;
    }

returns-6 : tie.Need-returns
returns-6 c =
    let a = (start c.before.before.before.before.before.before.before.before.before.before).args in
    let quiet = sym c.begins_emit.ensures
    ∙ c.if-begins_emit.false in
    let closed = sym c.open_in.ensures ∙ c.if-open_in.false in
    serial-done a.table.now a.state.now a.log.now a.target.now (ok c.before.before.before.before.before.before.before.before.before.before)
    (sizes c.before.before.before.before.before.before.before.before.before.before)
    (room c.before.before.before.before.before.before.before.before.before.before) quiet closed
    c.serialize_log.ensures

pub serialize_spec : {M : Type 1} → statement M
serialize_spec =
    tie.close
    (tie.spec (λ c κs. search rules) (λ c. search rules) returns (λ c. search rules) (λ c κs. search rules) returns-2
    (λ c κs. search rules) (λ c. search rules) (λ c. search rules) returns-3 begins-emit-requires returns-4 open-in-requires returns-5
    serialize-log-requires (λ c. search rules) returns-6)
