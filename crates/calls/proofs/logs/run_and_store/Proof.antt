-- `run_and_store` meets its contract (`Running`).
use native.Mathlib.Omega.{arith}
use Rattle.state.specs.Parts.{loadable}
use Rattle.ready.specs.Ready.{ready-sizes}
use Rattle.run.specs.Whole.{words-prepared, loaded-workable}
use Rattle.calls.proofs.Running.{ran_to}
use borrow.Author.Rules.{rules}
use Rattle.calls.proofs.logs.run_and_store.Statement.{statement}
use Rattle.calls.proofs.logs.run_and_store.Tie as tie

load-requires : tie.Need-load-at-requires
load-requires c κs =
    let p = c.requires in
    (loadable _ _ p.ready.accepted, search rules)

run-log-requires : tie.Need-run_log-tallied-requires
run-log-requires c κs =
    let p = c.requires in
    let loaded = c.load-at.ensures in
    record { prepared = words-prepared _ _ p.ready.accepted p.ready.starts p.sizes; workable = loaded-workable _ (ready-sizes p.ready) loaded }

-- the start's extent would fit as well, so that code which stores it fails on what it answers
store-reached-requires : tie.Need-store_reached-requires
store-reached-requires c κs =
    let w = c.run_log-tallied.ensures.ran.workable in
    let few = c.run_log-tallied.ensures.few in
    let p = c.requires in
    let loaded = c.load-at.ensures.holds.fits in (
      (
        record { owners = w.arrays.owners; items = w.arrays.items; fits = omega (arith, w.bounds.fits, loaded) },
        omega (arith, w.bounds.fits, loaded, p.room),
      ),
      omega (arith, few.committed, few.aborted),
    )

returns : tie.Need-returns
returns c =
    ran_to _ _ _ _ _ c.load-at.ensures c.run_log-tallied.ensures (c.store_reached.ensures _)

pub run_and_store_spec : {M : Type 1} → statement M
run_and_store_spec =
    tie.close
    (tie.spec (λ c κs. search rules) load-requires run-log-requires store-reached-requires (λ c. search rules) returns)
