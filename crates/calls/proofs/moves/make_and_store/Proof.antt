-- `make_and_store` meets its contract (`Moving`).
use native.Mathlib.Omega.{arith}
use Rattle.state.specs.Parts.{loadable}
use Rattle.ready.specs.Ready.{ready-sizes}
use Rattle.run.specs.Whole.{words-indexed, loaded-workable}
use Rattle.calls.proofs.Moving.{moved_to}
use borrow.Author.Rules.{rules}
use Rattle.calls.proofs.moves.make_and_store.Statement.{statement}
use Rattle.calls.proofs.moves.make_and_store.Tie as tie

load-requires : tie.Need-load-at-requires
load-requires c κs =
    let p = c.requires in
    (loadable _ _ p.ready.accepted, search rules)

make-requires : tie.Need-make-made-requires
make-requires c κs =
    let p = c.requires in
    let loaded = c.load-at.ensures in
    record {
      indexed = words-indexed _ _ p.ready.accepted p.ready.starts;
      maker-fits = (omega arith, omega arith);
      workable = loaded-workable _ (ready-sizes p.ready) loaded;
    }

-- the start's extent would fit as well, so that code which stores it fails on what it answers
store-made-requires : tie.Need-store_made-requires
store-made-requires c κs =
    let w = c.make-made.ensures.workable in
    let p = c.requires in
    let loaded = c.load-at.ensures.holds.fits in (
      record { owners = w.arrays.owners; items = w.arrays.items; fits = omega (arith, w.bounds.fits, loaded) },
      omega (arith, w.bounds.fits, loaded, p.room),
    )

returns : tie.Need-returns
returns c =
    moved_to _ _ _ _ c.load-at.ensures c.make-made.ensures (c.store_made.ensures _)

pub make_and_store_spec : {M : Type 1} → statement M
make_and_store_spec = tie.close (tie.spec (λ c κs. search rules) load-requires make-requires store-made-requires (λ c. search rules) returns)
