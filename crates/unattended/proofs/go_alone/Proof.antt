-- `go_alone` meets its contract (`Start`).
use mathlib.Core.Path.{ap, ◌∙◌}
use native.Mathlib.Omega.{arith}
use lib.ListN.{length}
use Rattle.semantics.specs.Table.{table_of}
use Rattle.semantics.specs.State.{state_of}
use Rattle.semantics.specs.Answers.{alone_moves}
use Rattle.enabled.specs.Alone.{moves-within}
use Rattle.state.specs.Parts.{loadable}
use Rattle.wellformed.specs.Tables.{well-formed}
use Rattle.idset.specs.IdSet.{zeros-empty}
use Rattle.ready.specs.Ready.{ready-sizes}
use Rattle.run.specs.Whole.{loaded-workable}
use Rattle.unattended.proofs.Start.{ready-indexed, loaded-held, made-few, middle-length, left_as, log-fits}
use borrow.Author.Rules.{rules}
use Rattle.unattended.proofs.go_alone.Statement.{statement}
use Rattle.unattended.proofs.go_alone.Tie as tie

track-requires : tie.Need-track-requires
track-requires c κs =
    let p = c.requires in
    let loaded = c.load-at.ensures in
    let table = (ready-indexed p.0).table in (
      record { owners = loaded.arrays.owners; items = loaded.arrays.items; fits = loaded.holds.fits },
      rw c.sizes_of-z.ensures (well-formed _ table).sizes.ports,
      loaded.looked.within,
      loaded.looked.none,
      zeros-empty,
      search rules,
    )

walk-requires : tie.Need-walk-gone-requires
walk-requires c κs =
    let p = c.requires in
    let loaded = c.load-at.ensures in (
      (ready-indexed p.0, c.fill_wants.ensures, p.1, search rules, p.2),
      (loaded-workable _ (ready-sizes p.0) loaded, loaded-held p.0 loaded, rw c.sizes_of-z.ensures at c.track.ensures),
    )

lay-out-requires : tie.Need-lay_out-requires
lay-out-requires c κs =
    let e = c.walk-gone.ensures in
    let loaded = c.load-at.ensures in
    let p = c.requires in
    let a = c.args in
    let few = made-few a.table.now a.state.now loaded e.0 in
    let size = middle-length a.table.now a.state.now loaded e.0 in
    (omega (arith, few, p.1), omega (arith, few, p.1, e.1), omega (arith, few, p.2, size))

returns : tie.Need-returns
returns c =
    let a = c.args in
    left_as a.table.now a.state.now c.load-at.ensures c.walk-gone.ensures.0 c.lay_out.ensures

same_length : tie.Need-shape_of-target
same_length c =
    let a = c.args in
    let left = left_as a.table.now a.state.now c.load-at.ensures c.walk-gone.ensures.0 c.lay_out.ensures in
    ap length left.log ∙ log-fits (alone_moves 1024 a.table.now a.state.now a.budget) a.budget a.target.now
    (moves-within 1024 (table_of a.table.now) a.budget 0 (state_of a.state.now)) c.requires.2

pub go_alone_spec : {M : Type 1} → statement M
go_alone_spec =
    tie.close
    (tie.spec
    (λ c κs. search rules)
    (λ c κs. (loadable _ _ c.requires.0.accepted, search rules))
    (λ c κs. let load = c in
    let p = load.requires in
    ((ready-indexed p.0).table, p.0.starts, search rules))
    (λ c κs. let load = c in
    (well-formed _ (ready-indexed load.requires.0).table).sizes.long)
    track-requires
    (λ c. search rules)
    walk-requires
    (λ c. search rules)
    lay-out-requires
    same_length
    returns)
