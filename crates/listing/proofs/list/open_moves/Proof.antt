-- `open_moves` meets its contract: the state's columns, its transactions and its keys, and what is listed by them (`Loaded`).
use mathlib.Core.Path.{◌≡◌, ap}
use native.Mathlib.Omega.{arith}
use Rattle.lists.specs.Pages.{paged-length}
use Rattle.semantics.specs.Table.{sizes_of}
use Rattle.wellformed.specs.Tables.{well-formed}
use Rattle.idset.specs.IdSet.{zeros-empty}
use Rattle.ready.specs.Ready.{ready-table}
use Rattle.state.specs.Parts.{loadable}
use Rattle.transactions.specs.Ids.{ids-ascend}
use Rattle.listing.proofs.Loaded.{columns, next-within, ids-few, places, none-global, keys-within, all_listed}
use borrow.Author.Rules.{rules}
use Rattle.listing.proofs.list.open_moves.Statement.{statement}
use Rattle.listing.proofs.list.open_moves.Tie as tie

-- where the function begins
abbrev start : tie.After-load-at → tie.Start
start c = c.before.before.before.before.before.before.before.before.before.before.before

survey-requires : tie.Need-survey-requires
survey-requires c κs =
    let s = start c.before.before.before.before.before.before in
    let c = columns s.args.table.now s.args.state.now _ _ _ c.load-at.result s.requires.0.accepted c.load-at.ensures in
    (c, zeros-empty, zeros-empty, zeros-empty)

-- the globals handed on are the table's
globals : (c : tie.After-sizes_of-z) → c.sizes_of-z.result.globals ≡ (sizes_of (start c.before).args.table.now).globals
globals c = ap (λ z. z.globals) c.sizes_of-z.ensures

ids-of-requires : tie.Need-ids_of-m-requires
ids-of-requires c κs =
    let s = start c.before.before.before.before.before.before.before.before.before in
    let (low, high) = next-within s.args.table.now s.args.state.now _ _ _ c.load-at.result s.requires.0.accepted c.load-at.ensures in (
      low,
      high,
      search rules,
      ids-few s.args.table.now s.args.state.now _ _ _ c.load-at.result s.requires.0.accepted c.load-at.ensures
          c.sizes_of-z.result.globals (globals c.before.before.before.before.before.before.before.before) c.survey.ensures,
    )

keys-of-requires : tie.Need-keys_of-requires
keys-of-requires c κs =
    let s = start c.before.before.before.before.before.before.before.before.before.before.before.before.before.before.before in
    let ids = c.ids_of-m.ensures in
    let sizes = c.sizes_of-z.ensures in (
      rw sizes (well-formed s.args.table.now (ready-table s.requires.0)).sizes.ports,
      ids.fits,
      ids-ascend ids,
      columns s.args.table.now s.args.state.now _ _ _ c.load-at.result s.requires.0.accepted c.load-at.ensures,
      search rules,
      rw sizes (places s.args.table.now s.args.state.now _ _ _ c.load-at.result s.requires.0.accepted c.load-at.ensures
          c.sizes_of-z.result.globals (globals c.before.before.before.before.before.before.before.before.before.before.before.before.before.before)
          c.survey.ensures ids),
      none-global s.args.table.now s.args.state.now _ _ _ c.load-at.result s.requires.0.accepted c.load-at.ensures
          c.sizes_of-z.result.globals (globals c.before.before.before.before.before.before.before.before.before.before.before.before.before.before)
          c.survey.ensures,
    )

listed-requires : tie.Need-listed-requires
listed-requires c κs =
    let k = c.before.before.before.before.before.before.before.before.before.before in
    let z = k.before.before.before.before.before.before.before.before.before.before in
    let s = start z.before in
    let ids = c.ids_of-m.ensures in (
      (
        ready-table s.requires.0,
        s.requires.0.starts,
        keys-within s.args.table.now s.args.state.now _ _ _ c.load-at.result s.requires.0.accepted c.load-at.ensures
            c.sizes_of-z.result.globals (globals z) c.survey.ensures ids
            (rw c.sizes_of-z.ensures at c.keys_of.ensures),
        omega arith,
        ids.fits,
        ids.size,
      ),
      s.requires.1,
    )

returns : tie.Need-returns
returns c =
    let k = c.before.before.before.before.before.before.before.before.before.before.before in
    let z = k.before.before.before.before.before.before.before.before.before.before.before.before in
    let s = start z.before in
    all_listed s.args.table.now s.args.state.now _ _ _ c.load-at.result s.requires.0.accepted c.load-at.ensures
    c.sizes_of-z.result.globals (globals z) c.survey.ensures c.ids_of-m.ensures
    (rw c.sizes_of-z.ensures at c.keys_of.ensures)
    c.listed.ensures

pub open_moves_spec : {M : Type 1} → statement M
open_moves_spec =
    tie.close
    (tie.spec
    (λ c κs. search rules)
    (λ c κs. (loadable _ _ c.requires.0.accepted, search rules))
    (λ c κs. (well-formed _ (ready-table (start c).requires.0)).sizes.long)
    survey-requires
    ids-of-requires
    keys-of-requires
    listed-requires
    (λ c. paged-length _ 5 c.listed.ensures.paged)
    returns)
