-- `follow_reaction` meets its contract (`Following`).
use mathlib.Core.Logic.{inl, inr, ⊎_elim}
use mathlib.Core.Path.{sym, subst}
use mathlib.Core.List.{List}
use Prim.Native.Nat.{ℕ}
use Rattle.lists.specs.Rows.{rows}
use Rattle.semantics.specs.State.{Entry}
use Rattle.wellformed.specs.Tables.{well-formed}
use Rattle.state.specs.Working.{row_of}
use Rattle.stopped.specs.Stopped.{StoppedIn}
use Rattle.tracking.specs.Tracked.{stops-all, tracked-held}
use Rattle.tracking.proofs.Following.{reacting, left-columns, entries-are}
use Rattle.tracking.proofs.reacted.follow_reaction.Statement.{statement}
use Rattle.tracking.proofs.reacted.follow_reaction.Tie as tie

abbrev start : tie.After-stop_last-marked → tie.Start
start c = c.before.before.before

-- the set after the reaction, of all origins
stops-now : (c : tie.After-stop_last-marked) (gs : List ℕ)
    → StoppedIn (rows (row_of (start c).args.owners.now (start c).args.items.now gs) 0 (start c).args.left.len) c.stop_last-marked.new.stopped
stops-now c gs =
    let a = (start c).args in
    let (s, ps, i, hs, h) = (start c).requires in
    let here = c.stop_last-marked.ensures.0 hs _ i s a.r ps (reacting h) (entries-are h) h.stops in
    stops-all a.owners.now a.items.now hs a.left.len gs here

recount-requires : tie.Need-recount-requires
recount-requires c κs =
    let h = (start c.before.before.before.before).requires.4 in (
      (
        left-columns h,
        rw c.sizes_of-z.ensures (well-formed _ h.indexed.table).sizes.ports,
        h.reacts.supply.size,
        h.holds.looked.within,
        h.holds.looked.none,
      ),
      stops-now c.before.before.before.before,
    )

returns : tie.Need-returns-then-strands
returns c =
    record { stops = stops-now c.before.before.before.before.before; supply = rw c.sizes_of-z.ensures at c.recount.ensures }

returns-2 : tie.Need-returns
returns-2 c =
    let a = (start c.before.before.before.before).args in
    let (s, ps, i, hs, h) = (start c.before.before.before.before).requires in
    let calm = c.stop_last-marked.ensures.1 hs _ i s a.r ps (reacting h) (entries-are h) in
    let stops = subst (λ (es : List Entry). StoppedIn es c.stop_last-marked.new.stopped) (sym (entries-are h)) (stops-now c.before.before.before.before hs) in
    let counted = ⊎_elim inl (λ e. inr (calm e)) (c.strands.ensures c.if-strands.false) in
    let supply = c.count_reaction.ensures.1 s ps i h.reacts counted in
    tracked-held a.owners.now a.items.now hs a.left h.holds (record { stops = stops; supply = supply })

pub follow_reaction_spec : {M : Type 1} → statement M
follow_reaction_spec =
    tie.close
    (tie.spec
    (λ c κs. let h = c.requires.4 in (left-columns h, h.stops.size))
    (λ c κs. let h = (start c).requires.4 in (h.indexed, h.known))
    (λ c κs. (well-formed _ (start c.before.before).requires.4.indexed.table).sizes.long)
    recount-requires
    returns
    (λ c κs. let (s, ps, i, hs, h) = (start c.before.before.before).requires in (h.indexed.table, h.known, h.indexed.starts, (s, ps, h.reacts)))
    returns-2)
