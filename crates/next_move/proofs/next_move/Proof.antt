-- `next_move` meets its contract: the reactions come first, and the ends behind them (`Firsts`).
use mathlib.Core.Bool.{true, false}
use mathlib.Core.Path.{◌≡◌, sym, ap, ◌∙◌}
use Rattle.semantics.specs.Table.{sizes_of, table_of}
use Rattle.wellformed.specs.Tables.{well-formed, sizes-table_of}
use Rattle.state.specs.Lent.{state_from}
use Rattle.rule_moves.specs.Takes.{reactions_by}
use Rattle.offers.specs.ColumnKeys.{columns-keyed}
use Rattle.first_end.specs.declared.First.{First}
use Rattle.first_end.specs.First.{first_move}
use Rattle.first_end.specs.OpenEnds.{open_ends}
use Rattle.next_move.proofs.Firsts.{first-here, first-behind, whole-list}
use Rattle.next_move.proofs.next_move.Statement.{statement}
use Rattle.next_move.proofs.next_move.Tie as tie

returns : tie.Need-returns-then-reaction
returns c =
    let a = c.args in
    let (e, long) = c.first_reaction-reaction.ensures in
    let T = table_of a.table.now in
    let xs = reactions_by a.ceiling a.table.now a.at.len a.at.next _ in
    let found : (first_move xs).found ≡ true = sym (ap (λ (x : First). x.found) e) ∙ c.if-reaction.true in (
      (λ gs right.
          c.handed_on.ensures ∙ e ∙ first-here xs (open_ends a.ceiling T (state_from a.owners.now a.items.now gs a.at)) found
          ∙ sym (ap first_move (whole-list a.table.now c.requires.0.indexed.table a.owners.now a.items.now gs a.at right a.ceiling
          (columns-keyed (sizes_of a.table.now) a.owners.now a.items.now gs a.at (c.requires.0.state.stops gs))))),
      long,
    )

returns-2 : tie.Need-returns
returns-2 c =
    let a = c.args in
    let (e, long) = c.first_reaction-reaction.ensures in
    let T = table_of a.table.now in
    let z = c.sizes_of-z.ensures in
    let globals = ap (λ z. z.globals) (sizes-table_of a.table.now ∙ sym z) in
    let xs = reactions_by a.ceiling a.table.now a.at.len a.at.next _ in
    let none : (first_move xs).found ≡ false = sym (ap (λ (x : First). x.found) e) ∙ c.if-reaction.false in (
      (λ gs right.
          c.first_end.ensures gs T a.ceiling globals c.requires.4
          ∙ first-behind xs (open_ends a.ceiling T (state_from a.owners.now a.items.now gs a.at)) none
          ∙ sym (ap first_move (whole-list a.table.now c.requires.0.indexed.table a.owners.now a.items.now gs a.at right a.ceiling
          (columns-keyed (sizes_of a.table.now) a.owners.now a.items.now gs a.at (c.requires.0.state.stops gs))))),
      long,
    )

pub next_move_spec : {M : Type 1} → statement M
next_move_spec =
    tie.close
    (tie.spec
    (λ c κs. (well-formed _ c.requires.0.indexed.table).sizes.long)
    (λ c κs. let p = c.requires in (p.0, p.1))
    (λ c κs. c.if-reaction.true)
    returns
    (λ c κs. let p = c.requires in (p.0.state.columns, p.2, p.3, p.0.state.stops))
    returns-2)
