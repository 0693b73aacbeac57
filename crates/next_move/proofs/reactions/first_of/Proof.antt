-- `first_of` is the first reaction by the rule of a number: a rule that lacks messages has none.
use Prim.Native.Nat.{ℕ}
use mathlib.Core.List.{List, []}
use mathlib.Core.Path.{sym, ap, ◌∙◌}
use native.Mathlib.Omega.{arith}
use lib.ListN.{get_or}
use Rattle.semantics.specs.Table.{sizes_of, table_of, rule_at}
use Rattle.semantics.specs.declared.Sizes.{Sizes}
use Rattle.wellformed.specs.Tables.{well-formed}
use Rattle.enabled.specs.Reactions.{consumed-ports}
use Rattle.rules.specs.RuleWords.{rule-within, cut_fits, cut-rule}
use Rattle.rule_moves.specs.Takes.{has_room_for, moves_by}
use Rattle.offers.specs.Offers.{column_keys}
use Rattle.offers.specs.ColumnKeys.{supply-keys}
use Rattle.wants.specs.Wants.{lacking-none}
use Rattle.first_end.specs.First.{first_move}
use Rattle.next_move.proofs.Firsts.{rule-lacks}
use borrow.Author.Rules.{rules}
use Rattle.next_move.proofs.reactions.first_of.Statement.{statement}
use Rattle.next_move.proofs.reactions.first_of.Tie as tie

returns : tie.Need-returns-then-lacks
returns c =
    let a = c.args in
    let p = c.requires.0 in
    let z = sizes_of a.table.now in
    let R = rule_at (table_of a.table.now) a.r in
    let ks = column_keys z a.stopped.now a.owners.now a.items.now a.at.len in
    let counts = supply-keys z a.owners.now a.items.now [] a.at (p.state.stops []) (p.supply []) in (
      c.none.ensures
          ∙ rule-lacks a.r (has_room_for a.ceiling R a.at.len a.at.next)
          (lacking-none ks a.totals.now counts R (get_or a.wants.now a.r 0) (p.wants-are.each a.r c.requires.1)
          (sym c.lacks.ensures ∙ c.if-lacks.true)),
      c.requires.2,
    )

returns-2 : tie.Need-returns
returns-2 c =
    let a = c.args in
    let p = c.requires.0.indexed in
    let R = rule_at (table_of a.table.now) a.r in
    let sized = c.sizes_of-z in
    let ks : Sizes → List ℕ = λ z. column_keys z a.stopped.now a.owners.now a.items.now a.at.len in
    let same = cut-rule a.table.now a.starts.now a.r p.table c.requires.1 p.starts c.atom_words_of.ensures
    sized.ensures c.rule_words-ws.ensures in (
      c.first_by.ensures.0
          ∙ ap (λ R. first_move (moves_by a.ceiling R a.r a.at.len a.at.next (ks sized.result))) same
          ∙ ap (λ z. first_move (moves_by a.ceiling R a.r a.at.len a.at.next (ks z))) sized.ensures,
      c.first_by.ensures.1,
    )

first-by-requires : tie.Need-first_by-requires
first-by-requires c κs =
    let a = c.args in
    let p = c.requires.0.indexed in
    let few = (well-formed a.table.now p.table).sizes.rules in
    let words = c.atom_words_of.ensures in
    let sizes = c.sizes_of-z.ensures in
    let cut = c.rule_words-ws.ensures in
    let same = cut-rule a.table.now a.starts.now a.r p.table c.requires.1 p.starts words sizes cut in (
      cut_fits a.table.now a.starts.now a.r p.table c.requires.1 p.starts words sizes cut,
      rw (same, sizes) (consumed-ports a.table.now p.table a.r c.requires.1),
      rw sizes c.requires.0.state,
      c.requires.2,
      omega (arith, c.requires.1, few),
      c.requires.0.limit,
    )

pub first_of_spec : {M : Type 1} → statement M
first_of_spec =
    tie.close
    (tie.spec
    (λ c κs. let p = c.requires in
    (omega (arith, p.1, (well-formed c.args.table.now p.0.indexed.table).sizes.rules), p.0.wants-are.size, (p.0.supply []).size))
    (λ c κs. search rules)
    returns
    (λ c κs. let p = c.requires in (well-formed _ p.0.indexed.table).sizes.long)
    (λ c κs. let p = c.requires in (well-formed _ p.0.indexed.table).sizes)
    (λ c κs. let p = c.requires in
    rule-within _ _ _ p.0.indexed.table p.1 p.0.indexed.starts c.atom_words_of.ensures)
    first-by-requires
    returns-2)
