-- `moves_by` meets its contract: no choices where the rule is not open, and else those of its class (`Reactions`).
use mathlib.Core.Path.{◌≡◌, sym, ◌∙◌}
use native.Mathlib.Omega.{arith}
use borrow.Author.Tests.{not-true, not-false}
use lib.ListN.{take}
use Rattle.lists.specs.Pages.{paged-length}
use Rattle.reaction.specs.Decoded.{rule_in}
use Rattle.rule_moves.specs.Takes.{grouped-choices, plain-choices}
use Rattle.rule_moves.proofs.Reactions.{open-moves, no-moves}
use Rattle.rule_moves.proofs.rule.moves_by.Statement.{statement}
use Rattle.rule_moves.proofs.rule.moves_by.Tie as tie

returns : tie.Need-returns-then-not-is_open
returns c =
    let a = c.args in
    (no-moves a.r _ (sym c.is_open.ensures ∙ not-true _ c.if-not-is_open.true-raw), omega arith)

grouped-moves-requires : tie.Need-grouped_moves-requires
grouped-moves-requires c κs =
    let d = c.requires.0.0 in
    ((c.requires.0.2, c.takes_of-takes.ensures.1, d.legal.some, d.legal.most), c.requires.1)

returns-2 : tie.Need-returns-then-rule-eq1
returns-2 c =
    let a = c.args in
    let g = c.grouped_moves.ensures in
    let class : a.rule.class ≡ 1 = c.if-rule-eq1.true in (
      open-moves a.r _ (sym c.is_open.ensures ∙ not-false _ c.if-not-is_open.false-raw)
          (rw (grouped-choices (rule_in a.rule) (take a.at.len a.keys.now) class c.takes_of-takes.ensures.0) at g.0),
      g.1,
    )

plain-moves-requires : tie.Need-plain_moves-requires
plain-moves-requires c κs =
    let d = c.requires.0.0 in
    let k = c.requires.0.2 in
    ((k.few, k.size, c.requires.0.3, c.takes_of-takes.ensures.1, d.legal.some, d.legal.most), c.requires.1)

returns-3 : tie.Need-returns
returns-3 c =
    let a = c.args in
    let g = c.plain_moves.ensures in (
      open-moves a.r _ (sym c.is_open.ensures ∙ not-false _ c.if-not-is_open.false-raw)
          (rw (plain-choices (rule_in a.rule) (take a.at.len a.keys.now) c.if-rule-eq1.false
          c.takes_of-takes.ensures.0) at g.0),
      omega (arith, g.1),
    )

pub moves_by_spec : {M : Type 1} → statement M
moves_by_spec =
    tie.close
    (tie.spec
    (λ c κs. (c.requires.0.0, c.requires.0.2.few, c.requires.0.4))
    returns
    (λ c κs. (c.requires.0.0, c.requires.0.1))
    grouped-moves-requires
    (λ c. paged-length _ 5 c.grouped_moves.ensures.0.paged)
    returns-2
    plain-moves-requires
    (λ c. paged-length _ 5 c.plain_moves.ensures.0.paged)
    returns-3)
