-- `first_by` is the first reaction by the rule of the words, none where it has no ids or no room.
use mathlib.Core.Path.{sym, ◌∙◌}
use borrow.Author.Tests.{not-true, not-false}
use Rattle.semantics.specs.Table.{rule_of}
use Rattle.enabled.specs.Reactions.{choices_of}
use Rattle.offers.specs.Offers.{column_keys}
use Rattle.next_move.proofs.Firsts.{rule-open, rule-shut, words-consumed, room-is}
use borrow.Author.Rules.{rules}
use Rattle.next_move.proofs.reactions.first_by.Statement.{statement}
use Rattle.next_move.proofs.reactions.first_by.Tie as tie

returns : tie.Need-returns-then-not-has_room
returns c =
    let a = c.args in
    let w = words-consumed a.z a.ws.now c.requires.0 c.consumes_of-k.ensures in
    let room = room-is a.z a.ws.now w a.ceiling a.at.len a.at.next in
    (c.none.ensures ∙ rule-shut a.r _ (room ∙ sym c.has_room.ensures ∙ not-true _ c.if-not-has_room.true-raw), c.requires.3)

returns-2 : tie.Need-returns
returns-2 c =
    let a = c.args in
    let w = words-consumed a.z a.ws.now c.requires.0 c.consumes_of-k.ensures in
    let room = room-is a.z a.ws.now w a.ceiling a.at.len a.at.next in
    let cs = choices_of (rule_of a.z a.ws.now) (column_keys a.z a.stopped.now a.owners.now a.items.now a.at.len) in (
      rule-open a.r cs (room ∙ sym c.has_room.ensures ∙ not-false _ c.if-not-has_room.false-raw)
          (c.reaction_by.ensures cs c.choice_by.ensures.0),
      c.choice_by.ensures.1,
    )

pub first_by_spec : {M : Type 1} → statement M
first_by_spec =
    tie.close
    (tie.spec
    (λ c κs. search rules)
    (λ c κs.
    let w = words-consumed c.args.z c.args.ws.now c.requires.0 c.consumes_of-k.ensures in
    (w.most, c.requires.0.few, c.requires.2.columns.fits, c.requires.5))
    (λ c κs. search rules)
    returns
    (λ c κs.
    (words-consumed c.args.z c.args.ws.now c.requires.0 c.consumes_of-k.ensures, c.requires.1, c.requires.2, c.requires.3))
    (λ c κs. c.requires.4)
    returns-2)
