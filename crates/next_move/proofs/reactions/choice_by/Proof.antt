-- `choice_by` is the first choice by the rule's class.
use mathlib.Core.Path.{◌≡◌, sym, ap, ◌∙◌}
use native.Mathlib.Omega.{arith}
use borrow.Author.Rules.{rules}
use Rattle.semantics.specs.Table.{rule_of}
use Rattle.rule_moves.specs.Takes.{grouped-choices, plain-choices}
use Rattle.offers.specs.Offers.{column_keys}
use Rattle.first_choice.specs.Choice.{first_choice, AllOfClass}
use Rattle.next_move.proofs.Firsts.{of-class, first-class}
use Rattle.next_move.proofs.reactions.choice_by.Statement.{statement}
use Rattle.next_move.proofs.reactions.choice_by.Tie as tie

first-grouped-requires : tie.Need-first_grouped-requires
first-grouped-requires c κs =
    let a = c.args in
    let f = c.requires.0 in
    let k = c.requires.2 in
    let R = rule_of a.z a.ws.now in
    let (are, small) = c.ports_of-takes.ensures in
    let local : R.class ≡ 1 = first-class a.z a.ws.now c.rule_class-class.ensures ∙ c.if-class-eq1.true in (
      record {
        columns = k.columns;
        narrow = k.narrow;
        few-ports = k.few-ports;
        looked = k.looked;
        unmarked = k.unmarked;
        stops = k.stops;
        some = f.some;
        most = f.most;
        four = search rules;
        low = λ j. omega (arith, small j);
        local = rw local at (of-class a.z R _ a.k (are ∙ sym f.ports) f.count c.requires.1);
      },
      c.requires.3,
    )

returns : tie.Need-returns-then-class-eq1
returns c =
    let a = c.args in
    let f = c.requires.0 in
    let R = rule_of a.z a.ws.now in
    let ks = column_keys a.z a.stopped.now a.owners.now a.items.now a.at.len in
    let local : R.class ≡ 1 =
    first-class a.z a.ws.now c.rule_class-class.ensures ∙ c.if-class-eq1.true in (
      c.first_grouped.ensures.0 ∙ ap first_choice (grouped-choices R ks local (c.ports_of-takes.ensures.0 ∙ sym f.ports)),
      c.first_grouped.ensures.1,
    )

returns-2 : tie.Need-returns
returns-2 c =
    let a = c.args in
    let f = c.requires.0 in
    let R = rule_of a.z a.ws.now in
    let ks = column_keys a.z a.stopped.now a.owners.now a.items.now a.at.len in
    let same = first-class a.z a.ws.now c.rule_class-class.ensures in
    let are = c.ports_of-takes.ensures.0 ∙ sym f.ports in
    let classes : AllOfClass a.z c.rule_class-class.result c.ports_of-takes.result a.k =
    rw same at (of-class a.z R _ a.k are f.count c.requires.1) in (
      c.first_plain.ensures a.z classes c.if-class-eq1.false
          ∙ ap first_choice (plain-choices R ks (λ e. c.if-class-eq1.false (sym same ∙ e)) are),
      c.requires.3,
    )

pub choice_by_spec : {M : Type 1} → statement M
choice_by_spec =
    tie.close
    (tie.spec
    (λ c κs. search rules)
    (λ c κs. (c.requires.0.most, c.requires.0.within))
    first-grouped-requires
    returns
    (λ c κs. (c.requires.2.columns, c.requires.2.narrow, c.requires.0.most, search rules))
    returns-2)
