-- `emits::begins_emit` meets its contract: r rules are tried (`Emitting`).
use Prim.Native.Nat.{◌-◌}
use borrow.Author.Rules.{rules}
use Rattle.wellformed.specs.Tables.{well-formed}
use Rattle.rules.proofs.Emitting.{Trying, trying_start, trying-within, trying-here, trying-next, trying-done}
use Rattle.rules.proofs.emits.begins_emit.Statement.{statement}
use Rattle.rules.proofs.emits.begins_emit.Tie as tie

abbrev Inv : tie.invariant-loop-r
Inv table starts rules words r₀ r = Trying table starts rules words r

abbrev μ : tie.decreases-loop-r
μ table starts rules words r₀ r = rules - r

sizes-of-requires : tie.Need-sizes_of-z-requires Inv μ
sizes-of-requires c κs = (well-formed _ c.requires.0).sizes.long

atom-words-of-requires : tie.Need-atom_words_of-words-requires Inv μ
atom-words-of-requires c κs = (well-formed _ c.requires.0).sizes

loop-holds : tie.Need-loop-r-init Inv μ
loop-holds c =
    let p = c.requires in
    trying_start _ _ p.0 p.1 c.sizes_of-z.ensures c.atom_words_of-words.ensures

rule-words-requires : tie.Need-rule_words-requires Inv μ
rule-words-requires c κs = trying-within c.loop-r.invariant c.loop-r-test.true

returns : tie.Need-returns-then-rule_begins_emits Inv μ
returns c =
    let l = c.loop-r in
    trying-here l.invariant c.loop-r-test.true c.rule_words.ensures
    c.rule_begins_emits.ensures c.if-rule_begins_emits.true

loop-again : tie.Need-loop-r-preserved Inv μ
loop-again c =
    let l = c.loop-r in
    trying-next l.invariant c.loop-r-test.true c.rule_words.ensures
    c.rule_begins_emits.ensures c.if-rule_begins_emits.false

returns-2 : tie.Need-returns Inv μ
returns-2 c = trying-done c.loop-r.invariant c.loop-r-test.false

pub begins_emit_spec : {M : Type 1} → statement M
begins_emit_spec =
    tie.close
    (tie.spec
    Inv
    μ
    sizes-of-requires
    (λ c. search rules)
    atom-words-of-requires
    loop-holds
    rule-words-requires
    (λ c κs. search rules)
    returns
    (λ c. search rules)
    (λ c. search rules)
    loop-again
    returns-2)
