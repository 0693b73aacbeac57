-- `count_reaction` meets its contract: the words cut out are the rule's (`Reaction`).
use borrow.Author.Rules.{rules}
use Rattle.wellformed.specs.Tables.{well-formed}
use Rattle.rules.specs.RuleWords.{rule-within}
use Rattle.supply.proofs.Reaction.{words-some, words-enough, words-after}
use Rattle.supply.proofs.count_reaction.Statement.{statement}
use Rattle.supply.proofs.count_reaction.Tie as tie

rule-words-requires : tie.Need-rule_words-ws-requires
rule-words-requires c κs =
    let p = c.requires in
    rule-within _ _ _ p.0 p.1 p.2 c.atom_words_of.ensures

last-aborts-requires : tie.Need-last_aborts-aborts-requires
last-aborts-requires c κs =
    let p = c.requires in
    words-some _ _ _ p.0 p.1 p.2 c.atom_words_of.ensures c.sizes_of-z.ensures c.rule_words-ws.ensures

count-atoms-requires : tie.Need-count_atoms-requires
count-atoms-requires c κs =
    let p = c.requires in
    words-enough _ _ _ p.0 p.1 p.2 c.atom_words_of.ensures c.sizes_of-z.ensures c.rule_words-ws.ensures
    p.3.2

returns : tie.Need-returns
returns c =
    let p = c.requires in (
      c.count_atoms.ensures.size,
      λ s ps i reacts calm.
          words-after _ _ _ p.0 p.1 p.2 c.atom_words_of.ensures c.sizes_of-z.ensures c.rule_words-ws.ensures
          reacts c.rule_class-class.ensures c.last_aborts-aborts.ensures c.count_atoms.ensures calm i,
    )

pub count_reaction_spec : {M : Type 1} → statement M
count_reaction_spec =
    tie.close
    (tie.spec
    (λ c κs. (well-formed _ c.requires.0).sizes.long)
    (λ c κs. (well-formed _ c.requires.0).sizes)
    rule-words-requires
    (λ c κs. search rules)
    last-aborts-requires
    count-atoms-requires
    returns)
