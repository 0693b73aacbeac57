-- `decode::rule_at` meets its contract: the words cut out are the rule's (`RuleWords`).
use Rattle.wellformed.specs.Tables.{well-formed}
use Rattle.rules.specs.RuleWords.{rule-within, cut_fits, cut-rule}
use Rattle.rules.proofs.decode.rule_at.Statement.{statement}
use Rattle.rules.proofs.decode.rule_at.Tie as tie

sizes-of-requires : tie.Need-sizes_of-z-requires
sizes-of-requires c κs = (well-formed _ c.requires.0).sizes.long

atom-words-of-requires : tie.Need-atom_words_of-requires
atom-words-of-requires c κs = (well-formed _ c.requires.0).sizes

rule-words-requires : tie.Need-rule_words-requires
rule-words-requires c κs =
    let p = c.requires in
    rule-within _ _ _ p.0 p.1 p.2 c.atom_words_of.ensures

rule-of-requires : tie.Need-rule_of-requires
rule-of-requires c κs =
    let p = c.requires in
    cut_fits _ _ _ p.0 p.1 p.2 c.atom_words_of.ensures c.sizes_of-z.ensures c.rule_words.ensures

returns : tie.Need-returns
returns c =
    let p = c.requires in
    let same = cut-rule _ _ _ p.0 p.1 p.2 c.atom_words_of.ensures c.sizes_of-z.ensures
    c.rule_words.ensures in
    rw same at c.rule_of.ensures

pub rule_at_spec : {M : Type 1} → statement M
rule_at_spec =
    tie.close
    (tie.spec sizes-of-requires atom-words-of-requires rule-words-requires rule-of-requires returns)
