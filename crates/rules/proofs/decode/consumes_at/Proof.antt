-- `decode::consumes_at` meets its contract: the words cut out are the rule's (`Decoding`).
use borrow.Author.Rules.{rules}
use Rattle.wellformed.specs.Tables.{well-formed}
use Rattle.rules.specs.RuleWords.{rule-within}
use Rattle.rules.proofs.Decoding.{cut-consumes}
use Rattle.rules.proofs.decode.consumes_at.Statement.{statement}
use Rattle.rules.proofs.decode.consumes_at.Tie as tie

atom-words-of-requires : tie.Need-atom_words_of-requires
atom-words-of-requires c κs = (well-formed _ c.requires.0).sizes

rule-words-requires : tie.Need-rule_words-requires
rule-words-requires c κs =
    let p = c.requires in
    rule-within _ _ _ p.0 p.1 p.2 c.atom_words_of.ensures

returns : tie.Need-returns
returns c =
    let p = c.requires in
    cut-consumes _ _ _ p.0 p.1 p.2 c.atom_words_of.ensures c.rule_words.ensures c.consumes_of.ensures

pub consumes_at_spec : {M : Type 1} → statement M
consumes_at_spec = tie.close (tie.spec atom-words-of-requires rule-words-requires (λ c κs. search rules) returns)
