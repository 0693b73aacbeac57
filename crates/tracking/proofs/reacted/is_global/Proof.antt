-- `is_global` meets its contract: the words cut out are the rule's.
use mathlib.Core.Path.{ap, ◌∙◌}
use Prim.Native.Nat.{ℕ}
use lib.Dec.{eqb}
use borrow.Author.Rules.{rules}
use Rattle.wellformed.specs.Tables.{well-formed}
use Rattle.rules.specs.RuleWords.{rule-within}
use Rattle.tracking.proofs.Following.{class-is}
use Rattle.tracking.proofs.reacted.is_global.Statement.{statement}
use Rattle.tracking.proofs.reacted.is_global.Tie as tie

rule-words-requires : tie.Need-rule_words-ws-requires
rule-words-requires c κs =
    let p = c.requires in
    rule-within _ _ _ p.0.table p.1 p.0.starts c.atom_words_of.ensures

returns : tie.Need-returns
returns c =
    let p = c.requires in
    let class = class-is p.0 _ p.1 c.atom_words_of.ensures c.sizes_of-z.ensures c.rule_words-ws.ensures in
    ap (λ (k : ℕ). eqb k 0) (c.rule_class.ensures ∙ class)

pub is_global_spec : {M : Type 1} → statement M
is_global_spec =
    tie.close
    (tie.spec
    (λ c κs. (well-formed _ c.requires.0.table).sizes.long)
    (λ c κs. (well-formed _ c.requires.0.table).sizes)
    rule-words-requires
    (λ c κs. search rules)
    returns)
