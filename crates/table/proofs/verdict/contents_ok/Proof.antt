-- `verdict::contents_ok` meets its contract: the two passes together (`Whole`).
use mathlib.Core.Path.{ap, ◌∙◌}
use native.Mathlib.Omega.{arith}
use borrow.Author.Rules.{rules}
use borrow.Author.Tests.{not-true, not-false}
use lib.ListN.{length}
use Rattle.semantics.specs.declared.Sizes.{Sizes}
use Rattle.wellformed.specs.Tables.{numbers-length}
use Rattle.table.proofs.Whole.{numbers-wrong, cuts, numbers-right}
use Rattle.table.proofs.verdict.contents_ok.Statement.{statement}
use Rattle.table.proofs.verdict.contents_ok.Tie as tie

index-rules-requires : tie.Need-index_rules-requires
index-rules-requires c κs =
    let n = ap length c.numbers_of.ensures ∙ numbers-length c.args.table.now c.requires.0 in
    let z = ap (λ (z : Sizes). z.rules) c.sizes_of-z.ensures in
    (omega arith, omega (arith, c.requires.0.rules), c.requires.1)

returns : tie.Need-returns-then-not-index_rules
returns c =
    numbers-wrong _ c.requires.0 c.sizes_of-z.ensures c.numbers_of.ensures c.index_rules.ensures
    (not-true _ c.if-not-index_rules.true-raw)

rules-ok-requires : tie.Need-rules_ok-requires
rules-ok-requires c κs =
    cuts
    _
    c.requires.0
    c.sizes_of-z.ensures
    c.numbers_of.ensures
    c.index_rules.ensures
    (not-false _ c.if-not-index_rules.false-raw)
    c.atom_words_of.ensures

returns-2 : tie.Need-returns
returns-2 c =
    numbers-right
    _
    c.requires.0
    c.sizes_of-z.ensures
    c.numbers_of.ensures
    c.index_rules.ensures
    (not-false _ c.if-not-index_rules.false-raw)
    c.atom_words_of.ensures
    c.rules_ok.ensures

pub contents_ok_spec : {M : Type 1} → statement M
contents_ok_spec =
    tie.close
    (tie.spec
    (λ c κs. search rules)
    (λ c κs. search rules)
    index-rules-requires
    returns
    (λ c κs. search rules)
    rules-ok-requires
    returns-2)
