-- `verdict::rules_ok` meets its contract: the rules so far are right.
use borrow.Author.Rules.{rules}
use borrow.Author.Tests.{not-true, not-false}
use Prim.Native.Nat.{ℕ, ◌-◌, ◌≤◌}
use mathlib.Core.Bool.{Bool, true}
use mathlib.Core.List.{List}
use mathlib.Core.Path.{◌≡◌, sym, ap, ◌∙◌}
use native.Mathlib.Omega.{arith}
use Rattle.lists.specs.Lists.{all_below}
use Rattle.lists.specs.Walk.{below_next, below_false}
use Rattle.semantics.specs.declared.Sizes.{Sizes}
use Rattle.semantics.specs.Table.{rule_ok}
use Rattle.table.specs.Index.{cut}
use Rattle.table.proofs.verdict.rules_ok.Statement.{statement}
use Rattle.table.proofs.verdict.rules_ok.Tie as tie

-- rule r is right
abbrev right : List ℕ → List ℕ → Sizes → ℕ → Bool
right words starts z r = rule_ok z (cut starts r words)

abbrev invariant-loop : tie.invariant-loop-r
invariant-loop words starts z rules r₀ r = (r ≤ z.rules) × (all_below r (right words starts z) ≡ true)

abbrev decreases-loop : tie.decreases-loop-r
decreases-loop words starts z rules r₀ r = z.rules - r

rule-words-requires : tie.Need-rule_words-requires invariant-loop decreases-loop
rule-words-requires c κs = c.requires c.loop-r.r (search rules)

returns : tie.Need-returns-then-not-rule_ok invariant-loop decreases-loop
returns c =
    let a = c.args in
    let l = c.loop-r in
    let answer = c.rule_ok.ensures ∙ ap (rule_ok a.z) c.rule_words.ensures in
    sym (below_false (right a.words.now a.starts.now a.z) a.z.rules l.r (search rules) (sym answer ∙ not-true _ c.if-not-rule_ok.true-raw))

loop-again : tie.Need-loop-r-preserved invariant-loop decreases-loop
loop-again c =
    let a = c.args in
    let l = c.loop-r in
    let answer = c.rule_ok.ensures ∙ ap (rule_ok a.z) c.rule_words.ensures in
    (search rules, below_next (right a.words.now a.starts.now a.z) l.r l.invariant.1 (sym answer ∙ not-false _ c.if-not-rule_ok.false-raw))

returns-2 : tie.Need-returns invariant-loop decreases-loop
returns-2 c =
    let a = c.args in
    let l = c.loop-r in
    let e : a.z.rules ≡ l.r = omega arith in
    sym (ap (λ (k : ℕ). all_below k (right a.words.now a.starts.now a.z)) e ∙ l.invariant.1)

pub rules_ok_spec : {M : Type 1} → statement M
rules_ok_spec =
    tie.close
    (tie.spec
    invariant-loop
    decreases-loop
    (λ c. search rules)
    (λ c. search rules)
    rule-words-requires
    (λ c κs. search rules)
    returns
    (λ c. search rules)
    (λ c. search rules)
    loop-again
    returns-2)
