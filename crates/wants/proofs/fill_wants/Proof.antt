-- `fill_wants` meets its contract, rule by rule.
use Prim.Native.Nat.{ℕ, ◌+◌, ◌-◌, ◌≤◌, ◌<◌}
use mathlib.Core.List.{List}
use mathlib.Core.Path.{◌≡◌, ap, ◌∙◌}
use native.Mathlib.Omega.{arith}
use lib.ListN.{length, get_or, take, set, length-set}
use lib.Seq.{get_or-set_same, get_or-set_other}
use Rattle.lists.specs.Choices.{by_bool}
use borrow.Author.Tests.{eqb-true, eqb-false}
use lib.Dec.{eqb}
use Rattle.semantics.specs.Table.{sizes_of, table_of, rule_at, consumed}
use Rattle.wellformed.specs.Tables.{well-formed}
use Rattle.enabled.specs.Reactions.{consumed-below}
use Rattle.reaction.specs.Decoded.{rule-in, decodes-itself}
use Rattle.rule_moves.specs.Takes.{small-ports}
use Rattle.wants.specs.Wants.{WantedWord}
use borrow.Author.Rules.{rules}
use Rattle.wants.proofs.fill_wants.Statement.{statement}
use Rattle.wants.proofs.fill_wants.Tie as tie

-- the words of the rules before r
abbrev Inv : tie.invariant-loop-r
Inv table starts wants₀ rules r₀ wants r =
    (r ≤ (sizes_of table).rules) × (length wants ≡ 64) × ((q : ℕ) → q < r → WantedWord (consumed (rule_at (table_of table) q)) (get_or wants q 0))

abbrev μ : tie.decreases-loop-r
μ table starts wants₀ rules r₀ wants r = (sizes_of table).rules - r

below : (c : tie.In-loop-r Inv μ) → c.loop-r.r < (sizes_of c.args.table.now).rules
below c = rw (← ap (λ z. z.rules) c.sizes_of-z.ensures) c.loop-r-test.true

takes-of-requires : tie.Need-takes_of-requires Inv μ
takes-of-requires c κs =
    let d = c.rule_at-rule.ensures in
    (decodes-itself _ _ d, small-ports d (consumed-below c.args.table.now c.requires.0 c.loop-r.r (below c.before)))

-- one rule more
next : (f : ℕ → List ℕ) (wants : List ℕ) (r w : ℕ) → r < length wants → ((q : ℕ) → q < r → WantedWord (f q) (get_or wants q 0)) → WantedWord (f r) w
    → (q : ℕ) → q < r + 1 → WantedWord (f q) (get_or (set wants r w) q 0)
next f wants r w low all here q l = by_bool (eqb q r)
    (λ e. let p = eqb-true q r e in rw (p, get_or-set_same wants r w 0 low) here)
    (λ e. let p = eqb-false q r e in rw (get_or-set_other wants r q w 0 p) (all q (omega arith)))

few : (c : tie.In-loop-r Inv μ) → c.loop-r.r < 64
few c =
    omega (arith, below c, (well-formed c.args.table.now c.requires.0).sizes.rules)

loop-again : tie.Need-loop-r-preserved Inv μ
loop-again c =
    let loop = c.loop-r in
    let d = c.rule_at-rule.ensures in
    let rule = c.rule_at-rule.result in
    let ports : take rule.consumes c.takes_of.result ≡ consumed (rule_at (table_of c.args.table.now) loop.r) =
    c.takes_of.ensures.0 ∙ ap consumed (rule-in rule (rule_at (table_of c.args.table.now) loop.r) d) in
    let word = c.wants_of.ensures in (
      omega (arith, below c.before.before.before.before),
      length-set loop.wants loop.r c.wants_of.result ∙ loop.invariant.1,
      next (λ q. consumed (rule_at (table_of c.args.table.now) q)) loop.wants loop.r c.wants_of.result (omega
          (arith, few c.before.before.before.before, loop.invariant.1)) loop.invariant.2 (rw ports at word),
    )

returns : tie.Need-returns Inv μ
returns c =
    let loop = c.loop-r in
    let e = ap (λ z. z.rules) c.sizes_of-z.ensures in
    record { size = loop.invariant.1; each = λ r l. loop.invariant.2 r (omega (arith, c.loop-r-test.false, e)) }

pub fill_wants_spec : {M : Type 1} → statement M
fill_wants_spec =
    tie.close
    (tie.spec
    Inv
    μ
    (λ c κs. (well-formed _ c.requires.0).sizes.long)
    (λ c. (omega arith, search rules, λ q l. absurd (omega arith)))
    (λ c κs. (c.requires.0, below c, c.requires.1))
    takes-of-requires
    (λ c κs. (c.rule_at-rule.ensures.legal.most, c.takes_of.ensures.1))
    (λ c. search rules)
    (λ c. omega (arith, few c.before.before.before))
    (λ c. omega (arith, few c.before.before.before.before, c.loop-r.invariant.1))
    (λ c. omega (arith, few c.before.before.before.before))
    (λ c. omega (arith, below c.before.before.before.before))
    loop-again
    returns)
