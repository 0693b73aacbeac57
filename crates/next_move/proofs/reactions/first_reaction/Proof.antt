-- `first_reaction` meets its contract: the rules before r have no reaction.
use Prim.Native.Nat.{ℕ, ◌+◌, ◌-◌, ◌≤◌, ◌<◌}
use mathlib.Core.Bool.{true, false}
use mathlib.Core.List.{List}
use mathlib.Core.Path.{◌≡◌, sym, ap, ◌∙◌}
use native.Mathlib.Omega.{arith}
use lib.ListN.{length}
use Rattle.lists.specs.Tuples.{each_up, up_start, up-end, up-here}
use Rattle.semantics.specs.Table.{sizes_of, table_of, rule_at}
use Rattle.semantics.specs.Move.{Move}
use Rattle.wellformed.specs.Tables.{well-formed}
use Rattle.rule_moves.specs.Takes.{moves_by, reactions_by}
use Rattle.offers.specs.Offers.{column_keys}
use Rattle.first_end.specs.declared.First.{First}
use Rattle.first_end.specs.First.{first_move}
use Rattle.next_move.proofs.Firsts.{first-here, first-behind}
use borrow.Author.Rules.{rules}
use Rattle.next_move.proofs.reactions.first_reaction.Statement.{statement}
use Rattle.next_move.proofs.reactions.first_reaction.Tie as tie

abbrev by : ℕ → List ℕ → ℕ → ℕ → List ℕ → ℕ → List Move
by ceiling t n next ks r = moves_by ceiling (rule_at (table_of t) r) r n next ks

-- the reactions from rule r on
abbrev from : ℕ → List ℕ → ℕ → ℕ → List ℕ → ℕ → List Move
from ceiling t n next ks r = each_up (by ceiling t n next ks) (sizes_of t).rules r

abbrev Inv : tie.invariant-loop-r
Inv table starts wants owners items at stopped totals ceiling keys₀ rules r₀ keys r =
    (first_move (from ceiling table at.len at.next (column_keys (sizes_of table) stopped owners items at.len) r)
    ≡ first_move (reactions_by ceiling table at.len at.next (column_keys (sizes_of table) stopped owners items at.len)))
    × (r ≤ (sizes_of table).rules) × (length keys ≡ 1024)

abbrev μ : tie.decreases-loop-r
μ table starts wants owners items at stopped totals ceiling keys₀ rules r₀ keys r = (sizes_of table).rules - r

below : (c : tie.In-loop-r Inv μ) → c.loop-r.r < (sizes_of c.args.table.now).rules
below c = rw (← ap (λ z. z.rules) c.sizes_of-rules.ensures) c.loop-r-test.true

-- what each rule has, of the columns handed in
abbrev rules_of : tie.Start Inv μ → ℕ → List Move
rules_of s =
    let a = s.args in
    by a.ceiling a.table.now a.at.len a.at.next
    (column_keys (sizes_of a.table.now) a.stopped.now a.owners.now a.items.now a.at.len)

loop-holds : tie.Need-loop-r-init Inv μ
loop-holds c =
    (ap first_move (up_start (rules_of c.before.before) (sizes_of c.args.table.now).rules), omega arith, c.requires.1)

returns : tie.Need-returns-then-first Inv μ
returns c =
    let l = c.loop-r in
    let a = c.args in
    let f = rules_of c.before.before.before.before.before.before.before.before in
    let (e, long) = c.first_of-first.ensures in
    let found : (first_move (f l.r)).found ≡ true = sym (ap (λ (x : First). x.found) e) ∙ c.if-first.true in (
      c.handed_on.ensures ∙ e ∙ first-here (f l.r) (each_up f (sizes_of a.table.now).rules (l.r + 1)) found
          ∙ sym (ap first_move (up-here f (sizes_of a.table.now).rules l.r (below c.before.before.before.before))) ∙ l.invariant.0,
      long,
    )

loop-again : tie.Need-loop-r-preserved Inv μ
loop-again c =
    let l = c.loop-r in
    let a = c.args in
    let f = rules_of c.before.before.before.before.before.before.before in
    let (e, long) = c.first_of-first.ensures in
    let none : (first_move (f l.r)).found ≡ false = sym (ap (λ (x : First). x.found) e) ∙ c.if-first.false in (
      first-behind (f l.r) (each_up f (sizes_of a.table.now).rules (l.r + 1)) none
          ∙ sym (ap first_move (up-here f (sizes_of a.table.now).rules l.r (below c.before.before.before))) ∙ l.invariant.0,
      omega (arith, below c.before.before.before),
      long,
    )

returns-2 : tie.Need-returns Inv μ
returns-2 c =
    let l = c.loop-r in
    let rules = (sizes_of c.args.table.now).rules in
    let z = ap (λ z. z.rules) c.sizes_of-rules.ensures in (
      c.none.ensures ∙ sym (ap first_move (up-end (rules_of c.before.before.before.before.before) rules l.r (rw (← z) c.loop-r-test.false))) ∙
          l.invariant.0,
      l.invariant.2,
    )

pub first_reaction_spec : {M : Type 1} → statement M
first_reaction_spec =
    tie.close
    (tie.spec
    Inv
    μ
    (λ c κs. (well-formed _ c.requires.0.indexed.table).sizes.long)
    loop-holds
    (λ c κs.
    (c.requires.0, below c.before, c.loop-r.invariant.2))
    (λ c κs. c.if-first.true)
    returns
    (λ c.
    omega (arith, below c.before.before.before, (well-formed c.args.table.now c.requires.0.indexed.table).sizes.rules))
    (λ c. omega (arith, below c.before.before.before))
    loop-again
    (λ c κs. search rules)
    returns-2)
