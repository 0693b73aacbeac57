-- `end_of_few` meets its contract: no transaction before has an open commit.
use Prim.Native.Nat.{ℕ, ◌-◌, ◌≤◌, ◌<◌}
use mathlib.Core.List.{List, []}
use mathlib.Core.Path.{◌≡◌, sym, ◌∙◌}
use native.Mathlib.Omega.{arith}
use borrow.Author.Rules.{rules}
use Rattle.semantics.specs.Table.{Table}
use Rattle.first_end.proofs.FirstEnds.{CommitInTurn, found-above, turn-behind, turn-above, turn-commits, turns-over}
use Rattle.first_end.proofs.end_of_few.Statement.{statement}
use Rattle.first_end.proofs.end_of_few.Tie as tie

abbrev Inv : tie.invariant-loop-low
Inv owners items at globals stopped free n low₀ low =
    (1 ≤ low) × ((gs : List ℕ) (T : Table) → T.sizes.globals ≡ globals → CommitInTurn owners items gs at T low)

abbrev μ : tie.decreases-loop-low
μ owners items at globals stopped free n low₀ low = 65536 - low

loop-holds : tie.Need-loop-low-init Inv μ
loop-holds c =
    let a = c.args in
    let p = c.requires.0 in
    let (low, first, inside) = c.requires.1 in
    let is = c.lowest_owner-low.ensures a.items.now in (
      omega (arith, found-above a.owners.now a.items.now [] a.at p.1 p.2 a.free low (is [])),
      λ gs T ports. turn-behind a.owners.now a.items.now gs a.at p.1 p.2 T a.at.len (omega arith) a.globals ports
          (p.3 gs) (first gs) low (inside gs) (is gs),
    )

-- where it is known whether the lowest may be committed
abbrev start : tie.After-may_commit Inv μ → tie.Start Inv μ
start m = m.before.before.before.before

-- the next one is above it
rises : (c : tie.After-lowest_owner-low-in-loop-low Inv μ) → c.loop-low.low < c.lowest_owner-low-in-loop-low.result
rises c =
    let s = start c.before.before in
    let a = s.args in
    found-above a.owners.now a.items.now [] a.at s.requires.0.1 s.requires.0.2 c.loop-low.low c.loop-low-test.true
    (c.lowest_owner-low-in-loop-low.ensures a.items.now [])

loop-again : tie.Need-loop-low-preserved Inv μ
loop-again c =
    let s = start c.before.before in
    let a = s.args in
    let l = c.loop-low in (
      omega (arith, rises c),
      λ gs T ports.
          turn-above a.owners.now a.items.now gs a.at s.requires.0.1 s.requires.0.2 T (l.invariant.1 gs T ports) c.loop-low-test.true
          (sym c.if-may_commit.false ∙ c.may_commit.ensures gs T ports) (c.lowest_owner-low-in-loop-low.ensures a.items.now gs),
    )

returns : tie.Need-returns-then-may_commit Inv μ
returns c gs T ceiling ports few =
    let s = start c.before.before in
    let a = s.args in
    c.end_of.ensures
    ∙ turn-commits a.owners.now a.items.now gs a.at s.requires.0.1 s.requires.0.2 T ceiling few (c.loop-low.invariant.1 gs T ports)
    c.loop-low-test.true (sym c.if-may_commit.true ∙ c.may_commit.ensures gs T ports)

returns-2 : tie.Need-returns Inv μ
returns-2 c gs T ceiling ports few =
    let a = c.args in
    c.first_abort.ensures gs T ceiling few
    ∙ turns-over a.owners.now a.items.now gs a.at c.requires.0.1 c.requires.0.2 T ceiling few (c.loop-low.invariant.1 gs T ports)
    c.loop-low-test.false

pub end_of_few_spec : {M : Type 1} → statement M
end_of_few_spec =
    tie.close
    (tie.spec
    Inv μ
    (λ c. search rules)
    (λ c κs. search rules)
    loop-holds
    (λ c κs. search rules)
    (λ c κs. search rules)
    returns
    (λ c. search rules)
    (λ c κs. search rules)
    (λ c. omega (arith, rises c))
    loop-again
    (λ c κs. search rules)
    returns-2)
