-- `first_counted` meets its contract: what begins at place p or later has the first choice looked for.
use Prim.Native.Nat.{◌-◌}
use mathlib.Core.Path.{◌∙◌}
use native.Mathlib.Omega.{arith}
use borrow.Author.Rules.{rules}
use lib.ListN.{get_or, take, drop}
use Rattle.first_choice.specs.Choice.{first_choice, begin_from}
use Rattle.first_choice.proofs.Places.{Standing, standing-start, standing-next, standing-found, standing-end}
use Rattle.first_choice.proofs.grouped.first_counted.Statement.{statement}
use Rattle.first_choice.proofs.grouped.first_counted.Tie as tie

abbrev Inv : tie.invariant-loop-p
Inv owners items n stopped keys takes k counts from p₀ p =
    Standing owners items stopped takes n k (take n keys) (first_choice (begin_from (take n keys) (get_or takes 0 0) (drop 1 (take k takes)) from)) p

abbrev μ : tie.decreases-loop-p
μ owners items n stopped keys takes k counts from p₀ p = n - p

abbrev start : tie.In-loop-p Inv μ → tie.Start Inv μ
start turn = turn.before.before.before.before.before

choose-counted-requires : tie.Need-choose_counted-choice-requires Inv μ
choose-counted-requires c κs =
    let s = start c in
    let l = c.loop-p in
    (s.requires.0.0, (s.requires.1, (c.loop-p-test.true, l.invariant.on c.loop-p-test.true)))

returns : tie.Need-returns-then-choice Inv μ
returns c =
    let h = (start c.before.before.before).requires.0.0.grouped in
    c.passed_on.ensures
    ∙ standing-found h c.loop-p.invariant c.loop-p-test.true c.choose_counted-choice.ensures c.if-choice.true

loop-again : tie.Need-loop-p-preserved Inv μ
loop-again c =
    let h = (start c.before.before.before.before.before).requires.0.0.grouped in
    standing-next h c.loop-p.invariant c.loop-p-test.true c.choose_counted-choice.ensures c.if-choice.false
    c.next_fit-p-in-loop-p.ensures

next-fit-requires-2 : tie.Need-next_fit-p-requires-in-loop-p Inv μ
next-fit-requires-2 c κs =
    ((start c.before.before.before.before).requires.0.0.columns, omega (arith, c.loop-p-test.true))

pub first_counted_spec : {M : Type 1} → statement M
first_counted_spec =
    tie.close
    (tie.spec
    Inv
    μ
    (λ c. search rules)
    (λ c κs. (c.requires.0.0.columns, c.requires.0.1))
    (λ c. standing-start c.requires.0.0.grouped c.next_fit-p.ensures)
    choose-counted-requires
    (λ c κs. c.if-choice.true)
    returns
    (λ c. omega (arith, c.loop-p-test.true, (start c.before.before).requires.0.0.columns.fits))
    (λ c. search rules)
    next-fit-requires-2
    (λ c. omega (arith, c.next_fit-p-in-loop-p.ensures.low, c.loop-p-test.true))
    loop-again
    (λ c. standing-end c.requires.0.0.grouped c.loop-p.invariant c.loop-p-test.false))
