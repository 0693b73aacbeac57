-- `first_grouped`: what begins at place p or later has the first choice looked for.
use Prim.Native.Nat.{◌-◌, ◌≤◌}
use mathlib.Core.Path.{◌≡◌, ◌∙◌}
use native.Mathlib.Omega.{arith}
use borrow.Author.Rules.{rules}
use lib.ListN.{length, take}
use Rattle.lists.specs.Choosing.{choices_by_group}
use Rattle.offers.specs.Offers.{column_keys}
use Rattle.first_choice.specs.Choice.{first_choice, GroupKeys}
use Rattle.first_choice.proofs.Places.{Standing, standing-start, standing-next, standing-found, standing-end, by-group}
use Rattle.first_choice.proofs.Fits.{groupable-keys}
use Rattle.first_choice.proofs.tries.first_grouped.Statement.{statement}
use Rattle.first_choice.proofs.tries.first_grouped.Tie as tie

abbrev Inv : tie.invariant-loop-p
Inv z owners items at stopped takes k keys₀ n most tries₀ p₀ keys tries p =
    (tries ≤ most) × (length keys ≡ 1024)
    × Standing owners items stopped takes n k (column_keys z stopped owners items n)
    (first_choice (choices_by_group (column_keys z stopped owners items n) (take k takes))) p

abbrev μ : tie.decreases-loop-p
μ z owners items at stopped takes k keys₀ n most tries₀ p₀ keys tries p = n - p

abbrev start : tie.In-loop-p Inv μ → tie.Start Inv μ
start turn = turn.before.before.before.before.before.before

keyed : (s : tie.Start Inv μ)
    → GroupKeys s.args.owners.now s.args.items.now s.args.stopped.now s.args.takes.now s.args.at.len s.args.k
    (column_keys s.args.z s.args.stopped.now s.args.owners.now s.args.items.now s.args.at.len)
keyed s = groupable-keys s.requires.0

loop-holds : tie.Need-loop-p-init Inv μ
loop-holds c =
    let a = c.args in
    let some : 1 ≤ length a.takes.now = omega (arith, c.requires.0.four) in
    let whole = by-group (column_keys a.z a.stopped.now a.owners.now a.items.now a.at.len) a.k c.requires.0.some a.takes.now some in
    (omega arith, c.requires.1, rw (← whole) (standing-start (keyed c.before.before.before.before) c.next_fit-p.ensures))

choose-by-keys-requires : tie.Need-choose_by_keys-requires Inv μ
choose-by-keys-requires c κs =
    let l = c.loop-p in
    ((start c.before.before).requires.0, l.invariant.2.within, l.invariant.1)

returns : tie.Need-returns-then-tries-most Inv μ
returns c =
    let l = c.loop-p in
    (c.choose_by_keys.ensures.0 ∙ l.invariant.2.first, c.choose_by_keys.ensures.1)

choose-within-requires : tie.Need-choose_within-choice-requires Inv μ
choose-within-requires c κs =
    let g = (start c.before).requires.0 in
    let low = c.loop-p-test.true in
    (g.columns, g.some, g.most, low, g.four, c.loop-p.invariant.2.on low)

returns-2 : tie.Need-returns-then-choice Inv μ
returns-2 c =
    let h = keyed (start c.before.before.before.before) in
    let l = c.loop-p in (
      c.passed_on.ensures
          ∙ standing-found h l.invariant.2 c.loop-p-test.true (c.choose_within-choice.ensures _ h) c.if-choice.true,
      l.invariant.1,
    )

next-fit-requires-2 : tie.Need-next_fit-p-requires-in-loop-p Inv μ
next-fit-requires-2 c κs =
    ((start c.before.before.before.before.before).requires.0.columns, omega (arith, c.loop-p-test.true))

loop-again : tie.Need-loop-p-preserved Inv μ
loop-again c =
    let h = keyed (start c.before.before.before.before.before.before) in
    let l = c.loop-p in (
      omega (arith, l.invariant.0, c.if-tries-most.false),
      l.invariant.1,
      standing-next h l.invariant.2 c.loop-p-test.true (c.choose_within-choice.ensures _ h) c.if-choice.false c.next_fit-p-in-loop-p.ensures,
    )

pub first_grouped_spec : {M : Type 1} → statement M
first_grouped_spec =
    tie.close
    (tie.spec
    Inv
    μ
    (λ c κs. search rules)
    (λ c. search rules)
    (λ c κs. (c.requires.0.columns, omega arith))
    loop-holds
    choose-by-keys-requires
    returns
    choose-within-requires
    (λ c κs. c.if-choice.true)
    returns-2
    (λ c. omega (arith, c.loop-p.invariant.0, c.tries_of-most.ensures))
    (λ c.
    omega (arith, c.loop-p-test.true, (start c.before.before.before).requires.0.columns.fits))
    (λ c. search rules)
    next-fit-requires-2
    (λ c. omega (arith, c.next_fit-p-in-loop-p.ensures.low, c.loop-p-test.true))
    loop-again
    (λ c. (standing-end (keyed c.before.before.before.before.before.before) c.loop-p.invariant.2 c.loop-p-test.false, c.loop-p.invariant.1)))
