-- `group_page` meets its contract: the loop pages the choices by their first place (`Within`).
use Prim.Native.Nat.{ℕ, ◌+◌, ◌-◌, ◌/◌, ◌%◌, ◌≤◌, ◌<◌}
use mathlib.Core.Bool.{true, false}
use mathlib.Core.Path.{◌≡◌, refl, sym, ap, ◌∙◌}
use mathlib.Core.List.{List, ◌++◌}
use native.Mathlib.Omega.{arith}
use borrow.Author.Tests.{eq-eqb, ne_eqb}
use lib.Dec.{eqb}
use lib.ListN.{length, get_or, take}
use lib.Seq.{length-take-le, get_or-take}
use Rattle.lists.specs.Choosing.{choices_in, choices_by_group}
use Rattle.lists.specs.Tuples.{from_end, from-pass, from-here}
use Rattle.lists.specs.Pages.{Paging, paging-start, paging-pass, paging-skip, paging-more, paging-end, paging-full, paged-le, paged-length}
use Rattle.choices.specs.Words.{choice_words, five-words}
use Rattle.choices.specs.Widths.{widths_of}
use Rattle.groups.specs.Groups.{left_in}
use Rattle.groups.specs.Left.{grouped-sized}
use Rattle.groups.proofs.Within.{groups_from, rest_of, no_picks, groups-start-of, InGroup, in_group}
use borrow.Author.Rules.{rules}
use Rattle.groups.proofs.pages.group_page.Statement.{statement}
use Rattle.groups.proofs.pages.group_page.Tie as tie

abbrev Inv : tie.invariant-loop-p
Inv keys n k counts head first count target₀ at takes t skip₀ done₀ p₀ target skip done p =
    (p ≤ n) × Paging (choice_words head no_picks 0) 5 (choices_by_group (take n keys) (take k takes))
    (groups_from (take n keys) (get_or takes 0 0) (rest_of takes k) p) first count skip done at target₀ target

abbrev μ : tie.decreases-loop-p
μ keys n k counts head first count target₀ at takes t skip₀ done₀ p₀ target skip done p = n - p

-- a turn's place, among the keys in use
inside : (c : tie.In-loop-p Inv μ) → c.loop-p.p < length (take c.args.n c.args.keys.now)
inside c =
    let b = c.requires.0.0 in
    rw (length-take-le c.args.n c.args.keys.now (omega (arith, b.few, b.size))) c.loop-p-test.true

-- .. and its key
here : (c : tie.In-loop-p Inv μ) → get_or (take c.args.n c.args.keys.now) c.loop-p.p 0
    ≡ get_or c.args.keys.now c.loop-p.p 0
here c = get_or-take c.args.n c.args.keys.now c.loop-p.p 0 c.loop-p-test.true

small : (c : tie.In-loop-p Inv μ) → get_or c.args.keys.now c.loop-p.p 0 < 524288
small c = c.requires.0.0.below c.loop-p.p c.loop-p-test.true

done-le : (c : tie.In-loop-p Inv μ) → c.loop-p.done ≤ c.args.count
done-le c = paged-le _ 5 c.loop-p.invariant.1.paged

loop-holds : tie.Need-loop-p-init Inv μ
loop-holds c =
    let a = c.args in
    let p = c.requires.0 in
    let four : length a.takes ≡ 4 = search rules in (
      omega arith,
      paging-pass (choice_words a.head no_picks 0) 5 (five-words a.head no_picks 0 refl)
          (paging-start (choice_words a.head no_picks 0) 5 (choices_by_group (take a.n a.keys.now) (take a.k a.takes)) a.first a.count
          a.at a.target.now)
          (groups-start-of (take a.n a.keys.now) a.k p.1 p.2 a.takes four),
    )

returns : tie.Need-returns-then-done-count Inv μ
returns c =
    let a = c.args in
    paging-full (choice_words a.head no_picks 0) 5 (five-words a.head no_picks 0 refl) c.loop-p.invariant.1 c.if-done-count.true

loop-again : tie.Need-loop-p-preserved-then-key-t Inv μ
loop-again c =
    let a = c.args in
    let l = c.loop-p in
    let ks = take a.n a.keys.now in
    let off : eqb (get_or ks l.p 0 % 512) (get_or a.takes 0 0) ≡ false = rw (here c.before.before.before.before) (ne_eqb _ _ c.if-key-t.true) in (
      omega (arith, c.loop-p-test.true),
      paging-pass (choice_words a.head no_picks 0) 5 (five-words a.head no_picks 0 refl) l.invariant.1
          (from-pass (choices_in ks (get_or a.takes 0 0) (rest_of a.takes a.k)) (λ p. eqb (get_or ks p 0 % 512) (get_or a.takes 0 0)) (length ks) l.p
          (inside c.before.before.before.before) off),
    )

-- where the key is on the first port, the choices are within its group
grouped : (c : tie.Else-key-t Inv μ) → InGroup
    (take c.args.n c.args.keys.now)
    c.args.takes
    c.args.k
    c.loop-p.p
    (widths_of c.args.takes
    (left_in c.args.counts.now
    (get_or c.args.keys.now c.loop-p.p 0 / 512))
    c.args.k)
grouped c =
    let a = c.args in
    let p = c.requires.0 in
    let four : length a.takes ≡ 4 = search rules in
    let first : get_or (take a.n a.keys.now) c.loop-p.p 0 % 512 ≡ get_or a.takes 0 0 = rw (here c.before.before.before.before)
    (omega (arith, c.if-key-t.false)) in
    rw (here c.before.before.before.before) at (in_group (take a.n a.keys.now) a.k p.1 p.2 a.takes four p.3 c.loop-p.p (inside c.before.before.before.before)
    (rw (here c.before.before.before.before) (small c.before.before.before.before)) first)

-- .. and come next
next : (c : tie.Else-key-t Inv μ) → groups_from
    (take c.args.n c.args.keys.now)
    (get_or c.args.takes 0 0)
    (rest_of c.args.takes c.args.k)
    c.loop-p.p
    ≡ choices_in
    (take c.args.n c.args.keys.now)
    (get_or c.args.takes 0 0)
    (rest_of c.args.takes c.args.k)
    c.loop-p.p
    ++ groups_from
    (take c.args.n c.args.keys.now)
    (get_or c.args.takes 0 0)
    (rest_of c.args.takes c.args.k)
    (c.loop-p.p + 1)
next c =
    let a = c.args in
    let ks = take a.n a.keys.now in
    let q : eqb (get_or ks c.loop-p.p 0 % 512) (get_or a.takes 0 0) ≡ true = rw (here c.before.before.before.before)
    (eq-eqb (get_or a.keys.now c.loop-p.p 0 % 512) (get_or a.takes 0 0) (omega (arith, c.if-key-t.false))) in
    from-here (choices_in ks (get_or a.takes 0 0) (rest_of a.takes a.k)) (λ p. eqb (get_or ks p 0 % 512) (get_or a.takes 0 0)) (length ks)
    c.loop-p.p (inside c.before.before.before.before) q

widths-in-requires : tie.Need-widths_in-below-requires Inv μ
widths-in-requires c κs =
    (grouped-sized c.requires.0.3, small c.before.before.before.before)

loop-again-2 : tie.Need-loop-p-preserved-then-width-skip Inv μ
loop-again-2 c =
    let a = c.args in
    let w = (grouped c.before.before).width ∙ sym (ap (λ (x : List ℕ). get_or x 0 0) c.widths_in-below.ensures) in (
      omega (arith, c.loop-p-test.true),
      rw (← w) (paging-skip (choice_words a.head no_picks 0) 5 (five-words a.head no_picks 0 refl) c.loop-p.invariant.1
          (choices_in (take a.n a.keys.now) (get_or a.takes 0 0) (rest_of a.takes a.k) c.loop-p.p)
          (groups_from (take a.n a.keys.now) (get_or a.takes 0 0) (rest_of a.takes a.k) (c.loop-p.p + 1)) (next c.before.before)
          (rw w c.if-width-skip.true)),
    )

shifted-requires : tie.Need-shifted-wanted-requires Inv μ
shifted-requires c κs =
    (omega (arith, small c.before.before.before.before.before.before), c.requires.1.2)

fill-requires : tie.Need-fill-done-requires Inv μ
fill-requires c κs =
    let b = c.requires.0.0 in
    let l = c.loop-p in
    let g = grouped c.before.before.before.before in
    let z = paged-length _ 5 l.invariant.1.paged in
    let k : get_or (take c.args.n c.args.keys.now) l.p 0 ≡ get_or c.args.keys.now l.p 0 = here c.before.before.before.before.before.before.before.before in (
      (c.requires.0.1, c.requires.0.2, b.few, b.size),
      (
        (omega (arith, c.requires.1.0), omega (arith, c.requires.1.1, z, done-le c.before.before.before.before.before.before.before.before)),
        (rw (c.shifted-wanted.ensures, c.widths_in-below.ensures) (rw k at g.widths), rw c.shifted-wanted.ensures (rw k at g.used)),
      ),
    )

add_done : tie.Need-overflow_add-done Inv μ
add_done c =
    omega (arith, paged-le _ 5 c.fill-done.ensures, done-le c.before.before.before.before.before.before.before.before.before.before.before, c.requires.1.0)

loop-again-3 : tie.Need-loop-p-preserved Inv μ
loop-again-3 c =
    let a = c.args in
    let l = c.loop-p in
    let g = grouped c.before.before.before.before.before.before.before in
    let k : get_or (take a.n a.keys.now) l.p 0 ≡ get_or a.keys.now l.p 0 = here
    c.before.before.before.before.before.before.before.before.before.before.before in
    let w = g.width ∙ sym (ap (λ (x : List ℕ). get_or x 0 0) c.widths_in-below.ensures) in
    let wrote = g.paged (rw (c.shifted-wanted.ensures, ← k) at c.fill-done.ensures) in
    let more = paging-more (choice_words a.head no_picks 0) 5 (five-words a.head no_picks 0 refl) l.invariant.1
    (choices_in (take a.n a.keys.now) (get_or a.takes 0 0) (rest_of a.takes a.k) l.p)
    (groups_from (take a.n a.keys.now) (get_or a.takes 0 0) (rest_of a.takes a.k) (l.p + 1)) _ _ (next c.before.before.before.before.before.before.before)
    wrote in
    let none : l.skip - length (choices_in (take a.n a.keys.now) (get_or a.takes 0 0) (rest_of a.takes a.k) l.p) ≡ 0 = omega
    (arith, w, c.if-width-skip.false) in
    (omega (arith, c.loop-p-test.true), rw none at more)

returns-2 : tie.Need-returns Inv μ
returns-2 c =
    let a = c.args in
    let b = c.requires.0.0 in
    let l = c.loop-p in
    let ks = take a.n a.keys.now in
    let past : length ks ≤ l.p = rw (length-take-le a.n a.keys.now (omega (arith, b.few, b.size))) c.loop-p-test.false in
    paging-end (choice_words a.head no_picks 0) 5 (five-words a.head no_picks 0 refl) l.invariant.1
    (from_end (choices_in ks (get_or a.takes 0 0) (rest_of a.takes a.k)) (λ p. eqb (get_or ks p 0 % 512) (get_or a.takes 0 0)) (length ks) l.p past)

few : (c : tie.In-loop-p Inv μ) → c.loop-p.p < 1024
few c = omega (arith, c.loop-p-test.true, c.requires.0.0.few)

pub group_page_spec : {M : Type 1} → statement M
group_page_spec =
    tie.close
    (tie.spec
    Inv
    μ
    (λ c. search rules)
    loop-holds
    (λ c. paged-length _ 5 c.loop-p.invariant.1.paged)
    returns
    (λ c. omega (arith, few c.before))
    (λ c. omega (arith, few c.before.before, c.requires.0.0.size))
    (λ c. omega (arith, few c.before.before.before.before))
    (λ c. omega (arith, c.loop-p-test.true))
    loop-again
    widths-in-requires
    (λ c. search rules)
    (λ c. omega (arith, few c.before.before.before.before.before.before))
    (λ c. omega (arith, c.loop-p-test.true))
    loop-again-2
    (λ c. omega (arith, c.if-key-t.false))
    shifted-requires
    (λ c. omega (arith, few c.before.before.before.before.before.before.before))
    (λ c. omega (arith, done-le c.before.before.before.before.before.before.before))
    (λ c. let d = done-le c.before.before.before.before.before.before.before.before in search rules)
    (λ c. let d = done-le c.before.before.before.before.before.before.before.before in search rules)
    fill-requires
    add_done
    (λ c. omega (arith, few c.before.before.before.before.before.before.before.before.before.before.before))
    (λ c. omega (arith, c.loop-p-test.true))
    loop-again-3
    (λ c. paged-length _ 5 c.loop-p.invariant.1.paged)
    returns-2)
