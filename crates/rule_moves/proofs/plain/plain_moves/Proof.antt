-- `plain_moves` meets its contract: the count is a product (`PlainCount`), and the page is `fill`'s.
use Prim.Native.Nat.{ℕ, ◌*◌, ◌≤◌}
use mathlib.Core.Bool.{Bool, true, ◌||◌}
use mathlib.Core.Path.{◌≡◌, sym, ap, ◌∙◌}
use mathlib.Core.List.{List, []}
use native.Mathlib.Nat.{lt_of_le_of_lt}
use native.Mathlib.Omega.{arith}
use borrow.Author.Tests.{eqb-true, leb-true}
use lib.Dec.{lit<, eqb, leb}
use lib.ListN.{length, get_or, take}
use lib.Seq.{length-take-le}
use Rattle.lists.specs.Choosing.{choices_from}
use Rattle.lists.specs.Choices.{by_bool}
use Rattle.lists.specs.Pages.{Paged, paged-past, paged-empty, paged-length}
use Rattle.lists.specs.Ways.{used-none}
use Rattle.rule_moves.proofs.PlainCount.{counts-few, left-few, plain-widths, plain-length, length-small}
use borrow.Author.Rules.{rules}
use Rattle.rule_moves.proofs.plain.plain_moves.Statement.{statement}
use Rattle.rule_moves.proofs.plain.plain_moves.Tie as tie

-- the keys in use
few : (s : tie.Start) → length (take s.args.n s.args.keys.now) ≤ 1024
few s = rw (length-take-le s.args.n s.args.keys.now (omega (arith, s.requires.0))) s.requires.0.0

counts-at-requires : tie.Need-counts_at-left-requires
counts-at-requires c κs =
    let p = c.requires.0 in
    (p.2.size, p.3, counts-few (take c.args.n c.args.keys.now) c.args.counts.now c.args.takes (few c.before) p.2 p.3)

widths-requires : tie.Need-widths-below-requires
widths-requires c κs =
    let p = c.requires.0 in
    rw c.counts_at-left.ensures (left-few (take c.args.n c.args.keys.now) c.args.counts.now c.args.takes (few c.before.before) p.2 p.3)

-- the product of the two calls' first numbers
bound : (c : tie.After-widths-below) → get_or c.counts_at-left.result 0 0 * get_or c.widths-below.result 0 0 ≤ 1099511627776
bound c =
    let p = c.requires.0 in
    let four : length c.args.takes ≡ 4 = search rules in
    rw (c.widths-below.ensures, c.counts_at-left.ensures)
    (length-small (take c.args.n c.args.keys.now) c.args.counts.now c.args.takes (few c.before.before.before) p.2 p.3 four c.args.k p.4 p.5)

total : (c : tie.After-widths-below) → get_or c.counts_at-left.result 0 0 * get_or c.widths-below.result 0 0
    ≡ length (choices_from (take c.args.n c.args.keys.now) []
    (take c.args.k c.args.takes))
total c =
    let p = c.requires.0 in
    let four : length c.args.takes ≡ 4 = search rules in
    rw (c.widths-below.ensures, c.counts_at-left.ensures)
    (plain-length (take c.args.n c.args.keys.now) c.args.counts.now c.args.takes (few c.before.before.before) p.2 p.3 four c.args.k p.4 p.5)

-- no room on the page, or the page begins behind the rule's choices
unwritten : (words : List ℕ → List ℕ) (xs : List (List ℕ)) (len first count at : ℕ) (before : List ℕ) → len ≡ length xs
    → eqb count 0 || leb len first ≡ true → Paged words 5 xs first count at before before 0
unwritten words xs len first count at before t h = by_bool (eqb count 0)
    (λ e. rw (eqb-true count 0 e) (paged-empty words 5 xs first at before))
    (λ e. paged-past words 5 xs first count at before (rw (← t) (leb-true len first (sym (ap (λ (b : Bool). b || leb len first) e) ∙ h))))

returns : tie.Need-returns-then-count-length
returns c =
    let t = total c.before in
    (record { total = t; paged = unwritten _ _ _ _ _ _ _ t c.if-count-length.true }, bound c.before)

fill-requires : tie.Need-fill-written-requires
fill-requires c κs =
    let p = c.requires.0 in
    let four : length c.args.takes ≡ 4 = search rules in (
      (omega arith, p.5, p.0, p.1),
      (
        c.requires.1,
        (
          rw (c.widths-below.ensures, c.counts_at-left.ensures)
              (plain-widths (take c.args.n c.args.keys.now) c.args.counts.now c.args.takes (few c.before.before.before.before.before) p.2 p.3 four c.args.k
              p.4 p.5),
          used-none (take c.args.n c.args.keys.now),
        ),
      ),
    )

returns-2 : tie.Need-returns
returns-2 c =
    (record { total = total c.before.before.before.before.before; paged = c.fill-written.ensures }, bound c.before.before.before.before.before)

pub plain_moves_spec : {M : Type 1} → statement M
plain_moves_spec =
    tie.close
    (tie.spec
    counts-at-requires
    widths-requires
    (λ c. search rules)
    (λ c. search rules)
    (λ c. record { fits = lt_of_le_of_lt (bound c) (lit< tt) })
    returns
    fill-requires
    (λ c. paged-length _ 5 c.fill-written.ensures)
    returns-2)
