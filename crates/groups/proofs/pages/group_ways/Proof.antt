-- `group_ways`: the first count times the ways behind it.
use Prim.Native.Nat.{ℕ, ◌*◌, ◌≤◌}
use mathlib.Core.Path.{ap}
use mathlib.Core.List.{List}
use native.Mathlib.Nat.{mul-le-mul, lt_of_le_of_lt}
use native.Mathlib.Omega.{arith}
use lib.Dec.{lit<}
use lib.ListN.{get_or}
use Rattle.choices.specs.Widths.{widths-small}
use Rattle.groups.specs.Groups.{on_first, left_in}
use borrow.Author.Rules.{rules}
use Rattle.groups.proofs.pages.group_ways.Statement.{statement}
use Rattle.groups.proofs.pages.group_ways.Tie as tie

bound : (c : tie.After-group_widths-below) → on_first c.args.counts.now c.args.g * get_or c.group_widths-below.result 0 0 ≤ 1099511627776
bound c =
    let a = c.args in
    let p = c.requires in
    rw c.group_widths-below.ensures
    (mul-le-mul (p.0.firsts a.g p.1) (widths-small a.takes (left_in a.counts.now a.g) a.k (p.0.few a.g p.1)))

returns : tie.Need-returns
returns c =
    let a = c.args in
    (ap (λ (l : List ℕ). on_first a.counts.now a.g * get_or l 0 0) c.group_widths-below.ensures, bound c.before.before)

pub group_ways_spec : {M : Type 1} → statement M
group_ways_spec =
    tie.close
    (tie.spec
    (λ c κs. c.requires)
    (λ c. omega (arith, c.requires.1))
    (λ c. omega (arith, c.requires.1, c.requires.0.size))
    (λ c. search rules)
    (λ c. record { fits = lt_of_le_of_lt (bound c.before.before) (lit< tt) })
    returns)
