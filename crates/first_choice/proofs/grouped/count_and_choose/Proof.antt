-- `count_and_choose`: the keys that are counted are those looked at, with their groups modulo 1,024.
use Prim.Native.Nat.{◌≤◌}
use native.Mathlib.Omega.{arith}
use borrow.Author.Rules.{rules}
use lib.ListN.{length}
use Rattle.lists.specs.Padded.{get_or-replicate-any}
use Rattle.first_choice.proofs.Buckets.{lows-below, lows-first}
use Rattle.first_choice.proofs.grouped.count_and_choose.Statement.{statement}
use Rattle.first_choice.proofs.grouped.count_and_choose.Tie as tie

long : (c : tie.Start) → c.args.n ≤ length c.args.keys.now
long c = omega (arith, c.requires.0.columns.fits, c.requires.0.long)

count-groups-requires : tie.Need-count_groups-requires
count-groups-requires c κs =
    let a = c.args in
    let b = c.requires.0 in (
      (
        rw c.low_keys-lows.ensures (lows-below a.keys.now a.n b.columns.fits (long c.before.before.before.before.before.before.before.before)),
        b.low 0,
        b.low 1,
        b.low 2,
        b.low 3,
      ),
      (search rules, λ g. get_or-replicate-any 1024 g 0),
    )

first-counted-requires : tie.Need-first_counted-requires
first-counted-requires c κs =
    let a = c.args in
    let lows = c.low_keys-lows.ensures in
    let g = rw (lows, lows-first a.keys.now a.n c.requires.0.columns.fits (long c.before.before.before.before.before.before.before.before.before.before))
    at c.count_groups.ensures.0 in
    (c.requires, g)

pub count_and_choose_spec : {M : Type 1} → statement M
count_and_choose_spec =
    tie.close
    (tie.spec
    (λ c κs. (c.requires.0.columns.fits, c.requires.0.long))
    (λ c. search rules)
    (λ c. search rules)
    (λ c. search rules)
    (λ c. search rules)
    count-groups-requires
    first-counted-requires
    (λ c. search rules))
