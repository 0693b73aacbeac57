-- `weigh` adds four weights to zeros.
use Prim.Native.Nat.{◌+◌, ◌<◌}
use mathlib.Core.Path.{◌≡◌, refl}
use native.Mathlib.Omega.{arith}
use lib.Dec.{eqb}
use lib.ListN.{length, get_or, set, length-set}
use Rattle.groups.proofs.Weighing.{weight-added, one-small, thrice, thrice-length, weighed}
use borrow.Author.Rules.{rules}
use Rattle.groups.proofs.counts.weigh.Statement.{statement}
use Rattle.groups.proofs.counts.weigh.Tie as tie

-- three additions keep the length
long : (s : tie.Start) → length (thrice s.args.b s.args.c s.args.d s.args.weights.now) ≡ length s.args.weights.now
long s = thrice-length s.args.b s.args.c s.args.d s.args.weights.now

pub weigh_spec : {M : Type 1} → statement M
weigh_spec =
    tie.close
    (tie.spec
    (λ c. search rules)
    (λ c. search rules)
    (λ c. omega (arith, c.requires.1.1 c.args.b))
    (λ c. search rules)
    (λ c. search rules)
    (λ c. omega (
      arith,
      c.requires,
      length-set c.args.weights.now c.args.b
          (get_or c.args.weights.now c.args.b 0 + 1),
    ))
    (λ c.
    let a = c.args in
    let l : a.b < length a.weights.now = omega (arith, c.requires) in
    omega (arith, weight-added a.weights.now a.b 1 a.c l, c.requires.1.1 a.c, one-small (eqb a.c a.b)))
    (λ c.
    let a = c.args in
    omega (arith, c.requires, length-set a.weights.now a.b (get_or a.weights.now a.b 0 + 1)))
    (λ c. search rules)
    (λ c.
    let a = c.args in
    let ys = set a.weights.now a.b (get_or a.weights.now a.b 0 + 1) in
    omega (
      arith,
      c.requires,
      length-set a.weights.now a.b (get_or a.weights.now a.b 0 + 1),
      length-set ys a.c
          (get_or ys a.c 0 + 1048576),
    ))
    (λ c.
    let a = c.args in
    let ys = set a.weights.now a.b (get_or a.weights.now a.b 0 + 1) in
    let l : a.b < length a.weights.now = omega (arith, c.requires) in
    let m : a.c < length ys = omega (arith, c.requires, length-set a.weights.now a.b (get_or a.weights.now a.b 0 + 1)) in
    omega (
      arith,
      weight-added a.weights.now a.b 1 a.d l,
      weight-added ys a.c 1048576 a.d m,
      c.requires.1.1 a.d,
      one-small
          (eqb a.d a.b),
      one-small (eqb a.d a.c),
    ))
    (λ c.
    let a = c.args in
    let ys = set a.weights.now a.b (get_or a.weights.now a.b 0 + 1) in
    omega (
      arith,
      c.requires,
      length-set a.weights.now a.b (get_or a.weights.now a.b 0 + 1),
      length-set ys a.c
          (get_or ys a.c 0 + 1048576),
    ))
    (λ c. search rules)
    (λ c. omega (arith, c.requires, long c.before.before.before.before))
    (λ c.
    let a = c.args in
    let ys = set a.weights.now a.b (get_or a.weights.now a.b 0 + 1) in
    let zs = set ys a.c (get_or ys a.c 0 + 1048576) in
    let l : a.b < length a.weights.now = omega (arith, c.requires) in
    let m : a.c < length ys = omega (arith, c.requires, length-set a.weights.now a.b (get_or a.weights.now a.b 0 + 1)) in
    let n : a.d < length zs = omega (
      arith,
      c.requires,
      length-set a.weights.now a.b (get_or a.weights.now a.b 0 + 1),
      length-set ys a.c (get_or ys a.c 0 + 1048576),
    ) in
    omega (
      arith,
      weight-added a.weights.now a.b 1 a.a l,
      weight-added ys a.c 1048576 a.a m,
      weight-added zs a.d 1099511627776 a.a n,
      c.requires.1.1 a.a,
      one-small (eqb a.a a.b),
      one-small (eqb a.a a.c),
      one-small (eqb a.a a.d),
    ))
    (λ c. omega (arith, c.requires, long c.before.before.before.before.before))
    (λ c.
    let (p, q) = c.requires in
    weighed c.args.a c.args.b c.args.c c.args.d c.args.weights.now p.0 p.1 p.2 p.3 q.0 q.1 _ _ _ refl refl refl))
