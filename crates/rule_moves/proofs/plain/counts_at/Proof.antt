-- `counts_at` reads four counts.
use Prim.Native.Nat.{◌<◌}
use native.Mathlib.Omega.{arith}
use lib.ListN.{get_or}
use borrow.Author.Rules.{rules}
use Rattle.rule_moves.proofs.plain.counts_at.Statement.{statement}
use Rattle.rule_moves.proofs.plain.counts_at.Tie as tie

pub counts_at_spec : {M : Type 1} → statement M
counts_at_spec =
    tie.close
    (tie.spec
    (λ c. search rules)
    (λ c κs. let s = c.requires.1 0 in let l : get_or c.args.takes 0 0 < 511 = omega arith in (c.requires.0, l, c.requires.2 _ l))
    (λ c. search rules)
    (λ c κs. let s = c.requires.1 1 in let l : get_or c.args.takes 1 0 < 511 = omega arith in (c.requires.0, l, c.requires.2 _ l))
    (λ c. search rules)
    (λ c κs.
    let s = c.requires.1 2 in
    let l : get_or c.args.takes 2 0 < 511 = omega arith in
    (c.requires.0, l, c.requires.2 _ l))
    (λ c. search rules)
    (λ c κs.
    let s = c.requires.1 3 in
    let l : get_or c.args.takes 3 0 < 511 = omega arith in
    (c.requires.0, l, c.requires.2 _ l))
    (λ c.
    rw (c.count_at-d.ensures, c.count_at-c.ensures, c.count_at-b.ensures, c.count_at-a.ensures)))
