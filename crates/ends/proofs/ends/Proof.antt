-- `ends` meets its contract: each turn looks at one id (`EndsSoFar`).
use Prim.Native.Nat.{◌-◌, ◌≤◌}
use borrow.Author.Rules.{rules}
use lib.ListN.{length}
use native.Mathlib.Omega.{arith}
use Rattle.lists.specs.Pages.{paged-le, paged-length}
use Rattle.ends.specs.Listed.{agrees}
use Rattle.ends.proofs.EndsSoFar.{EndsSoFar, ends-start, ends-room, ends-few, ends_next, ends-done}
use Rattle.ends.proofs.ends.Statement.{statement}
use Rattle.ends.proofs.ends.Tie as tie

abbrev Inv : tie.invariant-loop-i
Inv ids m set wanted kind first count target₀ at length₀ written₀ i₀ target length written i =
    EndsSoFar (agrees wanted set) kind ids m first count at target₀ target length written i

abbrev μ : tie.decreases-loop-i
μ ids m set wanted kind first count target₀ at length₀ written₀ i₀ target length written i = m - i

loop-holds : tie.Need-loop-i-init Inv μ
loop-holds c = ends-start _ _ _ _ _ _ _ _

put-if-requires : tie.Need-put_if-written-requires Inv μ
put-if-requires c κs =
    (c.requires.0.2, ends-room c.loop-i.invariant c.requires.1.1)

add-written : tie.Need-overflow_add-written Inv μ
add-written c =
    let f = ends-few c.loop-i.invariant in
    let g = paged-le _ 5 c.put_if-written.ensures in
    search rules

loop-again : tie.Need-loop-i-preserved Inv μ
loop-again c =
    let enough : c.args.m ≤ length c.args.ids.now = omega (arith, c.requires.0.0, c.requires.0.1) in
    ends_next c.loop-i.invariant enough c.loop-i-test.true c.agrees-hit.ensures
    c.put_if-written.ensures c.one_if-length.ensures.0

returns : tie.Need-returns Inv μ
returns c =
    let enough : c.args.m ≤ length c.args.ids.now = omega (arith, c.requires.0.0, c.requires.0.1) in
    ends-done c.loop-i.invariant enough c.loop-i-test.false c.requires.0.0

pub ends_spec : {M : Type 1} → statement M
ends_spec =
    tie.close
    (tie.spec
    Inv μ loop-holds (λ c. search rules) (λ c. search rules) (λ c κs. search rules)
    (λ c. let f = ends-few c.loop-i.invariant in search rules)
    (λ c. let f = ends-few c.loop-i.invariant in search rules)
    (λ c. let f = ends-few c.loop-i.invariant in search rules)
    put-if-requires add-written (λ c κs. search rules) (λ c. search rules) (λ c. search rules) (λ c. search rules) loop-again
    (λ c. paged-length _ 5 c.loop-i.invariant.paging.paged) returns)
