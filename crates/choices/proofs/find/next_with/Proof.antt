-- `next_with` meets its contract: no place before `at` has the key.
use Prim.Native.Nat.{◌-◌, ◌<◌}
use native.Mathlib.Omega.{arith}
use Rattle.choices.proofs.Passed.{PassedOver, passed_start, passed-chunk, passed-place, passed-past}
use borrow.Author.Rules.{rules}
use Rattle.choices.proofs.find.next_with.Statement.{statement}
use Rattle.choices.proofs.find.next_with.Tie as tie

abbrev Inv : tie.invariant-loop-at
Inv keys n from t at₀ at = PassedOver keys t from at

abbrev μ : tie.decreases-loop-at
μ keys n from t at₀ at = n - at

few : (c : tie.In-loop-at Inv μ) → c.loop-at.at < 1024
few c = omega (arith, c.loop-at-test.true, c.requires.1)

pub next_with_spec : {M : Type 1} → statement M
next_with_spec =
    tie.close
    (tie.spec
    Inv
    μ
    (λ c. passed_start)
    (λ c. omega (arith, few c))
    (λ c. omega (arith, few c))
    (λ c κs. (few c, c.requires.2))
    (λ c κs. search rules)
    (λ c.
    passed-place c.loop-at.invariant c.next_in_chunk-next.ensures c.if-next-end.true c.loop-at-test.true c.smaller.ensures)
    (λ c. omega (arith, c.loop-at-test.true))
    (λ c. passed-chunk c.loop-at.invariant c.next_in_chunk-next.ensures c.if-next-end.false)
    (λ c. passed-past c.loop-at.invariant c.requires.0 c.loop-at-test.false))
