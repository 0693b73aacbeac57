-- `chunk_of` meets its contract: no chunk before `at` has the word.
use Prim.Native.Nat.{◌-◌, ◌≤◌}
use native.Mathlib.Omega.{arith}
use mathlib.Core.Path.{sym, ◌∙◌}
use Rattle.words.proofs.Searching.{Lacking, lacking-room, lacking-next}
use Rattle.words.proofs.search.chunk_of.Statement.{statement}
use Rattle.words.proofs.search.chunk_of.Tie as tie

abbrev Inv : tie.invariant-loop-at
Inv words n x at₀ at = (n ≤ 1024) × Lacking words x at

abbrev μ : tie.decreases-loop-at
μ words n x at₀ at = n - at

loop-again : tie.Need-loop-at-preserved Inv μ
loop-again c =
    let turn = c.before.before in
    let v = turn.before.loop-at.invariant in
    (v.0, lacking-next v.1 v.0 turn.loop-at-test.true (sym c.before.chunk_has.ensures ∙ c.if-chunk_has.false))

pub chunk_of_spec : {M : Type 1} → statement M
chunk_of_spec =
    tie.close
    (tie.spec Inv μ
    (λ c. (c.requires.0, record { size = c.requires.1; whole = omega arith; within = omega arith; none = λ j l e. absurd (omega arith) }))
    (λ c κs. let v = c.before.loop-at.invariant in (lacking-room v.1 v.0 c.loop-at-test.true, v.1.size))
    (λ c. let turn = c.before.before in
    (omega (arith, turn.loop-at-test.true), turn.before.loop-at.invariant.1.none, λ l. sym c.before.chunk_has.ensures ∙ c.if-chunk_has.true))
    (λ c. omega (arith, c.before.before.before.loop-at.invariant.1.within))
    (λ c. omega (arith, c.before.before.loop-at-test.true))
    loop-again
    (λ c. let v = c.before.loop-at.invariant.1 in (omega arith, (λ j l. v.none j (omega (arith, c.loop-at-test.false))), λ l. absurd (omega arith))))
