-- `chunk_may_fit` meets its contract: `found` is of the first j places.
use Prim.Native.Nat.{ℕ, ◌+◌, ◌-◌, ◌<◌}
use mathlib.Core.Bool.{Bool}
use native.Mathlib.Omega.{arith}
use borrow.Author.Rules.{rules}
use lib.ListN.{get_or}
use Rattle.lists.specs.Lists.{any}
use Rattle.lists.specs.Rows.{rows, rows_from, rows-tails}
use Rattle.lists.specs.Found.{Finding, finding-start, finding-next, finding-done}
use Rattle.seek.specs.Seek.{may_fit}
use Rattle.seek.proofs.chunk_may_fit.Statement.{statement}
use Rattle.seek.proofs.chunk_may_fit.Tie as tie

abbrev Inv : tie.invariant-loop-j
Inv owners items from low high port found₀ j₀ found j =
    let p : ℕ → Bool = λ p. may_fit low high port (get_or owners p 0) (get_or items p 0) in
    Finding p (rows_from (λ j. from + j) 32) 32 found j (any p (rows (λ j. from + j) 0 32))

abbrev μ : tie.decreases-loop-j
μ owners items from low high port found₀ j₀ found j = 32 - j

few : (c : tie.In-loop-j Inv μ) → c.args.from + c.loop-j.j < 1024
few c = omega (arith, c.loop-j-test.true, c.requires.fits)

loop-again : tie.Need-loop-j-preserved Inv μ
loop-again c =
    rw c.may_fit-found.ensures (finding-next (rows-tails _ _) c.loop-j.invariant c.loop-j-test.true)

pub chunk_may_fit_spec : {M : Type 1} → statement M
chunk_may_fit_spec =
    tie.close
    (tie.spec
    Inv
    μ
    (λ c. finding-start _ _ _)
    (λ c. omega (arith, few c))
    (λ c. omega (arith, few c))
    (λ c. omega (arith, few c.before, c.requires.owners))
    (λ c. omega (arith, few c.before.before))
    (λ c. omega (arith, few c.before.before))
    (λ c. omega (arith, few c.before.before.before, c.requires.items))
    (λ c κs. search rules)
    (λ c. search rules)
    (λ c. search rules)
    loop-again
    (λ c. finding-done (rows-tails _ _) c.loop-j.invariant c.loop-j-test.false))
