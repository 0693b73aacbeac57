-- `words` meets its contract: after i turns the target holds the first i words (`Wordwise`).
use Prim.Native.Nat.{◌*◌, ◌-◌, ◌≤◌}
use mathlib.Core.Path.{◌≡◌, refl}
use native.Mathlib.Omega.{arith}
use borrow.Author.Rules.{rules, Fits-under}
use lib.ListN.{length, length-set}
use Rattle.intake.proofs.Wordwise.{FourBytes, four_bytes, gathered_to, gather-next, gather-end}
use Rattle.intake.proofs.gather.words.Statement.{statement}
use Rattle.intake.proofs.gather.words.Tie as tie

abbrev invariant-loop : tie.invariant-loop-i
invariant-loop bytes target₀ n i₀ target i = (i ≤ n) × (length target ≡ length target₀) × (target ≡ gathered_to bytes target₀ i)

abbrev decreases-loop : tie.decreases-loop-i
decreases-loop bytes target₀ n i₀ target i = n - i

loop-holds : tie.Need-loop-i-init invariant-loop decreases-loop
loop-holds c = (omega arith, refl, refl)

returns : tie.Need-returns invariant-loop decreases-loop
returns c =
    let l = c.loop-i in
    let n = c.least-n in
    let all : l.i ≡ n.result = omega arith in
    gather-end _ _ n.ensures.0 (rw all at l.invariant.2) l.invariant.1

-- from where a turn's four bytes are read back to its start, and from there to the function's
abbrev turn : tie.After-shared_slice_known-in-loop-i-4-1 invariant-loop decreases-loop → tie.At-loop-i invariant-loop decreases-loop
turn c = c.before.before.before.before.before

abbrev start : tie.At-loop-i invariant-loop decreases-loop → tie.Start invariant-loop decreases-loop
start c = c.before.before.before.before

loop-again : tie.Need-loop-i-preserved invariant-loop decreases-loop
loop-again c =
    let l = (turn c).loop-i in
    let a = (start (turn c)).args in
    let next = gather-next a.bytes.now a.target.now l.i (omega arith) (omega arith) in
    (search rules, simp length-set l.invariant.1, rw l.invariant.2 next)

four : (c : tie.After-shared_slice_known-in-loop-i-4-1 invariant-loop decreases-loop) → FourBytes (start (turn c)).args.bytes.now (4 * (turn c).loop-i.i)
four c = four_bytes _ _ c.shared_slice_known-in-loop-i-4-1.given

pub words_spec : {M : Type 1} → statement M
words_spec =
    tie.close
    (tie.spec
    invariant-loop
    decreases-loop
    (λ c κs. search rules)
    loop-holds
    (λ c. search rules)
    (λ c. search rules)
    (λ c. Fits-under _ _ 256 (c.shared_slice_known-in-loop-i-1.given _).fits tt)
    (λ c. search rules)
    (λ c. search rules)
    (λ c. Fits-under _ _ 256 (c.shared_slice_known-in-loop-i-2-1.given _).fits tt)
    (λ c. search rules)
    (λ c. search rules)
    (λ c. Fits-under _ _ 256 (c.shared_slice_known-in-loop-i-3-1.given _).fits tt)
    (λ c. search rules)
    (λ c. search rules)
    (λ c. Fits-under _ _ 256 (c.shared_slice_known-in-loop-i-4-1.given _).fits tt)
    (λ c. omega (arith, four c))
    (λ c. omega (arith, four c))
    (λ c. omega (arith, four c))
    (λ c. omega (arith, four c))
    (λ c. omega (arith, four c))
    (λ c. omega (arith, four c))
    (λ c. search rules)
    (λ c. search rules)
    (λ c. search rules)
    (λ c. search rules)
    loop-again
    (λ c. search rules)
    returns)
