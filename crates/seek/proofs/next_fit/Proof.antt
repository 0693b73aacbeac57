-- `next_fit` meets its contract: no place before `at` fits.
use Prim.Native.Nat.{◌-◌, ◌≤◌}
use native.Mathlib.Omega.{arith}
use Rattle.seek.specs.Seek.{fits_at, Sought, sought-start, sought-chunk, sought-place, sought-end}
use Rattle.seek.proofs.next_fit.Statement.{statement}
use Rattle.seek.proofs.next_fit.Tie as tie

abbrev Inv : tie.invariant-loop-at
Inv owners items n from low high port stopped at₀ at = (at ≤ n) × Sought (fits_at owners items low high stopped port) from at

abbrev μ : tie.decreases-loop-at
μ owners items n from low high port stopped at₀ at = n - at

next-in-chunk-requires : tie.Need-next_in_chunk-next-requires Inv μ
next-in-chunk-requires c κs =
    let p = c.requires.0 in
    let e = c.chunk_end-end.ensures in
    (record { owners = p.owners; items = p.items; fits = omega (arith, p.fits, e.within) }, omega (arith, e.more), e.few)

pub next_fit_spec : {M : Type 1} → statement M
next_fit_spec =
    tie.close
    (tie.spec
    Inv
    μ
    (λ c. (c.requires.1, sought-start))
    (λ c κs. (c.loop-at-test.true, c.requires.0.fits))
    next-in-chunk-requires
    (λ c.
    sought-place c.loop-at.invariant.1 c.next_in_chunk-next.ensures c.chunk_end-end.ensures.within c.if-next-end.true)
    (λ c. let e = c.chunk_end-end.ensures in omega (arith, c.loop-at-test.true, e.more, e.within))
    (λ c.
    (c.chunk_end-end.ensures.within, sought-chunk c.loop-at.invariant.1 c.next_in_chunk-next.ensures c.if-next-end.false))
    (λ c. sought-end c.loop-at.invariant.1 c.loop-at.invariant.0 c.loop-at-test.false))
