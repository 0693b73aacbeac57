-- `count_freed` meets its contract: the chunks before `from` are counted (`Freeing`).
use Prim.Native.Nat.{ℕ, ◌-◌, ◌%◌, ◌<◌}
use mathlib.Core.List.{List, []}
use mathlib.Core.Path.{◌≡◌, refl}
use native.Mathlib.Omega.{arith}
use Rattle.state.specs.Working.{row_of}
use Rattle.state.specs.Lent.{Columns}
use Rattle.supply.specs.Freed.{freed-supply}
use Rattle.supply.proofs.Freeing.{Freeing, freeing-more, freeing-room, state-start, state-done}
use Rattle.supply.proofs.freed.count_freed.Statement.{statement}
use Rattle.supply.proofs.freed.count_freed.Tie as tie

abbrev Inv : tie.invariant-loop-from
Inv owners items id kind totals₀ n from₀ totals from =
    Columns owners items n × (from < n → from % 32 ≡ 0) × ((gs : List ℕ) → Freeing id kind (row_of owners items gs) n 0 from totals₀ totals)

abbrev μ : tie.decreases-loop-from
μ owners items id kind totals₀ n from₀ totals from = n - from

loop-holds : tie.Need-loop-from-init Inv μ
loop-holds c =
    let a = c.args in
    (c.requires.0, (λ l. refl), λ gs. state-start _ _ a.owners.now a.items.now gs a.at (c.requires.1.1 gs) c.requires.0.fits)

count-chunk-requires : tie.Need-count_chunk-requires Inv μ
count-chunk-requires c κs =
    let v = c.loop-from.invariant in
    let e = c.chunk_end-end.ensures in (
      record { owners = v.0.owners; items = v.0.items; fits = omega (arith, e.within, v.0.fits) },
      omega (arith, e.more),
      freeing-room _ _ _ (v.2 []) _ e.within,
      e.few,
      omega (arith, v.1 c.loop-from-test.true, v.0.fits),
    )

loop-again : tie.Need-loop-from-preserved Inv μ
loop-again c =
    let v = c.loop-from.invariant in
    let e = c.chunk_end-end.ensures in (
      v.0,
      (λ l. omega (arith, v.1 c.loop-from-test.true, e.full l)),
      λ gs. freeing-more _ _ _ (v.2 gs) (omega (arith, e.more)) e.within (c.count_chunk.ensures gs),
    )

returns : tie.Need-returns Inv μ
returns c =
    let a = c.args in
    let v = c.loop-from.invariant in (
      (v.2 []).so_far.size,
      λ gs z t i same right supply. freed-supply t same right supply _ i _
          (state-done _ _ a.owners.now a.items.now gs a.at (v.2 gs) c.loop-from-test.false),
    )

pub count_freed_spec : {M : Type 1} → statement M
count_freed_spec =
    tie.close
    (tie.spec
    Inv μ loop-holds
    (λ c κs. (c.loop-from-test.true, c.loop-from.invariant.0.fits))
    count-chunk-requires
    (λ c. let e = c.chunk_end-end.ensures in omega (arith, e.more, e.within))
    loop-again
    returns)
