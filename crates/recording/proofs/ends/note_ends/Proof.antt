-- `note_ends` meets its contract: the marks in the chunks before i are noted.
use Prim.Native.Nat.{◌-◌, ◌%◌, ◌≤◌, ◌<◌}
use mathlib.Core.Path.{◌≡◌}
use native.Mathlib.Nat.{sub-zero}
use native.Mathlib.Omega.{arith}
use Rattle.state.specs.Working.{row_of}
use Rattle.recording.specs.Marks.{Lent, RowsNoted}
use Rattle.recording.proofs.Marking.{rows-noted, no_rows}
use Rattle.recording.proofs.ends.note_ends.Statement.{statement}
use Rattle.recording.proofs.ends.note_ends.Tie as tie

abbrev Inv : tie.invariant-loop-i
Inv owners items origins n id place ended₀ i₀ ended i =
    Lent owners items origins n × (i ≤ n) × (i < n → i % 32 ≡ 0) × RowsNoted (row_of owners items origins) id place 0 i ended₀ ended

abbrev μ : tie.decreases-loop-i
μ owners items origins n id place ended₀ i₀ ended i = n - i

note-chunk-requires : tie.Need-note_chunk-requires Inv μ
note-chunk-requires c κs =
    let to = c.chunk_end-to.ensures in
    let (lent, low, whole, noted) = c.loop-i.invariant in
    let w = whole c.loop-i-test.true in
    let few = lent.fits in
    (record { arrays = lent.arrays; fits = omega (arith, to.within) }, omega (arith, to.more), to.few, omega (arith, c.loop-i-test.true), noted.size)

loop-again : tie.Need-loop-i-preserved Inv μ
loop-again c =
    let to = c.chunk_end-to.ensures in
    let a = c.args in
    let l = c.loop-i in
    let (lent, low, whole, noted) = l.invariant in
    let w = whole c.loop-i-test.true in (
      lent,
      to.within,
      λ more. omega (arith, to.full more),
      rows-noted _ a.id a.place 0 l.i c.chunk_end-to.result (omega arith) (omega (arith, to.more)) noted c.note_chunk.ensures,
    )

returns : tie.Need-returns Inv μ
returns c =
    let l = c.loop-i in
    let e : l.i ≡ c.args.n = omega (arith, l.invariant.1, c.loop-i-test.false) in
    rw (e, sub-zero) at l.invariant.3

pub note_ends_spec : {M : Type 1} → statement M
note_ends_spec =
    tie.close
    (tie.spec Inv μ
    (λ c. (c.requires.0, omega arith, λ l. omega arith, no_rows _ _ _ _ c.requires.1))
    (λ c κs. (c.loop-i-test.true, c.loop-i.invariant.0.fits))
    note-chunk-requires
    (λ c. let to = c.chunk_end-to.ensures in omega
    (arith, to.more, to.within, c.loop-i-test.true)) loop-again returns)
