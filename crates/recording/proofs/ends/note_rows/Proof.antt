-- `note_rows` meets its contract: the marks before i are noted.
use Prim.Native.Nat.{◌+◌, ◌-◌, ◌≤◌}
use mathlib.Core.Path.{◌≡◌}
use native.Mathlib.Omega.{arith}
use borrow.Author.Rules.{rules}
use Rattle.state.specs.Working.{row_of}
use Rattle.recording.specs.Marks.{Lent, RowsNoted}
use Rattle.recording.proofs.Marking.{rows-noted, no_rows, row-noted}
use Rattle.recording.proofs.ends.note_rows.Statement.{statement}
use Rattle.recording.proofs.ends.note_rows.Tie as tie

abbrev Inv : tie.invariant-loop-i
Inv owners items origins from to id place ended₀ i₀ ended i =
    Lent owners items origins to × (from ≤ i) × (i ≤ to) × RowsNoted (row_of owners items origins) id place from i ended₀ ended

abbrev μ : tie.decreases-loop-i
μ owners items origins from to id place ended₀ i₀ ended i = to - i

loop-again : tie.Need-loop-i-preserved Inv μ
loop-again c =
    let a = c.args in
    let l = c.loop-i in
    let (lent, low, high, noted) = l.invariant in
    let more = c.loop-i-test.true in (
      lent,
      omega arith,
      omega arith,
      rows-noted _ a.id a.place a.from l.i (l.i + 1) low (omega arith) noted
          (row-noted a.owners.now a.items.now a.origins.now a.id a.place l.i c.begun_by-maker.ensures c.note_end.ensures),
    )

returns : tie.Need-returns Inv μ
returns c =
    let a = c.args in
    let l = c.loop-i in
    let e : l.i ≡ a.to = omega (arith, l.invariant.2, c.loop-i-test.false) in
    rw e at l.invariant.3

pub note_rows_spec : {M : Type 1} → statement M
note_rows_spec =
    tie.close
    (tie.spec Inv μ
    (λ c. (c.requires.0, omega arith, c.requires.1, no_rows _ _ _ _ c.requires.2))
    (λ c. search rules) (λ c. search rules) (λ c. search rules) (λ c. search rules) (λ c. search rules) (λ c. search rules)
    (λ c κs. search rules)
    (λ c κs. c.loop-i.invariant.3.size)
    (λ c. search rules) (λ c. search rules) loop-again
    returns)
