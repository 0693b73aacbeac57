-- `note_chunk` meets its contract: where id owns nothing, nothing is to be noted.
use mathlib.Core.Path.{sym, ◌∙◌}
use Rattle.recording.proofs.Marking.{chunk-unnoted}
use Rattle.recording.proofs.ends.note_chunk.Statement.{statement}
use Rattle.recording.proofs.ends.note_chunk.Tie as tie

returns-2 : tie.Need-returns-else-chunk_has
returns-2 c =
    let a = c.args in
    let p = c.requires in
    chunk-unnoted a.owners.now a.items.now a.origins.now a.id a.place a.from a.to p.1 p.2
    (sym c.chunk_has.ensures ∙ c.if-chunk_has.false) p.4

pub note_chunk_spec : {M : Type 1} → statement M
note_chunk_spec =
    tie.close
    (tie.spec (λ c κs. (c.requires.3, c.requires.0.arrays.owners))
    (λ c κs. let p = c.requires in (p.0, p.1, p.4))
    (λ c. c.note_rows.ensures) returns-2)
