-- `next_in_chunk` meets its contract: a chunk without the key is passed over, another is gone through.
use Prim.Native.Nat.{◌+◌, ◌*◌, ◌/◌}
use mathlib.Core.Path.{◌≡◌, sym, ◌∙◌}
use native.Mathlib.Omega.{arith}
use borrow.Author.Tests.{not-true}
use Rattle.words.specs.Search.{chunk-lacks}
use Rattle.choices.proofs.find.next_in_chunk.Statement.{statement}
use Rattle.choices.proofs.find.next_in_chunk.Tie as tie

returns-2 : tie.Need-returns-then-not-chunk_has
returns-2 c =
    let a = c.args in
    let whole : a.from / 32 * 32 + 32 ≡ a.from + 32 = omega (arith, c.if-from-ne0.false) in
    let lacks = chunk-lacks a.keys.now a.from a.t (sym c.chunk_has.ensures ∙ not-true _ c.if-not-chunk_has.true-raw) in
    record { low = omega arith; high = omega arith; none = λ j l u. lacks j l (omega arith); here = λ l. absurd (omega arith) }

pub next_in_chunk_spec : {M : Type 1} → statement M
next_in_chunk_spec =
    tie.close
    (tie.spec
    (λ c. omega (arith, c.requires.0))
    (λ c. omega (arith, c.requires.0))
    (λ c κs. let p = c.requires in (omega arith, omega (arith, p.0), p.1))
    (λ c. c.first_in.ensures)
    (λ c κs. let p = c.requires in (omega (arith, p.0, c.if-from-ne0.false), p.1))
    returns-2
    (λ c κs. let p = c.requires in (omega arith, omega (arith, p.0), p.1))
    (λ c. c.first_in-2.ensures))
