-- `next_in_chunk` meets its contract: a chunk where nothing may fit is passed over, another is gone through.
use Prim.Native.Nat.{◌+◌, ◌-◌}
use mathlib.Core.Path.{◌≡◌, sym, ◌∙◌}
use native.Mathlib.Omega.{arith}
use borrow.Author.Tests.{not-true}
use Rattle.lists.specs.Found.{rows-lack}
use Rattle.lists.specs.Tests.{false-and}
use Rattle.seek.proofs.next_in_chunk.Statement.{statement}
use Rattle.seek.proofs.next_in_chunk.Tie as tie

returns-2 : tie.Need-returns-then-not-chunk_may_fit
returns-2 c =
    let a = c.args in
    let lacks = rows-lack _ (λ j. a.from + j) 0 32 (sym c.chunk_may_fit.ensures ∙ not-true _ c.if-not-chunk_may_fit.true-raw) in
    record {
      low = c.requires.1;
      high = omega arith;
      none = λ j l u.
          let at : a.from + (j - a.from) ≡ j = omega arith in
          false-and _ (rw at at (lacks (j - a.from) (omega arith) (omega (arith, c.requires.2))));
      here = λ l. absurd (omega arith);
    }

pub next_in_chunk_spec : {M : Type 1} → statement M
next_in_chunk_spec =
    tie.close
    (tie.spec
    (λ c. omega (arith, c.requires.0.fits))
    (λ c κs. let p = c.requires in (p.0, p.1))
    (λ c. c.first_in.ensures)
    (λ c κs. let p = c.requires.0 in record { owners = p.owners; items = p.items; fits = omega (arith, c.if-end-from.false, p.fits) })
    returns-2
    (λ c κs. let p = c.requires in (p.0, p.1))
    (λ c. c.first_in-2.ensures))
