-- `chunk_aborting` meets its contract.
use mathlib.Core.List.{[], ◌∷◌}
use mathlib.Core.Path.{sym, ◌∙◌}
use borrow.Author.Rules.{rules}
use borrow.Author.Tests.{not-true}
use Rattle.state.specs.Working.{row_of}
use Rattle.abort_marks.proofs.Chunks.{unmarked}
use Rattle.abort_marks.proofs.chunk_aborting.Statement.{statement}
use Rattle.abort_marks.proofs.chunk_aborting.Tie as tie

returns : tie.Need-returns-then-not-chunk_marked
returns c gs =
    let a = c.args in
    sym (unmarked (a.a ∷ a.b ∷ a.c ∷ a.d ∷ []) (row_of a.owners.now a.items.now gs) a.from a.end c.requires.1 c.requires.2
    (sym (c.chunk_marked.ensures a.owners.now gs) ∙ not-true _ c.if-not-chunk_marked.true-raw))

pub chunk_aborting_spec : {M : Type 1} → statement M
chunk_aborting_spec =
    tie.close
    (tie.spec (λ c κs. search rules) returns (λ c κs. search rules) (λ c gs. c.marked_between.ensures gs))
