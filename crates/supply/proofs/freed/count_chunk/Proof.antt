-- `count_chunk` meets its contract: a chunk without the transaction changes nothing.
use mathlib.Core.Path.{sym, ◌∙◌}
use borrow.Author.Rules.{rules}
use borrow.Author.Tests.{not-true}
use Rattle.supply.proofs.Freeing.{freed-chunk}
use Rattle.supply.proofs.freed.count_chunk.Statement.{statement}
use Rattle.supply.proofs.freed.count_chunk.Tie as tie

returns : tie.Need-returns-then-not-chunk_has
returns c gs =
    let a = c.args in
    freed-chunk _ _ a.owners.now a.items.now gs _ _ c.requires.3 c.requires.2.size (sym c.chunk_has.ensures ∙ not-true _ c.if-not-chunk_has.true-raw)

pub count_chunk_spec : {M : Type 1} → statement M
count_chunk_spec = tie.close (tie.spec (λ c κs. search rules) returns (λ c κs. search rules) (λ c gs. c.count_between.ensures gs))
