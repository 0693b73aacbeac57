-- `store` meets its contract: what is written grows part by part.
use mathlib.Core.Path.{◌∙◌}
use native.Mathlib.Omega.{arith}
use borrow.Author.Rules.{rules}
use lib.ListN.{length-set}
use Rattle.state.proofs.Working.{stored-words}
use Rattle.state.proofs.store.Statement.{statement}
use Rattle.state.proofs.store.Tie as tie

slice-write-target-2 : tie.Need-bounds-target-1
slice-write-target-2 c = simp length-set (omega arith)

widen-column-at-requires : tie.Need-widen_column_at-requires
widen-column-at-requires c κs = let start = c.requires in
    (omega (arith, start.0.fits, start.0.owners), simp length-set (omega (arith, start.1)))

copy-words-at-requires : tie.Need-copy_words_at-requires
copy-words-at-requires c κs =
    let start = c.requires in
    (omega (arith, start.0.fits, start.0.items), omega (arith, start.1, simp length-set at c.widen_column_at.ensures.size))

same_length : tie.Need-shape_of-target
same_length c = simp length-set at (c.copy_words_at.ensures.size
    ∙ c.widen_column_at.ensures.size)

returns : tie.Need-returns
returns c =
    let start = c.requires in
    λ gs. stored-words _ _ _ _ start.0.owners start.0.items start.0.fits start.1 c.widen_column_at.ensures
    c.copy_words_at.ensures

pub store_spec : {M : Type 1} → statement M
store_spec =
    tie.close
    (tie.spec (λ c. search rules) (λ c. search rules) slice-write-target-2 widen-column-at-requires (λ c. search rules) copy-words-at-requires
    (λ c. search rules) (λ c. search rules) (λ c. search rules) same_length returns)
