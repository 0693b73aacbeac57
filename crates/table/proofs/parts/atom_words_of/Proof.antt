-- `parts::atom_words_of` meets its contract: the sizes say where the part stands.
use mathlib.Core.Path.{ap, ◌∙◌}
use native.Mathlib.Omega.{arith}
use borrow.Author.Rules.{rules}
use Rattle.semantics.specs.declared.Sizes.{Sizes}
use Rattle.wellformed.specs.Tables.{words-part}
use Rattle.table.proofs.parts.atom_words_of.Statement.{statement}
use Rattle.table.proofs.parts.atom_words_of.Tie as tie

part-requires : tie.Need-part-requires
part-requires c κs = omega (arith, ap (λ (z : Sizes). z.atoms) c.sizes_of-z.ensures)

returns : tie.Need-returns
returns c = c.part.ensures ∙ words-part c.args.table.now _
    (ap (λ (z : Sizes). z.atoms) c.sizes_of-z.ensures)

pub atom_words_of_spec : {M : Type 1} → statement M
atom_words_of_spec = tie.close (tie.spec (λ c κs. search rules) (λ c. search rules) (λ c. search rules) part-requires returns)
