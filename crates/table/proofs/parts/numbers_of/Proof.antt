-- `parts::numbers_of` meets its contract: the sizes say where the part stands.
use mathlib.Core.Path.{ap, ◌∙◌}
use native.Mathlib.Omega.{arith}
use borrow.Author.Rules.{rules}
use Rattle.semantics.specs.declared.Sizes.{Sizes}
use Rattle.wellformed.specs.Tables.{numbers-part}
use Rattle.table.proofs.parts.numbers_of.Statement.{statement}
use Rattle.table.proofs.parts.numbers_of.Tie as tie

part-requires : tie.Need-part-requires
part-requires c κs = omega (arith, ap (λ (z : Sizes). z.atoms) c.sizes_of-z.ensures)

returns : tie.Need-returns
returns c = c.part.ensures ∙ numbers-part c.args.table.now _
    (ap (λ (z : Sizes). z.atoms) c.sizes_of-z.ensures)

pub numbers_of_spec : {M : Type 1} → statement M
numbers_of_spec = tie.close (tie.spec (λ c κs. search rules) (λ c. search rules) (λ c. search rules) part-requires returns)
