use mathlib.Core.Path.{◌∙◌}
use native.Mathlib.Omega.{arith}
use borrow.Author.Rules.{rules}
use Rattle.state.specs.Owners.{open-words}
use Rattle.calls.proofs.serials.open_in.Statement.{statement}
use Rattle.calls.proofs.serials.open_in.Tie as tie

any-open-requires : tie.Need-any_open-requires
any-open-requires c κs =
    let n = c.entry_count-n.ensures in
    rw c.owners_of.ensures.value (omega (arith, n.0, n.1.owners))

returns : tie.Need-returns
returns c =
    let n = c.entry_count-n.ensures in
    c.any_open.ensures ∙ rw c.owners_of.ensures.value (open-words _ c.requires n.0)

pub open_in_spec : {M : Type 1} → statement M
open_in_spec = tie.close (tie.spec (λ c κs. search rules) (λ c κs. search rules) any-open-requires returns)
