-- `owners_fit` meets its contract: the four owners are those at the picks.
use mathlib.Core.Path.{◌∙◌}
use borrow.Author.Rules.{rules}
use lib.ListN.{take}
use Rattle.reaction.specs.Places.{column}
use Rattle.reaction.proofs.Picking.{same-found, owners-same}
use Rattle.reaction.proofs.verdict.owners_fit.Statement.{statement}
use Rattle.reaction.proofs.verdict.owners_fit.Tie as tie

returns : tie.Need-returns
returns c =
    let a = c.args in
    let r = c.repeated in
    c.four_fit.ensures
    ∙ owners-same a.class r.result (column a.owners.now (take a.k a.picks)) (search rules)
    (same-found r.result a.owners.now a.picks a.k (search rules) c.owners_at.ensures r.ensures)

pub owners_fit_spec : {M : Type 1} → statement M
owners_fit_spec = tie.close (tie.spec (λ c κs. search rules) (λ c κs. search rules) (λ c κs. search rules) returns)
