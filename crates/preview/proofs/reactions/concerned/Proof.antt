-- `concerned` meets its contract: the smallest of the owners found at the picks.
use borrow.Author.Rules.{rules}
use borrow.Author.Tests.{eq-eqb, ne_eqb}
use mathlib.Core.Path.{◌≡◌, ap, ◌∙◌}
use native.Mathlib.Omega.{arith}
use lib.ListN.{length, take}
use Rattle.lists.specs.Lists.{least}
use Rattle.reaction.specs.Places.{take_found}
use Rattle.preview.proofs.reactions.concerned.Statement.{statement}
use Rattle.preview.proofs.reactions.concerned.Tie as tie

returns-3 : tie.Need-returns
returns-3 c =
    let a = c.args in
    let four : length a.picks ≡ 4 = search rules in
    rw (c.if-begins.false, ne_eqb a.class 0 c.if-class-eq0.false)
    (c.smallest.ensures
    ∙ ap least (ap (take a.k) c.owners_at.ensures ∙ take_found a.k a.owners.now a.picks (omega (arith, four, c.requires.1))))

pub concerned_spec : {M : Type 1} → statement M
concerned_spec =
    tie.close
    (tie.spec
    (λ c. rw c.if-begins.true) (λ c. rw (c.if-begins.false, eq-eqb _ 0 c.if-class-eq0.true))
    (λ c κs. search rules) (λ c κs. search rules) (λ c. search rules) returns-3)
