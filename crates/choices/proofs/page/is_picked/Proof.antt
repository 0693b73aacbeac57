-- `is_picked` looks at each of four picks.
use Rattle.choices.proofs.Words.{is-picked-as}
use borrow.Author.Rules.{rules}
use Rattle.choices.proofs.page.is_picked.Statement.{statement}
use Rattle.choices.proofs.page.is_picked.Tie as tie

returns : tie.Need-returns
returns c = is-picked-as c.args.picks (search rules) c.args.i c.args.x c.requires

pub is_picked_spec : {M : Type 1} → statement M
is_picked_spec =
    tie.close
    (tie.spec
    (λ c. search rules)
    (λ c. search rules)
    (λ c. search rules)
    (λ c. search rules)
    returns)
