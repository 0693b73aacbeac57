use borrow.Author.Rules.{rules}
use mathlib.Core.Path.{sym, ◌∙◌}
use native.Mathlib.Omega.{arith}
use Rattle.replay.proofs.WordsAgain.{head-react, head-commit, head-abort}
use Rattle.replay.proofs.head_again.Statement.{statement}
use Rattle.replay.proofs.head_again.Tie as tie

returns : tie.Need-returns-then-kind-eq-REACT
returns c ws = head-react _ _ _ (sym c.kind_of-kind.ensures ∙ c.if-kind-eq-REACT.true)

returns-2 : tie.Need-returns-then-kind-eq-COMMIT
returns-2 c ws =
    let a = c.args in
    c.head_of.ensures
    ∙ (head-commit _ _ _ (λ e. c.if-kind-eq-REACT.false (c.kind_of-kind.ensures ∙ e)) (c.owner_at-id.ensures ws a.origins.now)
    (c.place_of.ensures.0 a.owners.now ws)
    (sym c.kind_of-kind.ensures ∙ c.if-kind-eq-COMMIT.true))

returns-3 : tie.Need-returns-else-kind-eq-COMMIT
returns-3 c ws =
    let a = c.args in
    c.head_of-else-kind-eq-COMMIT.ensures
    ∙ (head-abort _ _ _ (λ e. c.if-kind-eq-REACT.false (c.kind_of-kind.ensures ∙ e)) (c.owner_at-id.ensures ws a.origins.now)
    (c.place_of.ensures.0 a.owners.now ws)
    (λ e. c.if-kind-eq-COMMIT.false (c.kind_of-kind.ensures ∙ e)))

pub head_again_spec : {M : Type 1} → statement M
head_again_spec =
    tie.close
    (tie.spec (λ c κs. search rules) returns (λ c κs. search rules) (λ c κs. search rules) (λ c. search rules)
    (λ c κs. (omega arith, omega arith))
    (λ c κs. (omega arith, omega arith)) returns-2 returns-3)
