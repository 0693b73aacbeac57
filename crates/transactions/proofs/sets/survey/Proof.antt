-- `survey` meets its contract: each turn puts an entry's owner into the sets that the entry belongs to.
use borrow.Author.Rules.{rules}
use Prim.Native.Nat.{ℕ, ◌-◌}
use mathlib.Core.Path.{◌≡◌}
use mathlib.Core.List.{List}
use lib.ListN.{length}
use Rattle.state.specs.Working.{row_of}
use Rattle.transactions.proofs.Gathering.{SetsSoFar, sets-start, sets-next, sets-done}
use Rattle.transactions.proofs.sets.survey.Statement.{statement}
use Rattle.transactions.proofs.sets.survey.Tie as tie

abbrev Inv : tie.invariant-loop-i
Inv owners items n globals present₀ blocked₀ aborting₀ i₀ present blocked aborting i =
    (length present ≡ 1024)
    × (length blocked ≡ 1024)
    × (length aborting ≡ 1024)
    × ((gs : List ℕ) → SetsSoFar globals (row_of owners items gs) n present blocked aborting i)

abbrev μ : tie.decreases-loop-i
μ owners items n globals present₀ blocked₀ aborting₀ i₀ present blocked aborting i = n - i

loop-holds : tie.Need-loop-i-init Inv μ
loop-holds c = (c.requires.1.size, c.requires.2.size, c.requires.3.size, λ gs. sets-start c.requires.1 c.requires.2 c.requires.3)

loop-again : tie.Need-loop-i-preserved Inv μ
loop-again c =
    let t = c.enter.ensures in
    ((t 0).owning.size, (t 0).blocking.size, (t 0).marking.size, λ gs. sets-next (c.loop-i.invariant.3 gs) c.loop-i-test.true (t _))

returns : tie.Need-returns Inv μ
returns c gs =
    let v = c.loop-i.invariant in
    sets-done (v.3 gs) c.loop-i-test.false v.0 v.1 v.2

pub survey_spec : {M : Type 1} → statement M
survey_spec =
    tie.close
    (tie.spec
    Inv μ loop-holds (λ c. search rules) (λ c. search rules) (λ c. search rules) (λ c. search rules)
    (λ c κs. search rules) (λ c. search rules) (λ c. search rules) loop-again returns)
