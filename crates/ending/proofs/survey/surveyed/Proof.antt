use borrow.Author.Rules.{rules}
use Prim.Native.Nat.{ℕ, ◌-◌}
use mathlib.Core.List.{List}
use Rattle.state.specs.Working.{row_of}
use Rattle.ending.proofs.Surveying.{Surveying, surveying-from, surveying-next, surveying-done}
use Rattle.ending.proofs.survey.surveyed.Statement.{statement}
use Rattle.ending.proofs.survey.surveyed.Tie as tie

abbrev Inv : tie.invariant-loop-i
Inv owners items from id globals n open₀ aborting₀ inside₀ i₀ «open» aborting inside i =
    (gs : List ℕ) → Surveying id globals (row_of owners items gs) n «open» aborting inside i

abbrev μ : tie.decreases-loop-i
μ owners items from id globals n open₀ aborting₀ inside₀ i₀ «open» aborting inside i = n - i

loop-holds : tie.Need-loop-i-init Inv μ
loop-holds c gs = surveying-from _ _ _ _ _ c.requires.1.within c.requires.1.none

loop-again : tie.Need-loop-i-preserved Inv μ
loop-again c gs =
    rw (c.port_of-port.ensures, c.kind_of-kind.ensures)
    (surveying-next (c.loop-i.invariant gs) c.loop-i-test.true)

returns : tie.Need-returns Inv μ
returns c gs = surveying-done (c.loop-i.invariant gs) c.loop-i-test.false _

pub surveyed_spec : {M : Type 1} → statement M
surveyed_spec =
    tie.close
    (tie.spec
    Inv μ loop-holds (λ c. search rules) (λ c. search rules) (λ c. search rules) (λ c. search rules)
    (λ c κs. search rules) (λ c κs. search rules) (λ c. search rules) (λ c. search rules) loop-again returns)
