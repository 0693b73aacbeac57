-- `owners_in` meets its contract: `all` of the owners ahead is `all` of them.
use Prim.Native.Nat.{◌-◌}
use mathlib.Core.Path.{◌≡◌, sym, ◌∙◌}
use borrow.Author.Rules.{rules}
use borrow.Author.Tests.{not-true, not-false}
use lib.ListN.{length, drop}
use Rattle.lists.specs.Lists.{all}
use Rattle.lists.specs.Ahead.{Ahead, slice-tails, ahead-start, ahead-done, each-fails, each_next}
use Rattle.idset.specs.IdSet.{has}
use Rattle.state_check.proofs.entries.owners_in.Statement.{statement}
use Rattle.state_check.proofs.entries.owners_in.Tie as tie

abbrev Inv : tie.invariant-loop-i
Inv own owners i₀ i = (length own ≡ 1024) × Ahead (λ k. drop k owners) (length owners) (all (has own)) i (all (has own) owners)

abbrev μ : tie.decreases-loop-i
μ own owners i₀ i = length owners - i

loop-holds : tie.Need-loop-i-init Inv μ
loop-holds c = (c.requires, ahead-start _ _ _)

returns : tie.Need-returns-then-not-owner_in Inv μ
returns c =
    each-fails (has _) (slice-tails 0 _) c.loop-i.invariant.1 c.loop-i-test.true
    (sym c.owner_in.ensures ∙ not-true _ c.if-not-owner_in.true-raw)

loop-again : tie.Need-loop-i-preserved Inv μ
loop-again c =
    let v = c.loop-i.invariant in
    (v.0, each_next (has _) (slice-tails 0 _) v.1 c.loop-i-test.true (sym c.owner_in.ensures ∙ not-false _ c.if-not-owner_in.false-raw))

returns-2 : tie.Need-returns Inv μ
returns-2 c = ahead-done (slice-tails 0 _) c.loop-i.invariant.1 c.loop-i-test.false

pub owners_in_spec : {M : Type 1} → statement M
owners_in_spec =
    tie.close
    (tie.spec Inv μ loop-holds (λ c. search rules) (λ c. search rules) (λ c κs. search rules) returns
    (λ c. search rules) (λ c. search rules) loop-again returns-2)
