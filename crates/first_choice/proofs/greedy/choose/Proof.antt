-- `choose` meets its contract: the first choice behind the picks so far is the one looked for.
use Prim.Native.Nat.{◌-◌, ◌≤◌}
use mathlib.Core.List.{List}
use mathlib.Core.Path.{◌≡◌, refl}
use native.Mathlib.Omega.{arith}
use borrow.Author.Rules.{rules}
use lib.ListN.{length, take, drop}
use Rattle.lists.specs.FirstChoice.{choices_after}
use Rattle.lists.specs.Ways.{Used}
use Rattle.first_choice.specs.Choice.{FitKeys}
use Rattle.first_choice.proofs.Picking.{Picking, picking-none, picking-next, picking-done}
use Rattle.first_choice.proofs.greedy.choose.Statement.{statement}
use Rattle.first_choice.proofs.greedy.choose.Tie as tie

abbrev Inv : tie.invariant-loop-i
Inv owners items n stopped low high ports k first from picks₀ i₀ picks i =
    (i ≤ k) × (length picks ≡ 4)
    × ((ks wanted : List _) → FitKeys owners items stopped ports n k low high ks wanted → Used ks (take from wanted) (take from picks₀)
    → Picking ks wanted k (choices_after ks (take from picks₀) (drop from (take k wanted))) picks i)

abbrev μ : tie.decreases-loop-i
μ owners items n stopped low high ports k first from picks₀ i₀ picks i = k - i

loop-holds : tie.Need-loop-i-init Inv μ
loop-holds c =
    (c.requires.1, search rules, λ ks wanted h u. record { within = c.requires.1; four = search rules; used = u; zeros = c.requires.4; first = refl })

returns : tie.Need-returns-then-p-n Inv μ
returns c ks wanted h u =
    picking-none h c.requires.2 (c.loop-i.invariant.2 ks wanted h u) c.loop-i-test.true c.first_free-p.ensures
    c.if-p-n.true

loop-again : tie.Need-loop-i-preserved Inv μ
loop-again c =
    let l = c.loop-i in (
      omega (arith, c.loop-i-test.true),
      search rules,
      λ ks wanted h u.
          rw c.placed-more.ensures
          (picking-next h c.requires.2 (l.invariant.2 ks wanted h u) c.loop-i-test.true c.first_free-p.ensures
          c.if-p-n.false),
    )

returns-2 : tie.Need-returns Inv μ
returns-2 c ks wanted h u = picking-done h c.requires.2 (c.loop-i.invariant.2 ks wanted h u) c.loop-i-test.false

pub choose_spec : {M : Type 1} → statement M
choose_spec =
    tie.close
    (tie.spec
    Inv
    μ
    loop-holds
    (λ c. search rules)
    (λ c. search rules)
    (λ c κs. search rules)
    returns
    (λ c. search rules)
    (λ c κs. search rules)
    (λ c. search rules)
    (λ c. search rules)
    loop-again
    returns-2)
