-- `low_keys` meets its contract: the first i keys are taken over.
use Prim.Native.Nat.{ℕ, ◌-◌, ◌%◌, ◌≤◌}
use mathlib.Core.Path.{◌≡◌, ap, ◌∙◌}
use native.Mathlib.Omega.{arith}
use borrow.Author.Rules.{rules}
use lib.ListN.{take}
use Rattle.lists.specs.Padded.{padded, padded-none, fill-padded}
use Rattle.first_choice.proofs.Buckets.{low_keys}
use Rattle.first_choice.proofs.grouped.low_keys.Statement.{statement}
use Rattle.first_choice.proofs.grouped.low_keys.Tie as tie

abbrev Inv : tie.invariant-loop-i
Inv keys n lows₀ i₀ lows i = (i ≤ n) × (lows ≡ padded 1024 0 (low_keys (take i keys)))

abbrev μ : tie.decreases-loop-i
μ keys n lows₀ i₀ lows i = n - i

loop-again : tie.Need-loop-i-preserved Inv μ
loop-again c =
    let l = c.loop-i in (
      omega (arith, c.loop-i-test.true),
      fill-padded (λ x. x % 524288) c.args.keys.now 1024 l.i 0 0 (omega (arith, c.loop-i-test.true, c.requires))
          (omega (arith, c.loop-i-test.true, c.requires)) l.invariant.1,
    )

returns : tie.Need-returns Inv μ
returns c =
    let l = c.loop-i in
    let e : l.i ≡ c.args.n = omega (arith, l.invariant.0, c.loop-i-test.false) in
    l.invariant.1 ∙ ap (λ (j : ℕ). padded 1024 0 (low_keys (take j c.args.keys.now))) e

pub low_keys_spec : {M : Type 1} → statement M
low_keys_spec =
    tie.close
    (tie.spec
    Inv
    μ
    (λ c. (omega arith, padded-none 1024 0))
    (λ c. search rules)
    (λ c. search rules)
    (λ c. search rules)
    (λ c. search rules)
    (λ c. search rules)
    (λ c. search rules)
    loop-again
    returns)
