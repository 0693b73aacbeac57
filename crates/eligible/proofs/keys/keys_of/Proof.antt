-- `keys_of` meets its contract: the column is filled from the front.
use Prim.Native.Nat.{ℕ, ◌-◌, ◌≤◌, ◌<◌}
use mathlib.Core.Path.{◌≡◌, ◌∙◌}
use mathlib.Core.List.{List, []}
use native.Mathlib.Omega.{arith}
use lib.ListN.{length, get_or, length-set}
use Rattle.state.specs.Working.{row_of}
use Rattle.eligible.specs.KeyColumn.{outside, KeyColumn}
use Rattle.eligible.proofs.KeyCases.{column-more}
use Rattle.eligible.proofs.keys.keys_of.Statement.{statement}
use Rattle.eligible.proofs.keys.keys_of.Tie as tie

abbrev Inv : tie.invariant-loop-p
Inv z owners items n ids m aborting keys₀ p₀ keys p =
    (p ≤ n) × (length keys ≡ 1024) × ((gs : List ℕ) → KeyColumn z (outside aborting) ids m (row_of owners items gs) p keys)

abbrev μ : tie.decreases-loop-p
μ z owners items n ids m aborting keys₀ p₀ keys p = n - p

few : (c : tie.In-loop-p Inv μ) → c.loop-p.p < 1024
few c = omega (arith, c.loop-p-test.true, c.requires.3.fits)

loop-holds : tie.Need-loop-p-init Inv μ
loop-holds c = (omega arith, c.requires.4, λ gs. record { size = c.requires.4; each = λ p l. absurd (omega arith) })

key-of-requires : tie.Need-key_of-requires Inv μ
key-of-requires c κs =
    let p = c.loop-p.p in
    (c.requires.0, c.requires.1, c.requires.2, (λ origin l. c.requires.5 [] p c.loop-p-test.true l), c.requires.6)

loop-again : tie.Need-loop-p-preserved Inv μ
loop-again c =
    let l = c.loop-p in (
      omega (arith, c.loop-p-test.true),
      length-set l.keys l.p _ ∙ l.invariant.1,
      λ gs. column-more (l.invariant.2 gs) (few c.before.before.before.before.before.before) (c.key_of.ensures (get_or gs l.p 0)),
    )

returns : tie.Need-returns Inv μ
returns c gs =
    let l = c.loop-p in
    let e : l.p ≡ c.args.n = omega (arith, l.invariant.0, c.loop-p-test.false) in
    rw e at (l.invariant.2 gs)

pub keys_of_spec : {M : Type 1} → statement M
keys_of_spec =
    tie.close
    (tie.spec
    Inv
    μ
    loop-holds
    (λ c. omega (arith, few c))
    (λ c. omega (arith, few c.before, c.requires.3.owners))
    (λ c. omega (arith, few c.before.before))
    (λ c. omega (arith, few c.before.before.before, c.requires.3.items))
    key-of-requires
    (λ c. omega (arith, few c.before.before.before.before.before))
    (λ c. omega (arith, few c.before.before.before.before.before.before, c.loop-p.invariant.1))
    (λ c. omega (arith, few c.before.before.before.before.before.before))
    (λ c. omega (arith, c.loop-p-test.true))
    loop-again
    returns)
