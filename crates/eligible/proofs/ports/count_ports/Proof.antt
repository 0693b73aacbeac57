-- `count_ports` meets its contract: what is counted so far are the first i keys.
use Prim.Native.Nat.{◌-◌, ◌≤◌, ◌<◌}
use mathlib.Core.Path.{◌≡◌}
use native.Mathlib.Omega.{arith}
use lib.ListN.{length, get_or, take}
use lib.Seq.{length-take-le, get_or-take}
use Rattle.eligible.proofs.PortTally.{PortTally, tally-start, tally-done, tally-next}
use borrow.Author.Rules.{rules}
use Rattle.eligible.proofs.ports.count_ports.Statement.{statement}
use Rattle.eligible.proofs.ports.count_ports.Tie as tie

abbrev Inv : tie.invariant-loop-i
Inv keys n counts₀ i₀ counts i = (n ≤ 1024) × (length keys ≡ 1024) × PortTally (take n keys) i counts

abbrev μ : tie.decreases-loop-i
μ keys n counts₀ i₀ counts i = n - i

few : (c : tie.In-loop-i Inv μ) → c.loop-i.i < 1024
few c = omega (arith, c.loop-i-test.true, c.loop-i.invariant.0)

inside : (c : tie.In-loop-i Inv μ) → c.loop-i.i < length (take c.args.n c.args.keys.now)
inside c =
    let l = c.loop-i.invariant in
    rw (length-take-le c.args.n c.args.keys.now (omega (arith, l.0, l.1))) c.loop-i-test.true

here : (c : tie.In-loop-i Inv μ) → get_or (take c.args.n c.args.keys.now) c.loop-i.i 0
    ≡ get_or c.args.keys.now c.loop-i.i 0
here c = get_or-take c.args.n c.args.keys.now c.loop-i.i 0 c.loop-i-test.true

bin-below : (c : tie.After-bin_of-bin Inv μ) → c.bin_of-bin.result < 512
bin-below c = omega (arith, c.bin_of-bin.ensures)

loop-again : tie.Need-loop-i-preserved Inv μ
loop-again c =
    let l = c.loop-i in (
      l.invariant.0,
      l.invariant.1,
      tally-next l.invariant.2 (inside c.before.before.before.before.before) (here c.before.before.before.before.before)
          c.bin_of-bin.ensures,
    )

returns : tie.Need-returns Inv μ
returns c =
    let l = c.loop-i.invariant in
    let a = c.args in
    tally-done l.2 (rw (length-take-le a.n a.keys.now (omega (arith, l.0, l.1))) c.loop-i-test.false)

pub count_ports_spec : {M : Type 1} → statement M
count_ports_spec =
    tie.close
    (tie.spec
    Inv
    μ
    (λ c. (c.requires.0, c.requires.1, tally-start _ _ c.requires.2 c.requires.3))
    (λ c. omega (arith, few c))
    (λ c. omega (arith, few c.before, c.loop-i.invariant.1))
    (λ c κs. search rules)
    (λ c. omega (arith, bin-below c))
    (λ c. omega (arith, bin-below c.before, c.loop-i.invariant.2.counted.size))
    (λ c. omega (arith, c.loop-i.invariant.2.few c.bin_of-bin.result, few c.before.before.before.before.before))
    (λ c. omega (arith, bin-below c.before.before, c.loop-i.invariant.2.counted.size))
    (λ c. omega (arith, few c.before.before.before.before.before))
    (λ c. omega (arith, c.loop-i-test.true))
    loop-again
    returns)
