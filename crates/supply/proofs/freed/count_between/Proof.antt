-- `count_between` meets its contract: the entries before i are counted (`Freeing`).
use borrow.Author.Rules.{rules}
use Prim.Native.Nat.{ℕ, ◌-◌, ◌<◌}
use native.Mathlib.Omega.{arith}
use mathlib.Core.List.{List, []}
use Rattle.state.specs.Working.{row_of}
use Rattle.state.specs.Lent.{Columns}
use Rattle.supply.proofs.Freeing.{Freeing, freeing-start, freeing-next, freeing-done, freeing-fits}
use Rattle.supply.proofs.freed.count_between.Statement.{statement}
use Rattle.supply.proofs.freed.count_between.Tie as tie

abbrev Inv : tie.invariant-loop-i
Inv owners items from end id kind totals₀ i₀ totals i =
    Columns owners items end × ((gs : List ℕ) → Freeing id kind (row_of owners items gs) end from i totals₀ totals)

abbrev μ : tie.decreases-loop-i
μ owners items from end id kind totals₀ i₀ totals i = end - i

loop-holds : tie.Need-loop-i-init Inv μ
loop-holds c = (c.requires.0, λ gs. freeing-start _ _ _ _ _ c.requires.1 c.requires.2)

add-totals : tie.Need-overflow_add-totals Inv μ
add-totals c =
    let small : c.port_of-port.result < 256 = omega (arith, c.port_of-port.ensures) in
    let fits = freeing-fits _ _ _ (c.loop-i.invariant.1 []) c.loop-i-test.true c.port_of-port.ensures small in
    let one = c.one_if-more.ensures in
    omega (arith, fits, one)

loop-again : tie.Need-loop-i-preserved Inv μ
loop-again c =
    let v = c.loop-i.invariant in
    let small : c.port_of-port.result < 256 = omega (arith, c.port_of-port.ensures) in (
      v.0,
      λ gs. freeing-next _ _ _ (v.1 gs) c.loop-i-test.true c.port_of-port.ensures small
          c.kind_of.ensures c.one_if-more.ensures.0,
    )

returns : tie.Need-returns Inv μ
returns c gs = freeing-done _ _ _ (c.loop-i.invariant.1 gs) c.loop-i-test.false

pub count_between_spec : {M : Type 1} → statement M
count_between_spec =
    tie.close
    (tie.spec
    Inv
    μ
    loop-holds
    (λ c. search rules)
    (λ c. search rules)
    (λ c κs. search rules)
    (λ c. search rules)
    (λ c. search rules)
    (λ c. search rules)
    (λ c κs. search rules)
    (λ c κs. search rules)
    (λ c. search rules)
    (λ c. search rules)
    add-totals
    (λ c. search rules)
    (λ c. search rules)
    (λ c. search rules)
    (λ c. search rules)
    loop-again
    returns)
