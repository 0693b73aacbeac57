-- `first_free` meets its contract: no place before `from` is free.
use Prim.Native.Nat.{◌-◌}
use native.Mathlib.Omega.{arith}
use borrow.Author.Tests.{not-true, not-false}
use borrow.Author.Rules.{rules}
use lib.ListN.{take}
use Rattle.seek.specs.Seek.{fits_at}
use Rattle.first_choice.proofs.Picking.{Searching, searching-start, searching-passed, searching-on, searching-found, searching-end}
use Rattle.first_choice.proofs.greedy.first_free.Statement.{statement}
use Rattle.first_choice.proofs.greedy.first_free.Tie as tie

abbrev Inv : tie.invariant-loop-from
Inv owners items n stopped low high port picks i from₀ from = Searching (fits_at owners items low high stopped port) (take i picks) n from

abbrev μ : tie.decreases-loop-from
μ owners items n stopped low high port picks i from₀ from = n - from

returns : tie.Need-returns-then-p-n Inv μ
returns c =
    searching-end (searching-passed c.loop-from.invariant c.next_fit-p.ensures) (omega (arith, c.if-p-n.true))

returns-2 : tie.Need-returns-then-not-is_picked Inv μ
returns-2 c =
    searching-found c.loop-from.invariant c.next_fit-p.ensures c.if-p-n.false c.is_picked.ensures
    (not-true _ c.if-not-is_picked.true-raw)

loop-again : tie.Need-loop-from-preserved Inv μ
loop-again c =
    searching-on c.loop-from.invariant c.next_fit-p.ensures c.if-p-n.false c.is_picked.ensures
    (not-false _ c.if-not-is_picked.false-raw)

pub first_free_spec : {M : Type 1} → statement M
first_free_spec =
    tie.close
    (tie.spec
    Inv
    μ
    (λ c. searching-start)
    (λ c κs. search rules)
    returns
    (λ c. search rules)
    (λ c κs. search rules)
    returns-2
    (λ c. search rules)
    (λ c. search rules)
    loop-again
    (λ c. searching-end c.loop-from.invariant c.loop-from-test.false))
