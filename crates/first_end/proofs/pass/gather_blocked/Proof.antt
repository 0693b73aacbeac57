-- `gather_blocked` meets its contract: each turn puts an entry's owner into the set if the entry blocks.
use borrow.Author.Rules.{rules}
use Prim.Native.Nat.{ℕ, ◌-◌}
use mathlib.Core.Bool.{◌&&◌}
use mathlib.Core.Path.{◌≡◌}
use mathlib.Core.List.{List}
use lib.ListN.{length, get_or}
use Rattle.semantics.specs.State.{Entry, owned}
use Rattle.state.specs.Working.{row_of}
use Rattle.transactions.specs.Sets.{blocks}
use Rattle.transactions.specs.Gathered.{Gathering, gathering-start, gathering-next, gathering-done, owner-put}
use Rattle.first_end.proofs.pass.gather_blocked.Statement.{statement}
use Rattle.first_end.proofs.pass.gather_blocked.Tie as tie

abbrev Inv : tie.invariant-loop-i
Inv owners items n globals blocked₀ i₀ blocked i =
    (length blocked ≡ 1024) × ((gs : List ℕ) → Gathering (λ v e. owned v e && blocks globals e) (row_of owners items gs) n blocked i)

abbrev μ : tie.decreases-loop-i
μ owners items n globals blocked₀ i₀ blocked i = n - i

loop-holds : tie.Need-loop-i-init Inv μ
loop-holds c = (c.requires.1.size, λ gs. gathering-start c.requires.1)

loop-again : tie.Need-loop-i-preserved Inv μ
loop-again c =
    let l = c.loop-i in
    let a = c.args in
    let row : List ℕ → Entry = λ gs. row_of a.owners.now a.items.now gs l.i in
    let t = c.enter_if.ensures in (
      (t 0).size,
      λ gs. gathering-next (l.invariant.1 gs) c.loop-i-test.true (owner-put (row gs) (blocks a.globals (row gs)) (t (get_or gs l.i 0))),
    )

returns : tie.Need-returns Inv μ
returns c gs = record { are = gathering-done (c.loop-i.invariant.1 gs) c.loop-i-test.false }

pub gather_blocked_spec : {M : Type 1} → statement M
gather_blocked_spec =
    tie.close
    (tie.spec
    Inv μ loop-holds (λ c. search rules) (λ c. search rules) (λ c. search rules) (λ c. search rules)
    (λ c κs. search rules) (λ c. search rules) (λ c. search rules) loop-again returns)
