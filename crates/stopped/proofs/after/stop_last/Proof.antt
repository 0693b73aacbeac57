-- `stop_last` meets its contract: the last entry tells what a reaction adds.
use borrow.Author.Rules.{rules}
use Prim.Native.Nat.{ℕ, ◌-◌, ◌<◌}
use mathlib.Core.Bool.{◌&&◌, false}
use mathlib.Core.List.{List}
use mathlib.Core.Path.{◌≡◌, refl}
use native.Mathlib.Omega.{arith}
use lib.ListN.{get_or}
use Rattle.lists.specs.Rows.{rows, rows_none}
use Rattle.lists.specs.Tests.{and-right-false}
use Rattle.semantics.specs.State.{Entry, owned}
use Rattle.semantics.specs.Move.{nothing}
use Rattle.state.specs.Working.{row_of}
use Rattle.transactions.specs.Sets.{stops}
use Rattle.transactions.specs.Gathered.{owner-put}
use Rattle.stopped.specs.Last.{last_or, last-rows}
use Rattle.stopped.proofs.LastEntry.{last-added, last-tells}
use Rattle.stopped.proofs.after.stop_last.Statement.{statement}
use Rattle.stopped.proofs.after.stop_last.Tie as tie

-- there is no entry
empty : (f : ℕ → Entry) {n : ℕ} → n ≡ 0 → last_or nothing (rows f 0 n) ≡ nothing
empty f e = rw (e, rows_none)

none : (v : ℕ) → owned v nothing && stops nothing ≡ false
none v = and-right-false (owned v nothing) refl

returns : tie.Need-returns-then-n-eq0
returns c =
    let row : List ℕ → ℕ → Entry = λ gs. row_of c.args.owners.now c.args.items.now gs in (
      λ gs t i σ r ps h e are. last-added h i e (empty (row gs) c.if-n-eq0.true) are c.requires.1 (λ v. rw (none v)),
      λ gs t i σ r ps h e. last-tells h i e (empty (row gs) c.if-n-eq0.true) refl,
    )

returns-2 : tie.Need-returns
returns-2 c =
    let row : List ℕ → ℕ → Entry = λ gs. row_of c.args.owners.now c.args.items.now gs in
    let n = c.args.n in
    let some : 0 < n = omega (arith, c.if-n-eq0.false) in
    let put = c.stop_if.ensures in
    let at : List ℕ → Entry = λ gs. row gs (n - 1) in (
      λ gs t i σ r ps h e are. last-added h i e (last-rows nothing (row gs) n some) are (put 0).size
          (owner-put (at gs) (stops (at gs)) (put (get_or gs (n - 1) 0))),
      λ gs t i σ r ps h e. last-tells h i e (last-rows nothing (row gs) n some) (c.is_stop.ensures (get_or gs (n - 1) 0)),
    )

pub stop_last_spec : {M : Type 1} → statement M
stop_last_spec =
    tie.close
    (tie.spec
    returns (λ c. search rules) (λ c. search rules) (λ c. search rules) (λ c. search rules) (λ c. search rules) (λ c. search rules)
    (λ c κs. search rules) (λ c κs. search rules) returns-2)
