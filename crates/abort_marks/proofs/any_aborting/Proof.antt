-- `any_aborting` meets its contract: no chunk before `from` has an abort mark of the four.
use Prim.Native.Nat.{ℕ, ◌-◌}
use mathlib.Core.List.{List, [], ◌∷◌}
use mathlib.Core.Bool.{Bool}
use mathlib.Core.Path.{◌≡◌, sym, ◌∙◌}
use native.Mathlib.Omega.{arith}
use borrow.Author.Rules.{rules}
use Rattle.lists.specs.Lists.{any}
use Rattle.semantics.specs.State.{State}
use Rattle.semantics.specs.Move.{may_abort}
use Rattle.state.specs.Working.{row_of}
use Rattle.state.specs.Lent.{state_from, Columns}
use Rattle.abort_marks.specs.Marked.{abort_mark_in}
use Rattle.abort_marks.proofs.Chunks.{marked-ids, Passing, passing-start, chunk-room, passing-found, passing-next, passing-done}
use Rattle.abort_marks.proofs.any_aborting.Statement.{statement}
use Rattle.abort_marks.proofs.any_aborting.Tie as tie

abbrev Inv : tie.invariant-loop-from
Inv owners items unmarked a b c d n from₀ from = Columns owners items n × ((gs : List ℕ) → Passing (a ∷ b ∷ c ∷ d ∷ []) (row_of owners items gs) n from)

abbrev μ : tie.decreases-loop-from
μ owners items unmarked a b c d n from₀ from = n - from

abbrev ids : tie.Start Inv μ → List ℕ
ids c = c.args.a ∷ c.args.b ∷ c.args.c ∷ c.args.d ∷ []

abbrev state_of : tie.Start Inv μ → List ℕ → State
state_of c gs = state_from c.args.owners.now c.args.items.now gs c.args.at

-- by ids, as the contract has it
by-ids : (c : tie.Start Inv μ) (gs : List ℕ) {r : Bool} → r ≡ any (abort_mark_in (ids c)) (state_of c gs).entries
    → r ≡ any (λ o. may_abort o (state_of c gs)) (ids c)
by-ids c gs h = h ∙ marked-ids (ids c) (state_of c gs)

loop-holds : tie.Need-loop-from-init Inv μ
loop-holds c = (c.requires.0, λ gs. passing-start _ _ c.requires.1 c.pass_start-from.ensures)

chunk-aborting-requires : tie.Need-chunk_aborting-requires Inv μ
chunk-aborting-requires c κs =
    let v = c.loop-from.invariant in
    let e = c.chunk_end-end.ensures in (
      record { owners = v.0.owners; items = v.0.items; fits = omega (arith, e.within, v.0.fits) },
      omega (arith, e.more),
      e.few,
      chunk-room _ _ (v.1 []) v.0.fits c.loop-from-test.true,
    )

returns : tie.Need-returns-then-chunk_aborting Inv μ
returns c gs =
    by-ids c.before.before.before.before.before.before gs
    (passing-found _ _ (c.loop-from.invariant.1 gs) c.chunk_end-end.ensures (sym (c.chunk_aborting.ensures gs) ∙ c.if-chunk_aborting.true))

loop-again : tie.Need-loop-from-preserved Inv μ
loop-again c =
    let v = c.loop-from.invariant in
    let e = c.chunk_end-end.ensures in
    (v.0, λ gs. passing-next _ _ (v.1 gs) e c.loop-from-test.true (sym (c.chunk_aborting.ensures gs) ∙ c.if-chunk_aborting.false))

pub any_aborting_spec : {M : Type 1} → statement M
any_aborting_spec =
    tie.close
    (tie.spec
    Inv μ (λ c κs. search rules) loop-holds
    (λ c κs. (c.loop-from-test.true, c.loop-from.invariant.0.fits))
    chunk-aborting-requires
    returns
    (λ c. let e = c.chunk_end-end.ensures in omega (arith, e.more, e.within))
    loop-again
    (λ c gs. by-ids c.before.before.before gs (passing-done _ _ (c.loop-from.invariant.1 gs) c.loop-from-test.false)))
