-- What is kept, from a move that is open to what it leaves.
use Prim.Native.Nat.{ℕ, ◌+◌, ◌-◌, ◌<◌}
use mathlib.Core.Bool.{true}
use mathlib.Core.List.{List, ◌∷◌}
use mathlib.Core.Path.{◌≡◌, sym, ap, ◌∙◌}
use native.Mathlib.Omega.{arith}
use lib.Dec.{eqb}
use lib.ListN.{take}
use borrow.Author.Tests.{eqb-true, eqb-false, eq-eqb}
use Rattle.lists.specs.Choices.{by_bool}
use Rattle.semantics.specs.Words.{head_kind, head_number}
use Rattle.semantics.specs.Table.{Table, sizes_of, table_of}
use Rattle.semantics.specs.State as semantics
use Rattle.semantics.specs.Move.{Move, react, commit, abort, picks_used, move_of, allowed, applied}
use Rattle.semantics.specs.declared.Sizes.{Sizes}
use Rattle.semantics.specs.declared.Verdict.TheVariants.{Allowed}
use Rattle.wellformed.specs.Tables.{sizes-table_of, length-rules}
use Rattle.wellformed.specs.Entries.{StateRight}
use Rattle.wellformed.specs.Preservation.{rule-number, end-kind, end-id}
use Rattle.enabled.specs.Supply.{Supply}
use Rattle.idset.specs.IdSet.{has}
use Rattle.state.specs.declared.Extent.{Extent}
use Rattle.state.specs.declared.State.{State}
use Rattle.state.specs.Working.{held, state_in}
use Rattle.state.specs.Arrays.{HoldsIn}
use Rattle.state.specs.Lent.{state_from, Columns}
use Rattle.stopped.specs.Ended.{abort-stopped}
use Rattle.supply.specs.Freed.{EndSupply}
use Rattle.step.specs.declared.make.Made.{Made}
use Rattle.step.specs.Moves.{move-commit, move-abort}
use Rattle.step.specs.Bounds.{verdict-allows}
use Rattle.step.specs.Make.{MadeAs}
use Rattle.tracking.specs.Tracked.{KeptOf, tracked-held}
use Rattle.tracking.specs.Given.{made-reaches, MoveGiven, BeforeMove}
use Rattle.tracking.specs.Reacted.{ReactedTo, AfterMove}
use Rattle.tracking.specs.Ended.{EndStops}

module _ {t index : List ℕ} {i ceiling : ℕ} {os ws gs : List ℕ} {at : Extent} {head : ℕ} {picks stopped totals : List ℕ}
    (g : MoveGiven t index i ceiling os ws gs at (head ∷ picks) stopped totals) where
  abbrev T : Table
  T = table_of t

  abbrev s : semantics.State
  s = state_from os ws gs at

  abbrev mv : Move
  mv = move_of (table_of t) (head ∷ picks)

  allows : allowed T s mv ≡ Allowed
  unfolding state_in
  allows = verdict-allows ceiling T s mv g.opened.verdict

  left-holds : {made : Made} {x : State} → MadeAs made ceiling T (i + 1) (head ∷ picks) (held os ws gs at) x → HoldsIn x (applied T (i + 1) s mv)
  unfolding state_in
  left-holds m = record {
    arrays = m.workable.arrays;
    holds = record { value = made-reaches g.opened m; fits = omega (arith, m.workable.bounds.fits, m.workable.limit) };
    looked = m.workable.looked;
  }

  pub given-columns : Columns os ws at.len
  given-columns = record {
    owners = g.workable.arrays.owners;
    items = g.workable.arrays.items;
    fits = omega (arith, g.workable.bounds.fits, g.workable.limit);
  }

  -- ---- a reaction

  module _ (kind : head_kind head ≡ 0) where
    abbrev used : List ℕ
    used = take (picks_used T head) picks

    move-is : mv ≡ react (head_number head) used
    unfolding move_of
    move-is = rw (eq-eqb (head_kind head) 0 kind)

    known-rule : head_number head < (sizes_of t).rules
    known-rule = omega (arith, rule-number T (head ∷ picks) g.opened.form kind, length-rules t)

    reacted-to : {made : Made} {x : State} → MadeAs made ceiling T (i + 1) (head ∷ picks) (held os ws gs at) x
        → ReactedTo t index (head_number head) s used (i + 1) x stopped totals
    unfolding state_in
    reacted-to m = record {
      indexed = g.indexed;
      known = known-rule;
      reacts = record {
        sound = g.sound.sound;
        few = g.sound.few;
        allows = rw move-is at allows;
        supply = g.tracked.supply gs;
      };
      stops = g.tracked.stops gs;
      holds = rw move-is at (left-holds m);
    }

  -- ---- an end

  module _ (other : head_kind head ≡ 0 → ⊥) where
    pub narrow : head_number head < 65536
    narrow = omega (arith, end-id T (head ∷ picks) g.opened.form other)

    pub told-supply : {totals' : List ℕ} {k b : ℕ}
        → ((gs : List ℕ) (z : Sizes) (t : Table) (i : ℕ) → t.sizes ≡ z → StateRight z (state_from os ws gs at) → Supply z (state_from os ws gs at) totals
        → EndSupply z t i (state_from os ws gs at) b k totals') → EndSupply (sizes_of t) T (i + 1) s b k totals'
    unfolding state_in
    told-supply f = f gs (sizes_of t) T (i + 1) (sizes-table_of t) g.sound.sound.right (g.tracked.supply gs)

    as-abort : head_kind head ≡ 2 → mv ≡ abort (head_number head)
    as-abort e = move-abort T head picks other (λ q. omega arith)

    pub in-set : {k b : ℕ} → k ≡ head_kind head → b ≡ head_number head → k ≡ 2 → has stopped b ≡ true
    in-set ek eb e = rw eb (abort-stopped T s (head_number head) (g.tracked.stops gs) (rw (as-abort (sym ek ∙ e)) at allows))

    pub ended-kept : {k b : ℕ} → k ≡ head_kind head → b ≡ head_number head → {stopped' totals' : List ℕ}
        → EndStops T (i + 1) s b k stopped' → EndSupply (sizes_of t) T (i + 1) s b (k - 1) totals'
        → KeptOf (sizes_of t) (applied T (i + 1) s mv) stopped' totals'
    ended-kept {k} {b} ek eb st su = by_bool (eqb (head_kind head) 1)
        (λ q. let one = eqb-true (head_kind head) 1 q in
        let e : mv ≡ commit b = move-commit T head picks other one ∙ ap commit (sym eb) in
        let a = rw e at allows in
        rw e (record { stops = st.committed (ek ∙ one) a; supply = su.committed (omega arith) a }))
        (λ q. let l = end-kind T (head ∷ picks) g.opened.form other in
        let ne = eqb-false (head_kind head) 1 q in
        let two : head_kind head ≡ 2 = omega arith in
        let e : mv ≡ abort b = as-abort two ∙ ap abort (sym eb) in
        rw e (record { stops = st.aborted (ek ∙ two); supply = su.aborted (omega arith) (rw e at allows) }))

-- ---- both: from before the move to after it

pub made_after : {t index : List ℕ} {i ceiling : ℕ} {os ws gs : List ℕ} {at : Extent} {head : ℕ} {picks stopped totals stopped' totals' : List ℕ}
    → MoveGiven t index i ceiling os ws gs at (head ∷ picks) stopped totals
    → BeforeMove t index i ceiling os ws gs at head picks stopped' totals'
    → {made : Made} {os' ws' gs' : List ℕ} {left : Extent}
    → MadeAs made ceiling (table_of t) (i + 1) (head ∷ picks) (held os ws gs at) (held os' ws' gs' left)
    → AfterMove t index head os' ws' left stopped' totals'
made_after g b {made} {os'} {ws'} {gs'} {left} m = record {
  reaction = λ e. (_, _, _, gs', reacted-to (b.reaction e) e m);
  ended = λ e. tracked-held os' ws' gs' left (left-holds g m) (b.ended e);
}
