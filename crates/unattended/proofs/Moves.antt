-- What the search for the first move and the move itself ask of the columns, and what they leave.
use Prim.Native.Nat.{ℕ, suc, ◌+◌, ◌≤◌}
use mathlib.Core.List.{List, ◌∷◌}
use mathlib.Core.Path.{◌≡◌, refl, sym, ◌∙◌, subst}
use native.Mathlib.Numerals.{add-one}
use native.Mathlib.Omega.{arith}
use borrow.Author.Tests.{eqb-true, eqb-false}
use lib.Dec.{eqb}
use lib.ListN.{get_or}
use Rattle.lists.specs.Choices.{by_bool}
use Rattle.semantics.specs.Table.{Table, sizes_of, table_of}
use Rattle.semantics.specs.State as semantics
use Rattle.semantics.specs.Move.{Move, applied, to, stepped_by, step_words}
use Rattle.semantics.specs.Enabled.{enabled, move_words}
use Rattle.semantics.specs.Answers.{table_verdict}
use Rattle.semantics.specs.declared.Sizes.{Sizes}
use Rattle.semantics.specs.declared.Verdict.{Verdict}
use Rattle.semantics.specs.declared.Verdict.TheVariants.{Allowed, Denied}
use Rattle.wellformed.specs.Tables.{well-formed}
use Rattle.wellformed.specs.Entries.{StateRight}
use Rattle.wellformed.specs.Step.{refused≢to}
use Rattle.wellformed.specs.Held.{Held}
use Rattle.enabled.specs.Alone.{first_made, held_after}
use Rattle.state.specs.declared.Extent.{Extent}
use Rattle.state.specs.declared.State.{State}
use Rattle.state.specs.Working.{held, state_in}
use Rattle.state.specs.Arrays.{HoldsIn}
use Rattle.state.specs.Lent.{state_from, Columns}
use Rattle.step.specs.declared.make.Made.{Made}
use Rattle.step.specs.Make.{Indexed, Workable, MadeAs}
use Rattle.first_end.specs.declared.First.{First}
use Rattle.first_end.specs.First.{first_move}
use Rattle.first_end.specs.OpenEnds.{OwnersGiven, owners-given}
use Rattle.wants.specs.Wants.{Wants}
use Rattle.next_move.specs.Reactions.{SearchOf}
use Rattle.tracking.specs.Tracked.{TrackedIn}

module _ {z : Sizes} (os ws gs : List ℕ) (at : Extent) (ceiling : ℕ) (able : Workable (held os ws gs at) ceiling) (sound : Held z (state_in
    (held os ws gs at))) where
  columns : Columns os ws at.len
  columns = record { owners = able.arrays.owners; items = able.arrays.items; fits = omega (arith, able.bounds.fits, able.limit) }

  holds : HoldsIn (held os ws gs at) (state_in (held os ws gs at))
  holds = record {
    arrays = able.arrays;
    holds = record { value = refl; fits = omega (arith, able.bounds.fits, able.limit) };
    looked = able.looked;
  }

  -- the search, with what is kept beside the columns
  pub searchable : {t index wants stopped totals : List ℕ} {long : ℕ} → Indexed t index → Wants t wants → sizes_of t ≡ z → TrackedIn z os ws at stopped totals
      → long ≡ 1024
      → SearchOf t index wants os ws stopped totals at ceiling × (long ≡ 1024) × (at.next ≤ 65536) × OwnersGiven os at × (at.len ≤ ceiling)
  searchable {t} indexed wants e kept size =
      let given = owners-given holds sound.sound.right in (
        record {
          indexed = indexed;
          wants-are = wants;
          state = record {
            columns = columns;
            narrow = λ p l. by_bool (eqb (get_or os p 0) 0)
                (λ e. let q = eqb-true (get_or os p 0) 0 e in omega arith)
                (λ e. let g = given p l (eqb-false (get_or os p 0) 0 e) in omega (arith, g, able.bounds.next));
            few-ports = (well-formed t indexed.table).sizes.ports;
            looked = able.looked.within;
            unmarked = able.looked.none;
            stops = kept.stops;
          };
          supply = rw e kept.supply;
          limit = able.limit;
        },
        size,
        able.bounds.next,
        given,
        able.bounds.fits,
      )

  -- the search, said of the state in the columns
  pub searched : (t : Table) {f : First} → ((hs : List ℕ) → StateRight z (state_from os ws hs at) → f ≡ first_move (enabled ceiling t (state_from os ws hs at)))
      → f ≡ first_move (enabled ceiling t (state_in (held os ws gs at)))
  unfolding state_in
  searched t h = h gs sound.sound.right

reached-same : (v : Verdict) (x y : semantics.State) → stepped_by v x ≡ to y → x ≡ y
reached-same Allowed x y h = cc
reached-same (Denied r) x y h = absurd (refused≢to h)

-- the first move leaves what it should, and a state of a log
pub made-first : (T : List ℕ) → table_verdict T ≡ Allowed → (ceiling : ℕ) → ceiling ≤ 1024 → (i : ℕ) {made : Made} {w : List ℕ} {s s' : State}
    → Held (sizes_of T) (state_in s) → MadeAs made ceiling (table_of T) (i + 1) w s s' → (m : Move) (ms : List Move)
    → enabled ceiling (table_of T) (state_in s) ≡ m ∷ ms
    → w ≡ move_words m → (state_in s' ≡ applied (table_of T) (suc i) (state_in s) m) × Held (sizes_of T) (state_in s')
made-first T table ceiling c i {made} {w} {s} {s'} h k m ms e q =
    let step : step_words ceiling (table_of T) (suc i) (state_in s) (move_words m) ≡ stepped_by made.verdict (state_in s') = rw (q, add-one i) at k.step in
    let same = reached-same made.verdict (state_in s') (applied (table_of T) (suc i) (state_in s) m)
    (sym step ∙ first_made ceiling c T table (suc i) (state_in s) h m ms e) in
    (same, subst (Held (sizes_of T)) (sym same) (held_after ceiling c T table (suc i) (state_in s) h m ms e))
