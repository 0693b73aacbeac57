-- The first pass of the serial log: what it asks, and the answers it may lead to.
use Prim.Native.Nat.{ℕ}
use mathlib.Core.Bool.{Bool, true, false, cond}
use mathlib.Core.List.{List}
use mathlib.Core.Path.{◌≡◌, refl, sym, ap, ◌∙◌}
use native.Mathlib.Omega.{arith}
use lib.ListN.{take, replicate, length-replicate}
use Rattle.semantics.specs.Table.{table_of}
use Rattle.semantics.specs.State.{state_of}
use Rattle.semantics.specs.Move.{unless}
use Rattle.semantics.specs.Log.{log_words}
use Rattle.semantics.specs.Serial.{any_open}
use Rattle.semantics.specs.Answers.{outcome_of, target_after, Result, write, refuse, unless_denied, line_ceiling, run_of, serial_of, serial_fits_of}
use Rattle.semantics.specs.declared.Refusal.{Refusal}
use Rattle.semantics.specs.declared.Refusal.TheVariants.{TransactionOpen, SerialTooManyEntries}
use Rattle.semantics.specs.declared.Verdict.{Verdict}
use Rattle.semantics.specs.declared.Verdict.TheVariants.{Allowed, Denied}
use Rattle.semantics.specs.declared.Outcome.{Outcome}
use Rattle.semantics.specs.declared.Outcome.TheVariants.{Refused, MoveRefused}
use Rattle.wellformed.specs.States.{state-given}
use Rattle.wellformed.specs.Held.{state_of-held}
use Rattle.state.specs.declared.State.{State}
use Rattle.state.specs.Working.{state_in}
use Rattle.state.specs.Arrays.{HoldsIn}
use Rattle.state.specs.Owners.{some_owned, open-held}
use Rattle.run.specs.declared.Ran.{Ran}
use Rattle.run.specs.Runs.{ran_by}
use Rattle.run.specs.Whole.{words-prepared, loaded-workable, ran-whole}
use Rattle.recording.specs.Recordings.{Recordable, RecordRoom, RecordedAs}
use Rattle.serial.specs.Serialized.{Tested, Roomy, after_run, SerializedAs, Reorderable, reordered_result, ReorderedAs}

-- the arrays of the first pass
pub record-room : (l wanted out : List ℕ) → Roomy l wanted out → RecordRoom l wanted (replicate 1024 0) (replicate 1024 0) (replicate 1024 0)
record-room l wanted out r =
    let one = length-replicate {A = ℕ} 1024 0 in
    record { origins = r.notes; members = one; ends = one; begun = one }

fitting : (b : Bool) (q : Refusal) (x : Result) → unless_denied (unless b q) x ≡ cond b x (refuse q)
fitting true q x = refl
fitting false q x = refl

module _ (t index s l target : List ℕ) (k : Tested t index s l target) {x : State} (loaded : HoldsIn x (state_of s)) where
  pub recordable : Recordable t index l x line_ceiling
  recordable =
      record {
        prepared = words-prepared t s k.state k.starts k.sizes;
        quiet = k.quiet;
        held = rw loaded.holds.value (state_of-held t s k.state);
        closed = rw loaded.holds.value k.closed;
        workable = loaded-workable s (state-given s t k.state).1 loaded;
      }

  module _ {r : Ran} {x' : State} {origins members before ends : List ℕ}
      (done : RecordedAs r line_ceiling (table_of t) l x x' origins members before ends) where
    run_by : {u : Verdict} → r.verdict ≡ u → run_of line_ceiling t s l ≡ ran_by u r.place (state_in x')
    run_by e = sym (ran-whole t s l loaded done.ran) ∙ rw e

    pub ran-refused : {q : Refusal} → r.verdict ≡ Denied q → SerializedAs t s l target target (MoveRefused r.place q)
    ran-refused e = record { outcome = rw (run_by e); target = rw (run_by e) }

    -- as the code finds out
    open_is : {b : Bool} → b ≡ some_owned (take x'.len x'.owners) → any_open (state_in x') ≡ b
    open_is e =
        let w = done.ran.workable in
        sym (open-held x'.owners x'.items x'.origins (record { len = x'.len; next = x'.next; unmarked = x'.unmarked })
        (omega (arith, w.bounds.fits, w.arrays.owners))) ∙ sym e

    module _ (e : r.verdict ≡ Allowed) {b : Bool} (told : b ≡ some_owned (take x'.len x'.owners)) where
      pub ran_open : b ≡ true → SerializedAs t s l target target (Refused TransactionOpen)
      ran_open h =
          let o : any_open (state_in x') ≡ true = open_is told ∙ h in
          record { outcome = rw (run_by e, o); target = rw (run_by e, o) }

      module _ (h : b ≡ false) where
        shut : any_open (state_in x') ≡ false
        shut = open_is told ∙ h

        result-is : after_run t s l ≡ reordered_result t s l
        result-is = rw (run_by e, shut) (fitting (serial_fits_of line_ceiling t s l) SerialTooManyEntries (write (log_words (serial_of t s l))))

        pub ran-closed : {after : List ℕ} {o : Outcome} → ReorderedAs t s l target after o → SerializedAs t s l target after o
        ran-closed f =
            record {
              outcome = f.outcome ∙ ap outcome_of (sym result-is);
              target = f.target ∙ ap (λ (y : Result). target_after y target) (sym result-is);
            }

        pub reorder-asked : before ≡ replicate 1024 0 → {begun : List ℕ} → RecordRoom l origins members ends begun
            → Reorderable t index s l origins members ends target
        reorder-asked zeros room =
            record {
              begun = k;
              end = state_in x';
              ran = run_by e;
              shut = shut;
              recordings = rw (loaded.holds.value, zeros) at (done.recordings e);
              record-sizes = (room.origins, room.members, room.ends);
            }
