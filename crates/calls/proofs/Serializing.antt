-- The serial log, case by case.
use Prim.Native.Nat.{ℕ, ◌≤◌, ◌<◌}
use mathlib.Core.Bool.{true, false, not}
use mathlib.Core.List.{List}
use mathlib.Core.Logic.{inl, inr}
use mathlib.Core.Path.{◌≡◌, ap}
use lib.ListN.{length}
use Rattle.semantics.specs.Table.{table_of}
use Rattle.semantics.specs.State.{state_of}
use Rattle.semantics.specs.Move.{unless}
use Rattle.semantics.specs.Log.{log_sizes_ok}
use Rattle.semantics.specs.Serial.{begins_emit, any_open}
use Rattle.semantics.specs.Answers.{answer_of, state_verdict, log_verdict, has_words, serial_room, serial_faults, serial_result, serialize, serialize_target}
use Rattle.semantics.specs.declared.Refusal.{Refusal}
use Rattle.semantics.specs.declared.Refusal.TheVariants.{LogSizes, TargetTooShort, BeginEmits, TransactionOpen}
use Rattle.semantics.specs.declared.Verdict.TheVariants.{Allowed, Denied}
use Rattle.semantics.specs.declared.Outcome.{Outcome}
use Rattle.semantics.specs.declared.Outcome.TheVariants.{Refused}
use Rattle.wellformed.specs.Verdicts.{unless-intro, unless-false, FaultAt}
use Rattle.serial.specs.Serialized.{after_run, SerializedAs}
use Rattle.wellformed.specs.Results.{too_short, long-enough}
use Rattle.calls.proofs.Results.{fault-gives, passed-gives, log-denied, log-missized, log-allowed}

-- what `serialize` says
abbrev pub SerialAs : List ℕ → List ℕ → List ℕ → List ℕ → List ℕ → Outcome → Type 0
SerialAs t s l before after o = (answer_of o ≡ serialize t s l before) × (after ≡ serialize_target t s l before)

module _ (t s l before : List ℕ) where
  serial-fault : (q : Refusal) → FaultAt q (serial_faults t s l before) → SerialAs t s l before before (Refused q)
  unfolding serialize serialize_target serial_result
  serial-fault q h = fault-gives (serial_faults t s l before) _ before q h

  pub serial-denied : (q : Refusal) → state_verdict t s ≡ Denied q → SerialAs t s l before before (Refused q)
  serial-denied q e = serial-fault q (inl (log-denied t s l e))

  module _ (ok : state_verdict t s ≡ Allowed) where
    pub serial-missized : log_sizes_ok l ≡ false → SerialAs t s l before before (Refused LogSizes)
    serial-missized e = serial-fault LogSizes (inl (log-missized t s l ok e))

    module _ (sizes : log_sizes_ok l ≡ true) where
      log-ok : log_verdict t s l ≡ Allowed
      log-ok = log-allowed t s l ok sizes

      pub serial-short : length before < serial_room l → SerialAs t s l before before (Refused TargetTooShort)
      serial-short h = serial-fault TargetTooShort (inr (log-ok, inl (too_short (serial_room l) before h)))

      module _ (room : serial_room l ≤ length before) where
        room-ok : has_words (serial_room l) before ≡ Allowed
        room-ok = long-enough (serial_room l) before room

        pub serial-emits : begins_emit (table_of t) ≡ true → SerialAs t s l before before (Refused BeginEmits)
        serial-emits e = serial-fault BeginEmits (inr (log-ok, inr (room-ok, inl (unless-false BeginEmits (ap not e)))))

        module _ (quiet : begins_emit (table_of t) ≡ false) where
          quiet_ok : unless (not (begins_emit (table_of t))) BeginEmits ≡ Allowed
          quiet_ok = unless-intro BeginEmits (ap not quiet)

          pub serial-open : any_open (state_of s) ≡ true → SerialAs t s l before before (Refused TransactionOpen)
          serial-open e = serial-fault TransactionOpen (inr (log-ok, inr (room-ok, inr (quiet_ok, inl (unless-false TransactionOpen (ap not e))))))

          pub serial-done : any_open (state_of s) ≡ false → {after : List ℕ} {o : Outcome} → SerializedAs t s l before after o
              → SerialAs t s l before after o
          unfolding serialize serialize_target serial_result
          serial-done e f =
              passed-gives (serial_faults t s l before) (after_run t s l) before
              (log-ok, (room-ok, (quiet_ok, (unless-intro TransactionOpen (ap not e), tt))))
              (record { outcome = f.outcome; target = f.target })
