-- The run of a log: from the loaded state, and its call case by case.
use Prim.Native.Nat.{ℕ, ◌+◌, ◌≤◌, ◌<◌}
use mathlib.Core.Bool.{Bool, true, false}
use mathlib.Core.List.{List}
use mathlib.Core.Logic.{inl, inr}
use mathlib.Core.Path.{◌≡◌, sym, ap, ◌∙◌}
use lib.ListN.{length}
use Rattle.semantics.specs.Table.{table_of}
use Rattle.semantics.specs.State.{state_of}
use Rattle.semantics.specs.Log.{moves_of, log_sizes_ok}
use Rattle.semantics.specs.Answers.{answer_of, line_ceiling, state_room, state_verdict, ran_result, run_faults, run_members, run_tally, run_result, run_log, run_log_target, run_log_tally}
use Rattle.semantics.specs.declared.Refusal.{Refusal}
use Rattle.semantics.specs.declared.Refusal.TheVariants.{LogSizes, TargetTooShort}
use Rattle.semantics.specs.declared.Verdict.TheVariants.{Allowed, Denied}
use Rattle.semantics.specs.declared.Tally.{Tally}
use Rattle.semantics.specs.declared.Outcome.{Outcome}
use Rattle.semantics.specs.declared.Outcome.TheVariants.{Refused}
use Rattle.wellformed.specs.Verdicts.{FaultAt, first-fault, Passed, no-fault}
use Rattle.wellformed.specs.History.{members-tallied}
use Rattle.state.specs.declared.State.{State}
use Rattle.state.specs.Working.{state_in}
use Rattle.state.specs.Arrays.{HoldsIn}
use Rattle.run.specs.declared.Tallied.{Tallied}
use Rattle.run.specs.Runs.{ran_by}
use Rattle.run.specs.Tallies.{TalliedAs}
use Rattle.run.specs.Whole.{ran-whole}
use Rattle.calls.specs.Logs.{run_made, RunsTo}
use Rattle.wellformed.specs.Results.{too_short, long-enough}
use Rattle.calls.proofs.Results.{fault-gives, passed-gives, log-denied, log-missized, log-allowed}

-- the run from the loaded state
module _ (t S l before words : List ℕ) {r : Tallied} {s s' : State}
    (loaded : HoldsIn s (state_of S)) (done : TalliedAs r line_ceiling (table_of t) l s s') where
  tally-whole : r.tally ≡ run_tally line_ceiling t S l
  tally-whole = done.tally ∙ rw loaded.holds.value

  pub ran_to : {after words' : List ℕ} {o : Outcome}
      → RunsTo (ran_result (r.tally.committed + r.tally.aborted) (ran_by r.ran.verdict r.ran.place (state_in s')))
      r.tally before after words words' o
      → RunsTo (run_made t S l) (run_tally line_ceiling t S l) before after words words' o
  ran_to h =
      let ended : run_members line_ceiling t S l ≡ r.tally.committed + r.tally.aborted =
      members-tallied line_ceiling (table_of t) 0 (state_of S) (moves_of l) ∙ ap (λ (y : Tally). y.committed + y.aborted) (sym tally-whole) in
      rw (ran-whole t S l loaded done.ran, ← ended, tally-whole) at h

-- what `run` says
abbrev pub RunAnswered : List ℕ → List ℕ → List ℕ → List ℕ → List ℕ → List ℕ → List ℕ → Outcome → Type 0
RunAnswered t s l before after words words' o =
    (answer_of o ≡ run_log t s l before) × ((after ≡ run_log_target t s l before) × (words' ≡ run_log_tally t s l before words))

module _ (t s l before words : List ℕ) where
  run-fault : (q : Refusal) → FaultAt q (run_faults t s l before) → RunAnswered t s l before before words words (Refused q)
  unfolding run_log run_log_target run_log_tally run_result
  run-fault q h =
      let (answer, contents) = fault-gives (run_faults t s l before) (run_made t s l) before q h in
      (answer, (contents, rw (first-fault (run_faults t s l before) h)))

  pub run-denied : (q : Refusal) → state_verdict t s ≡ Denied q → RunAnswered t s l before before words words (Refused q)
  run-denied q e = run-fault q (inl (log-denied t s l e))

  module _ (ok : state_verdict t s ≡ Allowed) {b : Bool} (sizes : b ≡ log_sizes_ok l) where
    pub run-missized : b ≡ false → RunAnswered t s l before before words words (Refused LogSizes)
    run-missized e = run-fault LogSizes (inl (log-missized t s l ok (sym sizes ∙ e)))

    pub run_short : b ≡ true → length before < state_room → RunAnswered t s l before before words words (Refused TargetTooShort)
    run_short e h = run-fault TargetTooShort (inr (log-allowed t s l ok (sym sizes ∙ e), inl (too_short state_room before h)))

    pub run-done : b ≡ true → state_room ≤ length before → {after words' : List ℕ} {o : Outcome}
        → RunsTo (run_made t s l) (run_tally line_ceiling t s l) before after words words' o → RunAnswered t s l before after words words' o
    unfolding run_log run_log_target run_log_tally run_result
    run-done e h made =
        let passed : Passed (run_faults t s l before) = (log-allowed t s l ok (sym sizes ∙ e), (long-enough state_room before h, tt)) in
        let (answer, contents) = passed-gives (run_faults t s l before) (run_made t s l) before passed made.comes in
        (answer, (contents, rw (no-fault (run_faults t s l before) passed) made.tally))
