-- For callers: from words that were checked to what a run asks, and from what it gives to the run of those words.
use Rattle.std.specs.Prelude.{ℕ, ◌*◌, ◌≤◌, true, List, ◌≡◌, length}
use Rattle.std.proofs.Common.{◌∙◌, arith}
use Rattle.semantics.specs.Table.{sizes_of, numbers_of, table_of}
use Rattle.semantics.specs.State.{state_of, state_sizes_ok}
use Rattle.wellformed.specs.States as States
use Rattle.semantics.specs.Log.{move_count, log_sizes_ok}
use Rattle.semantics.specs.Answers.{state_verdict, line_ceiling, run_of}
use Rattle.semantics.specs.declared.Verdict.TheVariants.{Allowed}
use Rattle.wellformed.specs.States.{state-given}
use Rattle.table.specs.Index.{Starts}
use Rattle.state.specs.declared.State.{State}
use Rattle.state.specs.Working.{state_in}
use Rattle.state.specs.Arrays.{HoldsIn, held_next}
use Rattle.move_log.specs.Form.{log-sized}
use Rattle.step.specs.Make.{Workable, Indexed}
use Rattle.run.specs.declared.Ran.{Ran}
use Rattle.run.specs.Runs.{Prepared, RanAs, ran_by}
use Rattle.run.specs.Lines.{Traceable}

-- ---- what a move, a run and a trace ask

module _ (T S : List ℕ) {index : List ℕ} (ok : state_verdict T S ≡ Allowed) (starts : Starts (numbers_of T) (sizes_of T).rules index) where
  pub words-indexed : Indexed T index
  words-indexed = record { table = (state-given S T ok).0; starts = starts }

  pub words-prepared : {L : List ℕ} → log_sizes_ok L ≡ true → Prepared T index L
  words-prepared {L} sizes = record { indexed = words-indexed; log = log-sized L sizes }

module _ (S : List ℕ) (z : state_sizes_ok S ≡ true) {s : State} (h : HoldsIn s (state_of S)) where
  pub loaded-workable : Workable s line_ceiling
  unfolding state_of
  loaded-workable = record {
    arrays = h.arrays;
    bounds = record { fits = h.holds.fits; next = omega (arith, held_next h.holds, (States.state-sized S z).last) };
    looked = h.looked;
    limit = omega arith;
  }

  pub loaded-traceable : {T index L : List ℕ} → Prepared T index L → {target : List ℕ} → 4 * move_count L ≤ length target → Traceable T index L s target
  loaded-traceable p room = record { prepared = p; workable = loaded-workable; room = room }

-- ---- what a run gives

module _ (T S L : List ℕ) {s : State} (h : HoldsIn s (state_of S)) {ceiling : ℕ} {r : Ran} {s' : State} (ran : RanAs r ceiling (table_of T) L s s') where
  pub ran-whole : ran_by r.verdict r.place (state_in s') ≡ run_of ceiling T S L
  ran-whole = ran.value ∙ rw h.holds.value
