-- An accepted run's words pass the state check; a refused one's own number is 5, 7 to 12, or 18.
use Rattle.std.specs.Prelude.{ℕ, ◌≤◌, List, ◌≡◌, refl, length}
use Rattle.std.proofs.Common.{ap, ◌∙◌, arith}
use Rattle.semantics.specs.Table.{sizes_of, table_of}
use Rattle.semantics.specs.State.{State, entry_count, state_of, state_words}
use Rattle.semantics.specs.Move.{unless, both, first_fault}
use Rattle.semantics.specs.Log.{moves_of, log_sizes_ok, Ran, completed, stopped, run}
use Rattle.semantics.specs.Members.{members_along}
use Rattle.semantics.specs.Answers.{state_verdict, answer_of, Result, write, leave, refuse_move, outcome_of, unless_denied, has_words, ran_result, log_verdict}
use Rattle.semantics.specs.Answers.{number, run_of, run_members, run_faults, run_result}
use Rattle.semantics.specs.declared.Refusal.{Refusal}
use Rattle.semantics.specs.declared.Refusal.TheVariants.{LogSizes}
use Rattle.semantics.specs.declared.Verdict.{Verdict}
use Rattle.semantics.specs.declared.Verdict.TheVariants.{Allowed, Denied}
use Rattle.wellformed.specs.Verdicts.{both-allowed}
use Rattle.wellformed.specs.States.{state-given}
use Rattle.wellformed.specs.Results.{leave_same, unless_denied-leave, leave-accepted}
use Rattle.wellformed.specs.RoundTrip.{entry_count-state_words}
use Rattle.wellformed.specs.Held.{Held, state_of-held, words-pass, run_holds}
use Rattle.wellformed.specs.OneByOne.{one_by_one, run-one-by-one}
use Rattle.wellformed.specs.OwnNumbers.{OwnNumber, stopped-number}

ran_result-leave : (n : ℕ) (x : Ran) (ws : List ℕ) (k : ℕ) → ran_result n x ≡ leave ws k → (s : State) × (x ≡ completed s) × (state_words s ≡ ws) × (n ≡ k)
ran_result-leave n (completed s) ws k h = (s, refl, (leave_same h).0, (leave_same h).1)
ran_result-leave n (stopped i r) ws k h = absurd (let z : ◌≡◌ {A = ℕ} 0 1 = cc in omega arith)

ran_result-refuse : (n : ℕ) (x : Ran) (i : ℕ) (r : Refusal) → ran_result n x ≡ refuse_move i r → x ≡ stopped i r
ran_result-refuse n (completed s) i r h = absurd (let z : ◌≡◌ {A = ℕ} 0 1 = cc in omega arith)
ran_result-refuse n (stopped j q) i r h = cc

unless_denied-refuse : (v : Verdict) (x : Result) (i : ℕ) (r : Refusal) → unless_denied v x ≡ refuse_move i r → (v ≡ Allowed) × (x ≡ refuse_move i r)
unless_denied-refuse Allowed x i r h = (refl, h)
unless_denied-refuse (Denied q) x i r h = absurd (let z : ◌≡◌ {A = ℕ} 0 1 = cc in omega arith)

-- an accepted run leaves a state's words
pub run-leaves : (ceiling : ℕ) (T S L target : List ℕ) → (answer_of (outcome_of (run_result ceiling T S L target))).number ≡ 0
    → (ws : List ℕ) × (k : ℕ) × (run_result ceiling T S L target ≡ leave ws k)
unfolding run_result
run-leaves ceiling T S L target = leave-accepted (first_fault (run_faults T S L target)) _ (go (run_members ceiling T S L) (run_of ceiling T S L))
  where
    go : (n : ℕ) (x : Ran) (ws : List ℕ) → ran_result n x ≡ write ws → ⊥
    go n (completed s) ws h = let z : ◌≡◌ {A = ℕ} 0 1 = cc in omega arith
    go n (stopped i r) ws h = let z : ◌≡◌ {A = ℕ} 0 1 = cc in omega arith

-- what an accepted run has passed, and what it leaves
pub record RunLeft (ceiling : ℕ) (T S L ws : List ℕ) (k : ℕ) : Type 0 where
  pub accepted : state_verdict T S ≡ Allowed
  pub state : State
  pub ran : run_of ceiling T S L ≡ completed state
  pub words : state_words state ≡ ws
  pub members : run_members ceiling T S L ≡ k
  pub held : Held (sizes_of T) state

pub run-left : (ceiling : ℕ) → ceiling ≤ 1024 → (T S L target ws : List ℕ) (k : ℕ) → run_result ceiling T S L target ≡ leave ws k → RunLeft ceiling T S L ws k
unfolding run_result log_verdict
run-left ceiling c T S L target ws k h =
    let n = run_members ceiling T S L in
    let (v, x) = unless_denied-leave (both (log_verdict T S L) (has_words 2050 target)) (ran_result n (run_of ceiling T S L)) ws k h in
    let (log, long) = both-allowed (log_verdict T S L) (has_words 2050 target) v in
    let (state, sizes) = both-allowed (state_verdict T S) (unless (log_sizes_ok L) LogSizes) log in
    let (s, e, w, m) = ran_result-leave n (run_of ceiling T S L) ws k x in
    record {
      accepted = state;
      state = s;
      ran = e;
      words = w;
      members = m;
      held = run_holds T (state-given S T state).0 ceiling 0 (state_of S) (moves_of L) s c (state_of-held T S state) e;
    }

pub run-keeps : (ceiling : ℕ) → ceiling ≤ 1024 → (T S L target ws : List ℕ) (k : ℕ) → run_result ceiling T S L target ≡ leave ws k
    → (state_verdict T ws ≡ Allowed) × (entry_count ws ≤ 1024) × ((answer_of (outcome_of (run_result ceiling T S L target))).words ≡ length ws)
run-keeps ceiling c T S L target ws k h =
    let m = run-left ceiling c T S L target ws k h in (
      rw m.words at (words-pass T (state-given S T m.accepted).0 m.state m.held),
      rw (← m.words, entry_count-state_words m.state) m.held.few,
      ap (λ (r : Result). (answer_of (outcome_of r)).words) h,
    )

-- what a run that breaks off has passed, and where it stops
pub run-stops : (ceiling : ℕ) (T S L target : List ℕ) (i : ℕ) (r : Refusal) → run_result ceiling T S L target ≡ refuse_move i r
    → (state_verdict T S ≡ Allowed) × (run_of ceiling T S L ≡ stopped i r)
unfolding run_result log_verdict
run-stops ceiling T S L target i r h =
    let n = run_members ceiling T S L in
    let (v, x) = unless_denied-refuse (both (log_verdict T S L) (has_words 2050 target)) (ran_result n (run_of ceiling T S L)) i r h in
    let log = (both-allowed (log_verdict T S L) (has_words 2050 target) v).0 in
    ((both-allowed (state_verdict T S) (unless (log_sizes_ok L) LogSizes) log).0, ran_result-refuse n (run_of ceiling T S L) i r x)

pub run-refused : (ceiling : ℕ) (T S L target : List ℕ) (i : ℕ) (r : Refusal) → run_result ceiling T S L target ≡ refuse_move i r → OwnNumber (number r)
run-refused ceiling T S L target i r h =
    stopped-number ceiling (table_of T) 0 (state_of S) (moves_of L) i r (run-stops ceiling T S L target i r h).1

-- so have single calls one after another: no later one is refused for its table, its state or its target (1 to 4, 6)
pub one-by-one-refused : (ceiling : ℕ) → ceiling ≤ 1024 → (T S target : List ℕ) → state_verdict T S ≡ Allowed → 2050 ≤ length target
    → (ms : List (List ℕ)) (i : ℕ) (r : Refusal)
    → one_by_one ceiling T S ms target ≡ refuse_move i r → OwnNumber (number r)
one-by-one-refused ceiling c T S target h l ms i r e =
    stopped-number ceiling (table_of T) 0 (state_of S) ms i r
    (ran_result-refuse (members_along ceiling (table_of T) 0 (state_of S) ms) (run ceiling (table_of T) 0 (state_of S) ms) i r
    (run-one-by-one ceiling c T S target h l ms ∙ e))
