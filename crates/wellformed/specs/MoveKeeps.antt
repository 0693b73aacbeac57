-- An accepted move's words pass the state check and hold at most the ceiling's entries.
use Rattle.std.specs.Prelude.{ℕ, ◌≤◌, List, ◌≡◌, refl, length}
use Rattle.std.proofs.Common.{ap, arith}
use Rattle.semantics.specs.Table.{sizes_of, table_of}
use Rattle.semantics.specs.State.{State, entry_count, state_of, state_words}
use Rattle.semantics.specs.Move.{unless, both, first_fault, move_ok, move_of, Stepped, to, refused, step_words}
use Rattle.semantics.specs.Members.{members_ended}
use Rattle.semantics.specs.Answers.{state_verdict, answer_of, Result, write, leave, outcome_of, has_words, stepped_result, move_faults, move_result}
use Rattle.semantics.specs.declared.Refusal.TheVariants.{MoveForm}
use Rattle.semantics.specs.declared.Verdict.TheVariants.{Allowed}
use Rattle.wellformed.specs.Verdicts.{both-allowed}
use Rattle.wellformed.specs.States.{state-given}
use Rattle.wellformed.specs.Step.{accepted-move}
use Rattle.wellformed.specs.Results.{refuse≢leave, leave_same, unless_denied-leave, leave-accepted}
use Rattle.wellformed.specs.Held.{Held, state_of-held, words-pass, step-holds}
use Rattle.wellformed.specs.RoundTrip.{entry_count-state_words}

stepped_result-leave : (n : ℕ) (x : Stepped) (ws : List ℕ) (k : ℕ) → stepped_result n x ≡ leave ws k → (s : State) × (x ≡ to s) × (state_words s ≡ ws) × (n ≡ k)
stepped_result-leave n (to s) ws k h = (s, refl, (leave_same h).0, (leave_same h).1)
stepped_result-leave n (refused r) ws k h = absurd (refuse≢leave h)

-- an accepted move leaves a state's words
pub move-leaves : (ceiling : ℕ) (T S M target : List ℕ) → (answer_of (outcome_of (move_result ceiling T S M target))).number ≡ 0
    → (ws : List ℕ) × (k : ℕ) × (move_result ceiling T S M target ≡ leave ws k)
unfolding move_result
move-leaves ceiling T S M target =
    leave-accepted (first_fault (move_faults T S M target)) _
    (go (members_ended (state_of S) (move_of (table_of T) M)) (step_words ceiling (table_of T) 1 (state_of S) M))
  where
    go : (n : ℕ) (x : Stepped) (ws : List ℕ) → stepped_result n x ≡ write ws → ⊥
    go n (to s) ws h = let z : ◌≡◌ {A = ℕ} 0 1 = cc in omega arith
    go n (refused r) ws h = let z : ◌≡◌ {A = ℕ} 0 1 = cc in omega arith

-- what an accepted move has passed, and what it leaves
pub record MoveLeft (ceiling : ℕ) (T S M ws : List ℕ) (k : ℕ) : Type 0 where
  pub accepted : state_verdict T S ≡ Allowed
  pub state : State
  pub step : step_words ceiling (table_of T) 1 (state_of S) M ≡ to state
  pub words : state_words state ≡ ws
  pub members : members_ended (state_of S) (move_of (table_of T) M) ≡ k
  pub held : Held (sizes_of T) state

pub move-left : (ceiling : ℕ) → ceiling ≤ 1024 → (T S M target ws : List ℕ) (k : ℕ) → move_result ceiling T S M target ≡ leave ws k
    → MoveLeft ceiling T S M ws k
unfolding move_result
move-left ceiling c T S M target ws k h =
    let n = members_ended (state_of S) (move_of (table_of T) M) in
    let (v, x) = unless_denied-leave (both (state_verdict T S) (both (unless (move_ok (table_of T) M) MoveForm) (has_words 2050 target)))
    (stepped_result n (step_words ceiling (table_of T) 1 (state_of S) M)) ws k h in
    let (state, rest) = both-allowed (state_verdict T S) (both (unless (move_ok (table_of T) M) MoveForm) (has_words 2050 target)) v in
    let (s, e, w, m) = stepped_result-leave n (step_words ceiling (table_of T) 1 (state_of S) M) ws k x in
    record {
      accepted = state;
      state = s;
      step = e;
      words = w;
      members = m;
      held = step-holds T (state-given S T state).0 ceiling 1 (state_of S) M s c (state_of-held T S state) e;
    }

pub move-keeps : (ceiling : ℕ) → ceiling ≤ 1024 → (T S M target ws : List ℕ) (k : ℕ) → move_result ceiling T S M target ≡ leave ws k
    → (state_verdict T ws ≡ Allowed) × (entry_count ws ≤ ceiling) × ((answer_of (outcome_of (move_result ceiling T S M target))).words ≡ length ws)
move-keeps ceiling c T S M target ws k h =
    let m = move-left ceiling c T S M target ws k h in (
      rw m.words at (words-pass T (state-given S T m.accepted).0 m.state m.held),
      rw (← m.words, entry_count-state_words m.state) (accepted-move ceiling (table_of T) 1 (state_of S) M m.state m.step).fits,
      ap (λ (r : Result). (answer_of (outcome_of r)).words) h,
    )
