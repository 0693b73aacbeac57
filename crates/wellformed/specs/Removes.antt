-- 02, M-120: the members that an accepted move or run tells are the member marks that it removed. With those that its begins added, the marks of the state
-- handed in are the marks of the state written and the members told.
use Rattle.std.specs.Prelude.{ℕ, ◌+◌, List, ◌≡◌, take}
use Rattle.std.proofs.Common.{sym, ap, ◌∙◌, arith}
use Rattle.lists.specs.Lists.{one_if, count_if}
use Rattle.lists.specs.Counting.{count_map}
use Rattle.semantics.specs.Table.{sizes_of, table_of}
use Rattle.semantics.specs.State.{State, is_member_mark, state_of, state_words}
use Rattle.semantics.specs.Move.{move_of}
use Rattle.semantics.specs.Log.{moves_of}
use Rattle.semantics.specs.Serial.{is_begin}
use Rattle.semantics.specs.Answers.{Result, leave, answer_of, outcome_of, target_after, table_verdict, line_ceiling, move_result, make_move, make_move_target}
use Rattle.semantics.specs.Answers.{run_result, run_log, run_log_target}
use Rattle.semantics.specs.declared.Verdict.TheVariants.{Allowed}
use Rattle.wellformed.specs.Rules.{table-right}
use Rattle.wellformed.specs.States.{state-given}
use Rattle.wellformed.specs.Step.{accepted-move}
use Rattle.wellformed.specs.Preservation.{rule-known}
use Rattle.wellformed.specs.Bare.{bare}
use Rattle.wellformed.specs.Held.{Held, reread}
use Rattle.wellformed.specs.Conserved.{marks, applied-marks, run-marks}
use Rattle.wellformed.specs.Results.{written}
use Rattle.wellformed.specs.MoveKeeps.{move-leaves, move-left}
use Rattle.wellformed.specs.RunKeeps.{run-leaves, run-left}

-- a state's words hold its marks
marks-reread : (T : List ℕ) → table_verdict T ≡ Allowed → (s : State) → Held (sizes_of T) s → marks (state_of (state_words s)) ≡ marks s
marks-reread T table s h =
    sym (count_map bare is_member_mark (state_of (state_words s)).entries)
    ∙ ap (λ (x : State). marks x) (reread T table s h)
    ∙ count_map bare is_member_mark s.entries

-- a result that leaves a state's words and a count, as its answer and its target tell them
told : (T target : List ℕ) (x : Result) (ws : List ℕ) (k : ℕ) → x ≡ leave ws k → table_verdict T ≡ Allowed
    → (s : State) → Held (sizes_of T) s → state_words s ≡ ws → {n : ℕ} → n ≡ marks s + k
    → n ≡ marks (state_of (take (answer_of (outcome_of x)).words (target_after x target))) + (answer_of (outcome_of x)).members
told T target x ws k e table s held words h =
    let members : (answer_of (outcome_of x)).members ≡ k = ap (λ (r : Result). (answer_of (outcome_of r)).members) e in
    rw (written x target ws e, ← words, marks-reread T table s held, members) h

pub make_move-removes : (T S M target : List ℕ) → (make_move T S M target).number ≡ 0
    → marks (state_of S) + one_if (is_begin (table_of T) (move_of (table_of T) M))
    ≡ marks (state_of (take (make_move T S M target).words (make_move_target T S M target))) + (make_move T S M target).members
unfolding make_move make_move_target
make_move-removes T S M target h =
    let (ws, k, e) = move-leaves line_ceiling T S M target h in
    let m = move-left line_ceiling (omega arith) T S M target ws k e in
    let table = (state-given S T m.accepted).0 in
    let a = accepted-move line_ceiling (table_of T) 1 (state_of S) M m.state m.step in
    let one = applied-marks (table-right T table) 1 (state_of S) (move_of (table_of T) M) (rule-known (table_of T) M a.form) a.allows in
    told T target (move_result line_ceiling T S M target) ws k e table m.state m.held m.words (rw (a.result, m.members) at one)

pub run_log-removes : (T S L target : List ℕ) → (run_log T S L target).number ≡ 0
    → marks (state_of S) + count_if (λ m. is_begin (table_of T) (move_of (table_of T) m)) (moves_of L)
    ≡ marks (state_of (take (run_log T S L target).words (run_log_target T S L target))) + (run_log T S L target).members
unfolding run_log run_log_target
run_log-removes T S L target h =
    let (ws, k, e) = run-leaves line_ceiling T S L target h in
    let m = run-left line_ceiling (omega arith) T S L target ws k e in
    let table = (state-given S T m.accepted).0 in
    let all = run-marks (table-right T table) line_ceiling 0 (state_of S) (moves_of L) m.state m.ran in
    told T target (run_result line_ceiling T S L target) ws k e table m.state m.held m.words (rw m.members at all)
