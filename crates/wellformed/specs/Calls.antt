-- The same of the public calls: the words that an accepted move or run wrote are an accepted state, and a run's refused move has an own number 5,
-- 7 to 12, or 18.
use Rattle.std.specs.Prelude.{ℕ, List, ◌≡◌, take}
use Rattle.std.proofs.Common.{ap, arith}
use Rattle.semantics.specs.Answers.{answer_of, outcome_of_check, state_verdict, check_state, line_ceiling, move_result, make_move, make_move_target, run_result}
use Rattle.semantics.specs.Answers.{run_log, run_log_target}
use Rattle.semantics.specs.declared.Verdict.{Verdict}
use Rattle.semantics.specs.declared.Verdict.TheVariants.{Allowed}
use Rattle.wellformed.specs.Results.{move-refused, written}
use Rattle.wellformed.specs.MoveKeeps.{move-leaves, move-keeps}
use Rattle.wellformed.specs.RunKeeps.{run-leaves, run-keeps, run-refused}
use Rattle.wellformed.specs.OwnNumbers.{OwnNumber}

check-passes : (T S : List ℕ) → state_verdict T S ≡ Allowed → (check_state T S).number ≡ 0
unfolding check_state
check-passes T S h = ap (λ (v : Verdict). (answer_of (outcome_of_check v)).number) h

pub make_move-keeps : (T S M target : List ℕ) → (make_move T S M target).number ≡ 0
    → (check_state T (take (make_move T S M target).words (make_move_target T S M target))).number ≡ 0
unfolding make_move make_move_target
make_move-keeps T S M target h =
    let x = move_result line_ceiling T S M target in
    let (ws, k, e) = move-leaves line_ceiling T S M target h in
    rw (written x target ws e) (check-passes T ws (move-keeps line_ceiling (omega arith) T S M target ws k e).0)

pub run_log-keeps : (T S L target : List ℕ) → (run_log T S L target).number ≡ 0
    → (check_state T (take (run_log T S L target).words (run_log_target T S L target))).number ≡ 0
unfolding run_log run_log_target
run_log-keeps T S L target h =
    let x = run_result line_ceiling T S L target in
    let (ws, k, e) = run-leaves line_ceiling T S L target h in
    rw (written x target ws e) (check-passes T ws (run-keeps line_ceiling (omega arith) T S L target ws k e).0)

pub run_log-own : (T S L target : List ℕ) → (run_log T S L target).number ≡ 16
    → OwnNumber (run_log T S L target).own
unfolding run_log
run_log-own T S L target h =
    let (i, r, e) = move-refused (run_result line_ceiling T S L target) h in
    rw e (run-refused line_ceiling T S L target i r e)
