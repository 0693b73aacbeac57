-- 02, M-125, of the public run: the caller's tally after it, and the marks along its log.
use Rattle.std.specs.Prelude.{ℕ, ◌+◌, ◌≤◌, List, ◌≡◌, refl, get_or, take}
use Rattle.std.proofs.Common.{ap, arith}
use Rattle.lists.specs.Tabled.{length-tabled}
use Rattle.semantics.specs.Table.{table_of}
use Rattle.semantics.specs.State.{State, state_of}
use Rattle.semantics.specs.Log.{move_count, move_at, moves_of}
use Rattle.semantics.specs.Tally.{tally_words, history, counts_in}
use Rattle.semantics.specs.Answers.{Result, write, leave, refuse, refuse_move, answer_of, outcome_of, line_ceiling, run_result, run_tally, tally_after}
use Rattle.semantics.specs.Answers.{run_log, run_log_target, run_log_tally}
use Rattle.semantics.specs.declared.Tally.{Tally}
use Rattle.wellformed.specs.Rules.{table-right}
use Rattle.wellformed.specs.States.{state-given}
use Rattle.wellformed.specs.Results.{move-refused}
use Rattle.wellformed.specs.RunKeeps.{run-leaves, run-left, run-stops}
use Rattle.wellformed.specs.Conserved.{marks}
use Rattle.wellformed.specs.Removes.{run_log-removes}
use Rattle.wellformed.specs.History.{tally-history, members-parts, history-whole, begins-made, history-stopped, Balanced, every-prefix}

-- a run that is accepted puts the counts of its history into the caller's tally, whatever that was
pub run_log-tally : (T S L target words : List ℕ) → (run_log T S L target).number ≡ 0
    → run_log_tally T S L target words ≡ tally_words (counts_in (table_of T) (history line_ceiling (table_of T) 0 (state_of S) (moves_of L)))
unfolding run_log run_log_tally
run_log-tally T S L target words h =
    let (ws, k, e) = run-leaves line_ceiling T S L target h in
    rw e (ap tally_words (tally-history line_ceiling (table_of T) 0 (state_of S) (moves_of L)))

-- and one that is refused leaves it
pub run_log-leaves-tally : (T S L target words : List ℕ) → 1 ≤ (run_log T S L target).number → run_log_tally T S L target words ≡ words
unfolding run_log run_log_tally
run_log-leaves-tally T S L target words = go (run_result line_ceiling T S L target) (run_tally line_ceiling T S L)
  where
    go : (x : Result) (y : Tally) → 1 ≤ (answer_of (outcome_of x)).number → tally_after x y words ≡ words
    go (write ws) y h = refl
    go (leave ws k) y h = absurd (omega arith)
    go (refuse r) y h = refl
    go (refuse_move i r) y h = refl

-- every prefix of an accepted run, and of one that breaks off (16) every prefix before the move refused
pub run_log-prefix : (T S L target : List ℕ) → (run_log T S L target).number ≡ 0 → (k : ℕ) → k ≤ move_count L
    → (e : State) × Balanced line_ceiling (table_of T) (state_of S) (moves_of L) k e
unfolding run_log
run_log-prefix T S L target h k le =
    let (ws, n, e) = run-leaves line_ceiling T S L target h in
    let m = run-left line_ceiling (omega arith) T S L target ws n e in
    let all = history-whole line_ceiling (table_of T) (state_of S) (moves_of L) m.state m.ran in
    every-prefix line_ceiling (table_of T) (table-right T (state-given S T m.accepted).0) (state_of S) (moves_of L) k
    (omega (arith, le, all, length-tabled (move_at L) 0 (move_count L)))

pub run_log-prefix-refused : (T S L target : List ℕ) → (run_log T S L target).number ≡ 16 → (k : ℕ) → k ≤ (run_log T S L target).place
    → (e : State) × Balanced line_ceiling (table_of T) (state_of S) (moves_of L) k e
unfolding run_log
run_log-prefix-refused T S L target h k le =
    let (i, r, e) = move-refused (run_result line_ceiling T S L target) h in
    let (accepted, stops) = run-stops line_ceiling T S L target i r e in
    let all = history-stopped line_ceiling (table_of T) 0 (state_of S) (moves_of L) i r stops in
    let place : (answer_of (outcome_of (run_result line_ceiling T S L target))).place ≡ i = ap (λ (x : Result). (answer_of (outcome_of x)).place) e in
    every-prefix line_ceiling (table_of T) (table-right T (state-given S T accepted).0) (state_of S) (moves_of L) k (omega (arith, le, all, place))

-- so the words of the caller's tally balance with the state written
pub run_log-balances : (T S L target words : List ℕ) → (run_log T S L target).number ≡ 0
    → marks (state_of S) + get_or (run_log_tally T S L target words) 1 0
    ≡ get_or (run_log_tally T S L target words) 2 0 + get_or (run_log_tally T S L target words) 3 0
    + marks (state_of (take (run_log T S L target).words (run_log_target T S L target)))
unfolding run_log
run_log-balances T S L target words h =
    let (ws, n, e) = run-leaves line_ceiling T S L target h in
    let m = run-left line_ceiling (omega arith) T S L target ws n e in
    let told : (answer_of (outcome_of (run_result line_ceiling T S L target))).members ≡ n = ap (λ (x : Result). (answer_of (outcome_of x)).members) e in
    rw (run_log-tally T S L target words h)
    (omega (
      arith,
      run_log-removes T S L target h,
      told,
      m.members,
      members-parts line_ceiling (table_of T) 0 (state_of S) (moves_of L),
      begins-made line_ceiling (table_of T) (state_of S) (moves_of L) m.state m.ran,
    ))
