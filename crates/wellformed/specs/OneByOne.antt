-- A run is its moves made one after another, each on the words that the move before it wrote; its members are theirs added up.
use Rattle.std.specs.Prelude.{ℕ, suc, ◌+◌, ◌≤◌, Bool, true, false, cond, ◌≡◌, leb, length}
use mathlib.Core.List.{List, [], ◌∷◌}
use Rattle.std.proofs.Math.Path.{refl, ap}
use Rattle.std.proofs.Common.{sym, ◌∙◌, le-leb, leb-true}
use Rattle.std.proofs.lemmas.List.{length-map}
use Rattle.semantics.specs.Table.{Table, sizes_of, table_of}
use Rattle.semantics.specs.State.{State, state_of, state_words}
use Rattle.semantics.specs.Move.{unless, both, Move, move_ok, move_of, applied, Stepped, to, refused, stepped_by, step, within, step_words, move_verdict}
use Rattle.semantics.specs.Log.{moves_of, log_sizes_ok, Ran, completed, stopped, onward, run}
use Rattle.semantics.specs.Members.{members_ended, add_members, members_along}
use Rattle.semantics.specs.Answers.{table_verdict, state_verdict, Result, write, leave, refuse, refuse_move, unless_denied, has_words, stepped_result, move_result}
use Rattle.semantics.specs.Answers.{ran_result, log_verdict, run_of, run_members, run_result}
use Rattle.semantics.specs.declared.Refusal.TheVariants.{MoveForm, TargetTooShort, LogSizes}
use Rattle.semantics.specs.declared.Verdict.{Verdict}
use Rattle.semantics.specs.declared.Verdict.TheVariants.{Allowed, Denied}
use Rattle.wellformed.specs.Verdicts.{both-allowed, unless_allowed}
use Rattle.wellformed.specs.States.{state-given}
use Rattle.wellformed.specs.Step.{step_words-verdict}
use Rattle.wellformed.specs.Bare.{bare, bare_state, words_same, allowed_same, members_alike, applied-same}
use Rattle.wellformed.specs.RoundTrip.{state_words-state_of}
use Rattle.wellformed.specs.Held.{Held, state_of-held, reread, words-pass, step-holds}

-- so many members more
abbrev pub with_members : ℕ → Result → Result
with_members k (write ws) = write ws
with_members k (leave ws n) = leave ws (k + n)
with_members k (refuse r) = refuse r
with_members k (refuse_move i r) = refuse_move i r

-- On with the words that a move wrote, its members added; a refusal stops with the move's place and own number (a single move is refused by `refuse` alone,
-- and writes by `leave`).
abbrev pub then_on : Result → ℕ → (List ℕ → Result) → Result
then_on (write ws) i rest = rest ws
then_on (leave ws k) i rest = with_members k (rest ws)
then_on (refuse r) i rest = refuse_move i r
then_on (refuse_move j r) i rest = refuse_move i r

-- the first of these moves has the place i
abbrev pub one_by_one_from : ℕ → ℕ → List ℕ → List ℕ → List (List ℕ) → List ℕ → Result
one_by_one_from i ceiling T S [] target = leave S 0
one_by_one_from i ceiling T S (m ∷ ms) target = then_on (move_result ceiling T S m target) i (λ ws. one_by_one_from (suc i) ceiling T ws ms target)

-- moves made by single calls: the first gets S, each later one the words that the move before it wrote
abbrev pub one_by_one : ℕ → List ℕ → List ℕ → List (List ℕ) → List ℕ → Result
one_by_one = one_by_one_from 0

-- ---- a single move

-- on a well-formed state and a long enough target, only the step counts
pub move_result-step : (ceiling : ℕ) (T S m target : List ℕ) → state_verdict T S ≡ Allowed → 2050 ≤ length target
    → move_result ceiling T S m target ≡ stepped_result (members_ended (state_of S) (move_of (table_of T) m)) (step_words ceiling (table_of T) 1 (state_of S) m)
unfolding move_result step_words
move_result-step ceiling T S m target h l =
    rw (h, le-leb 2050 (length target) l)
    (go (members_ended (state_of S) (move_of (table_of T) m)) (move_ok (table_of T) m)
    (within ceiling (step (table_of T) 1 (state_of S) (move_of (table_of T) m))))
  where
    go : (k : ℕ) (b : Bool) (x : Stepped)
        → unless_denied (both (unless b MoveForm) Allowed) (stepped_result k (cond b x (refused MoveForm))) ≡ stepped_result k (cond b x (refused MoveForm))
    go k true x = refl
    go k false x = refl

-- whether a move is made does not depend on origins, ..
pub verdict-same : (ceiling : ℕ) (t : Table) (s s' : State) (m : Move) → bare_state s ≡ bare_state s' → move_verdict ceiling t s m ≡ move_verdict ceiling t s' m
unfolding move_verdict
verdict-same ceiling t s s' m h = rw (allowed_same s s' h t m, fewer)
  where
    fewer : length (applied t 0 s m).entries ≡ length (applied t 0 s' m).entries
    fewer = sym (length-map (applied t 0 s m).entries bare)
        ∙ ap (λ (x : State). length x.entries) (applied-same s s' h t 0 0 m)
        ∙ length-map (applied t 0 s' m).entries bare

-- .. nor do the words that a step leaves, and its members
pub stepped_result-same : (ceiling : ℕ) (t : Table) (i j : ℕ) (s s' : State) (m : List ℕ) → bare_state s ≡ bare_state s'
    → stepped_result (members_ended s (move_of t m)) (step_words ceiling t i s m)
    ≡ stepped_result (members_ended s' (move_of t m)) (step_words ceiling t j s' m)
stepped_result-same ceiling t i j s s' m h =
    ap (stepped_result (members_ended s (move_of t m))) (step_words-verdict ceiling t i s m)
    ∙ rw (verdict-same ceiling t s s' (move_of t m) h, members_alike s s' h (move_of t m))
    (go (members_ended s' (move_of t m)) (move_ok t m) (move_verdict ceiling t s' (move_of t m)))
    ∙ sym (ap (stepped_result (members_ended s' (move_of t m))) (step_words-verdict ceiling t j s' m))
  where
    left : bare_state (applied t i s (move_of t m)) ≡ bare_state (applied t j s' (move_of t m))
    left = applied-same s s' h t i j (move_of t m)

    go : (k : ℕ) (b : Bool) (v : Verdict)
        → stepped_result k (cond b (stepped_by v (applied t i s (move_of t m))) (refused MoveForm)) ≡ stepped_result k
        (cond b (stepped_by v (applied t j s' (move_of t m))) (refused MoveForm))
    go k false v = refl
    go k true (Denied r) = refl
    go k true Allowed = ap (λ (ws : List ℕ). leave ws k) (words_same (applied t i s (move_of t m)) (applied t j s' (move_of t m)) left)

-- ---- a log

module _ (ceiling : ℕ) (c : ceiling ≤ 1024) (T : List ℕ) (table : table_verdict T ≡ Allowed) (target : List ℕ) (l : 2050 ≤ length target) where
  run-held : (i : ℕ) (s : State) → Held (sizes_of T) s → (ms : List (List ℕ))
      → ran_result (members_along ceiling (table_of T) i s ms) (run ceiling (table_of T) i s ms) ≡ one_by_one_from i ceiling T (state_words s) ms target
  unfolding run members_along
  run-held i s h [] = refl
  run-held i s h (m ∷ ms) =
      go (members_ended s (move_of (table_of T) m)) (step_words ceiling (table_of T) (suc i) s m) refl (λ s' k. run-held (suc i) s' k ms)
      ∙ ap (λ (r : Result). then_on r i (λ ws. one_by_one_from (suc i) ceiling T ws ms target)) (sym same)
    where
      same : move_result ceiling T (state_words s) m target
          ≡ stepped_result (members_ended s (move_of (table_of T) m)) (step_words ceiling (table_of T) (suc i) s m)
      same = move_result-step ceiling T (state_words s) m target (words-pass T table s h) l
          ∙ stepped_result-same ceiling (table_of T) 1 (suc i) (state_of (state_words s)) s m (reread T table s h)

      more : (k n : ℕ) (x : Ran) → ran_result (k + n) x ≡ with_members k (ran_result n x)
      more k n (completed s') = refl
      more k n (stopped j r) = refl

      go : (k : ℕ) (x : Stepped) → step_words ceiling (table_of T) (suc i) s m ≡ x
          → ((s' : State) → Held (sizes_of T) s'
          → ran_result (members_along ceiling (table_of T) (suc i) s' ms) (run ceiling (table_of T) (suc i) s' ms)
          ≡ one_by_one_from (suc i) ceiling T (state_words s') ms target)
          → ran_result (add_members x k (λ s'. members_along ceiling (table_of T) (suc i) s' ms)) (onward x i (λ s'. run ceiling (table_of T) (suc i) s' ms))
          ≡ then_on (stepped_result k x) i (λ ws. one_by_one_from (suc i) ceiling T ws ms target)
      go k (to s') e ih =
          more k (members_along ceiling (table_of T) (suc i) s' ms) (run ceiling (table_of T) (suc i) s' ms)
          ∙ ap (with_members k) (ih s' (step-holds T table ceiling (suc i) s m s' c h e))
      go k (refused r) e ih = refl

pub run-one-by-one : (ceiling : ℕ) → ceiling ≤ 1024 → (T S target : List ℕ) → state_verdict T S ≡ Allowed → 2050 ≤ length target → (ms : List (List ℕ))
    → ran_result (members_along ceiling (table_of T) 0 (state_of S) ms) (run ceiling (table_of T) 0 (state_of S) ms) ≡ one_by_one ceiling T S ms target
run-one-by-one ceiling c T S target h l ms =
    let (table, k, e) = state-given S T h in
    run-held ceiling c T table target l 0 (state_of S) (state_of-held T S h) ms
    ∙ ap (λ (ws : List ℕ). one_by_one ceiling T ws ms target) (state_words-state_of S k)

-- every call of the run, refusals too
pub run_result-one-by-one : (ceiling : ℕ) → ceiling ≤ 1024 → (T S L target : List ℕ)
    → run_result ceiling T S L target ≡ unless_denied (both (log_verdict T S L) (has_words 2050 target)) (one_by_one ceiling T S (moves_of L) target)
unfolding run_result log_verdict
run_result-one-by-one ceiling c T S L target = go (both (log_verdict T S L) (has_words 2050 target)) refl
  where
    go : (v : Verdict) → both (log_verdict T S L) (has_words 2050 target) ≡ v
        → unless_denied v (ran_result (run_members ceiling T S L) (run_of ceiling T S L)) ≡ unless_denied v (one_by_one ceiling T S (moves_of L) target)
    go (Denied r) e = refl
    go Allowed e =
        let (a, b) = both-allowed (log_verdict T S L) (has_words 2050 target) e in
        let (s, k) = both-allowed (state_verdict T S) (unless (log_sizes_ok L) LogSizes) a in
        run-one-by-one ceiling c T S target s (leb-true 2050 (length target) (unless_allowed (leb 2050 (length target)) TargetTooShort b)) (moves_of L)
