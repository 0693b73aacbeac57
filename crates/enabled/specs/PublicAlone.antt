-- 02, M-130 said of the public calls: what an accepted unattended run answers and leaves in its target, what a run and the list of open moves answer to it,
-- and what its moves come to one by one.
use Rattle.std.specs.Prelude.{ℕ, ◌+◌, ◌-◌, ◌*◌, ◌≤◌, Bool, true, false, ◌↔◌, ◌⊎◌, ◌≡◌, refl, leb, take, drop}
use Rattle.std.proofs.lemmas.Bool.{false≢true}
use mathlib.Core.List.{List, [], map}
use Rattle.std.proofs.Common.{inl, inr, sym, ap, ◌∙◌, arith, length-take}
use borrow.Author.Tests.{leb-true, le-leb}
use Rattle.std.proofs.Math.ListN.{length}
use Rattle.lists.specs.Lists.{one_if}
use Rattle.lists.specs.FirstChoice.{length-nil}
use Rattle.lists.specs.Beginning.{take-taken}
use Rattle.lists.specs.Mapped.{map-take}
use Rattle.lists.specs.Over.{take-over, drop-over}
use Rattle.semantics.specs.Table.{sizes_of, table_of}
use Rattle.semantics.specs.State.{State, state_of, state_words}
use Rattle.semantics.specs.Move.{Move}
use Rattle.semantics.specs.Log.{moves_of, log_words, completed, run}
use Rattle.semantics.specs.Members.{members_along}
use Rattle.semantics.specs.Enabled.{move_words, enabled}
use Rattle.semantics.specs.Unattended.{is_still}
use Rattle.semantics.specs.Answers.{table_verdict, state_verdict, ran_result, write, leave, unless_denied, answer_of, outcome_of, line_ceiling, log_verdict, run_members}
use Rattle.semantics.specs.Answers.{run_result, run_log, run_log_target, alone_faults, alone_verdict, alone_moves, alone_reached, alone_result, alone_count}
use Rattle.semantics.specs.Answers.{alone_still, run_unattended, run_unattended_target, list_faults, list_length, list_moves}
use Rattle.semantics.specs.declared.Refusal.TheVariants.{BudgetTooLarge}
use Rattle.semantics.specs.declared.Verdict.{Verdict}
use Rattle.semantics.specs.declared.Verdict.TheVariants.{Allowed, Denied}
use Rattle.wellformed.specs.Verdicts.{unless_allowed, passed-each, no-fault}
use Rattle.wellformed.specs.States.{state-given}
use Rattle.wellformed.specs.Results.{number-own, long-enough}
use Rattle.wellformed.specs.LogWords.{log-length, log-ok, moves-back}
use Rattle.wellformed.specs.OneByOne.{one_by_one, run-one-by-one}
use Rattle.wellformed.specs.Held.{Held, state_of-held, words-pass}
use Rattle.enabled.specs.Alone.{Steps, steps-made, moves-within, moves-begin, still-empty, open-spent, run_alone, reached-list}

-- ---- what is shown

-- the log that an accepted run wrote
abbrev pub log_left : List ℕ → List ℕ → ℕ → List ℕ → List ℕ
log_left T S budget target = take (run_unattended T S budget target).words (run_unattended_target T S budget target)

-- `list_moves` tells that no move is open in the words of a state
abbrev pub AtRest : List ℕ → List ℕ → Type 0
AtRest T S = (list_moves T S 0 0 []).length ≡ 0

-- Of an accepted run: each of the moves ms was the first of the list where it was made, and they are what is written.
pub record AloneAs (T S : List ℕ) (budget : ℕ) (target : List ℕ) (ms : List Move) (reached : State) : Type 0 where
  pub steps : Steps line_ceiling (table_of T) 0 ms (state_of S) reached
  pub count : (run_unattended T S budget target).moves ≡ length ms
  pub log : moves_of (log_left T S budget target) ≡ map move_words ms
  pub within : (run_unattended T S budget target).moves ≤ budget
  pub words : (run_unattended T S budget target).words ≡ 1 + 5 * (run_unattended T S budget target).moves
  pub beyond : drop (run_unattended T S budget target).words (run_unattended_target T S budget target) ≡ drop (run_unattended T S budget target).words target
  -- a run accepts the log from the same start, and writes the state reached
  pub rerun : (other : List ℕ) → 2050 ≤ length other
      → ((run_log T S (log_left T S budget target) other).number ≡ 0)
      × (take (run_log T S (log_left T S budget target) other).words (run_log_target T S (log_left T S budget target) other) ≡ state_words reached)
  -- and so do its moves, made one by one
  pub singly : (other : List ℕ) → 2050 ≤ length other
      → (k : ℕ) × (one_by_one line_ceiling T S (moves_of (log_left T S budget target)) other ≡ leave (state_words reached) k)
  -- it is still or spent, and nothing else
  pub either : ((run_unattended T S budget target).still ≡ 1) ⊎ ((run_unattended T S budget target).still ≡ 0)
  pub still : ((run_unattended T S budget target).still ≡ 1) ↔ AtRest T (state_words reached)
  pub spent : ((run_unattended T S budget target).still ≡ 0) ↔ (((run_unattended T S budget target).moves ≡ budget) × (AtRest T (state_words reached) → ⊥))

-- ---- and proved

-- a list that is the beginning of another, up to a place
begins-own : {A : Type 0} (xs ys : List A) (n : ℕ) → xs ≡ take n ys → xs ≡ take (length xs) ys
begins-own xs ys n h = h ∙ sym (take-taken n ys) ∙ ap (λ (l : List _). take (length l) ys) (sym h)

begins-length : {A : Type 0} (xs ys : List A) (n : ℕ) → xs ≡ take n ys → length xs ≤ length ys
begins-length xs ys n h = omega (arith, ap length h, length-take n ys)

accepted : (v : Verdict) (ws : List ℕ) → (answer_of (outcome_of (unless_denied v (write ws)))).number ≡ 0 → v ≡ Allowed
accepted Allowed ws h = refl
accepted (Denied r) ws h = absurd (let k = (number-own r).0 in omega arith)

verdict-allowed : (T S : List ℕ) (budget : ℕ) (target : List ℕ) → (run_unattended T S budget target).number ≡ 0 → alone_verdict T S budget target ≡ Allowed
unfolding run_unattended alone_result
verdict-allowed T S budget target h = accepted (alone_verdict T S budget target) (log_words (alone_moves line_ceiling T S budget)) h

module _ (T S : List ℕ) (budget : ℕ) (target : List ℕ) (ok : alone_verdict T S budget target ≡ Allowed) where
  abbrev moves : List Move
  moves = alone_moves line_ceiling T S budget

  abbrev reached : State
  reached = alone_reached line_ceiling T S budget

  answer : run_unattended T S budget target
      ≡ record { number = 0; words = length (log_words moves); moves = length moves; still = one_if (is_still line_ceiling (table_of T) reached) }
  unfolding run_unattended alone_result alone_count alone_still
  answer = rw ok

  contents : take (length (log_words moves)) (run_unattended_target T S budget target) ≡ log_words moves
  unfolding run_unattended_target alone_result
  contents = rw ok (take-over (log_words moves) target)

  behind : drop (length (log_words moves)) (run_unattended_target T S budget target) ≡ drop (length (log_words moves)) target
  unfolding run_unattended_target alone_result
  behind = rw ok (drop-over (log_words moves) target)

  log_is : log_left T S budget target ≡ log_words moves
  log_is = rw answer contents

  state-ok : state_verdict T S ≡ Allowed
  unfolding alone_verdict
  state-ok = (passed-each (alone_faults T S budget target) ok).0

  few : budget ≤ 1024
  unfolding alone_verdict
  few = leb-true budget 1024 (unless_allowed (leb budget 1024) BudgetTooLarge (passed-each (alone_faults T S budget target) ok).1.0)

  made : length moves ≤ budget
  made = moves-within line_ceiling (table_of T) budget 0 (state_of S)

  table-ok : table_verdict T ≡ Allowed
  table-ok = (state-given S T state-ok).0

  ran : run line_ceiling (table_of T) 0 (state_of S) (map move_words moves) ≡ completed reached
  ran = (run_alone line_ceiling (omega arith) T table-ok budget 0 (state_of S) (state_of-held T S state-ok)).0

  reran : (other : List ℕ) → 2050 ≤ length other
      → run_result line_ceiling T S (log_words moves) other ≡ leave (state_words reached) (run_members line_ceiling T S (log_words moves))
  unfolding run_result log_verdict
  reran other l =
      rw (state-ok, log-ok moves (omega (arith, made, few)), le-leb 2050 (length other) l)
      (ap (ran_result (run_members line_ceiling T S (log_words moves))) (ap (run line_ceiling (table_of T) 0 (state_of S)) (moves-back moves) ∙ ran))

  by-run : (other : List ℕ) → 2050 ≤ length other
      → ((run_log T S (log_words moves) other).number ≡ 0)
      × (take (run_log T S (log_words moves) other).words (run_log_target T S (log_words moves) other) ≡ state_words reached)
  unfolding run_log run_log_target
  by-run other l = (rw (reran other l), rw (reran other l) (take-over (state_words reached) other))

  by-moves : (other : List ℕ) → 2050 ≤ length other → (k : ℕ) × (one_by_one line_ceiling T S (moves_of (log_words moves)) other ≡ leave (state_words reached) k)
  by-moves other l = (
    members_along line_ceiling (table_of T) 0 (state_of S) (map move_words moves),
    rw (moves-back moves)
        (sym (run-one-by-one line_ceiling (omega arith) T S other state-ok l (map move_words moves))
        ∙ ap (ran_result (members_along line_ceiling (table_of T) 0 (state_of S) (map move_words moves))) ran),
  )

  abbrev rests : Bool
  rests = is_still line_ceiling (table_of T) reached

  held : Held (sizes_of T) reached
  held = (run_alone line_ceiling (omega arith) T table-ok budget 0 (state_of S) (state_of-held T S state-ok)).1

  listed : (list_moves T (state_words reached) 0 0 []).length ≡ length (enabled line_ceiling (table_of T) reached)
  unfolding list_moves list_length
  listed =
      let passed = no-fault (list_faults T (state_words reached) 0 []) (words-pass T table-ok reached held, (long-enough 0 [] (omega arith), tt)) in
      rw passed (ap length (reached-list line_ceiling (omega arith) T table-ok reached held))

  at_rest : (rests ≡ true) ↔ AtRest T (state_words reached)
  at_rest =
      let (there, back) = still-empty line_ceiling (table_of T) reached in
      ((λ e. listed ∙ ap length (there e)), (λ e. back (length-nil (enabled line_ceiling (table_of T) reached) (sym listed ∙ e))))

  all_made : rests ≡ false → length moves ≡ budget
  all_made = open-spent line_ceiling (table_of T) budget 0 (state_of S)

  still-is : (one_if rests ≡ 1) ↔ AtRest T (state_words reached)
  still-is = go rests at_rest.0 at_rest.1
    where
      go : (b : Bool) → (b ≡ true → AtRest T (state_words reached)) → (AtRest T (state_words reached) → b ≡ true)
          → (one_if b ≡ 1) ↔ AtRest T (state_words reached)
      go true there back = ((λ e. there refl), (λ e. refl))
      go false there back = ((λ e. absurd (omega arith)), (λ e. absurd (false≢true (back e))))

  spent-is : (one_if rests ≡ 0) ↔ ((length moves ≡ budget) × (AtRest T (state_words reached) → ⊥))
  spent-is = go rests at_rest.0 at_rest.1 all_made
    where
      go : (b : Bool) → (b ≡ true → AtRest T (state_words reached)) → (AtRest T (state_words reached) → b ≡ true) → (b ≡ false → length moves ≡ budget)
          → (one_if b ≡ 0) ↔ ((length moves ≡ budget) × (AtRest T (state_words reached) → ⊥))
      go true there back every = ((λ e. absurd (omega arith)), (λ h. absurd (h.1 (there refl))))
      go false there back every = ((λ e. (every refl, λ k. absurd (false≢true (back k)))), (λ h. refl))

  one_of : (b : Bool) → (one_if b ≡ 1) ⊎ (one_if b ≡ 0)
  one_of true = inl refl
  one_of false = inr refl

  alone-as : AloneAs T S budget target moves reached
  alone-as = record {
    steps = steps-made line_ceiling (table_of T) budget 0 (state_of S);
    count = rw answer;
    log = rw (log_is, moves-back moves);
    either = rw answer (one_of rests);
    within = rw answer made;
    words = rw answer (log-length moves);
    beyond = rw answer behind;
    rerun = λ other l. rw log_is (by-run other l);
    singly = λ other l. rw log_is (by-moves other l);
    still = rw answer still-is;
    spent = rw answer spent-is;
  }

-- an accepted unattended run
pub unattended-is : (T S : List ℕ) (budget : ℕ) (target : List ℕ) → (run_unattended T S budget target).number ≡ 0
    → (ms : List Move) × (reached : State) × AloneAs T S budget target ms reached
unattended-is T S budget target h =
    let ok = verdict-allowed T S budget target h in
    (alone_moves line_ceiling T S budget, alone_reached line_ceiling T S budget, alone-as T S budget target ok)

-- with a larger budget: its log begins with the moves of the smaller one, and is no shorter
pub larger-budget : (T S : List ℕ) (budget larger : ℕ) (target other : List ℕ) → budget ≤ larger → (run_unattended T S budget target).number ≡ 0
    → (run_unattended T S larger other).number ≡ 0
    → (moves_of (log_left T S budget target) ≡ take (run_unattended T S budget target).moves (moves_of (log_left T S larger other)))
    × ((run_unattended T S budget target).moves ≤ (run_unattended T S larger other).moves)
larger-budget T S budget larger target other l h k =
    let a = verdict-allowed T S budget target h in
    let b = verdict-allowed T S larger other k in
    let ms = alone_moves line_ceiling T S budget in
    let all = alone_moves line_ceiling T S larger in
    let sum : budget + (larger - budget) ≡ larger = omega arith in
    let begins : ms ≡ take budget all = rw sum at (moves-begin line_ceiling (table_of T) (larger - budget) budget 0 (state_of S)) in
    rw (log_is T S budget target a, log_is T S larger other b, answer T S budget target a, answer T S larger other b, moves-back ms, moves-back all)
    (ap (map move_words) (begins-own ms all budget begins) ∙ map-take move_words (length ms) all, begins-length ms all budget begins)
