-- 02, M-100: the list has the words of a move if and only if the single move is accepted.
use Rattle.std.specs.Prelude.{ℕ, ◌≤◌, Bool, true, false, cond, List, [], ◌∷◌, map, ◌↔◌, ◌≡◌, refl, leb, length}
use Rattle.std.proofs.lemmas.Bool.{false≢true}
use Rattle.std.proofs.Common.{ap, subst, sym, ◌∙◌, arith}
use Rattle.lists.specs.Members.{Among, among-keep, keep-among, among-map, map-among}
use Rattle.semantics.specs.Table.{Table, table_of}
use Rattle.semantics.specs.State.{State, state_of}
use Rattle.semantics.specs.Move.{Move, move_ok, move_of, allowed, applied, unless, refused, stepped_by, move_verdict}
use Rattle.semantics.specs.Enabled.{candidates, is_allowed, enabled, move_words}
use Rattle.semantics.specs.Members.{members_ended}
use Rattle.semantics.specs.Answers.{state_verdict, answer_of, Result, outcome_of, line_ceiling, state_room, stepped_result, move_result, make_move, enabled_in}
use Rattle.semantics.specs.declared.Refusal.TheVariants.{MoveForm, TooManyEntries}
use Rattle.semantics.specs.declared.Verdict.{Verdict}
use Rattle.semantics.specs.declared.Verdict.TheVariants.{Allowed, Denied}
use Rattle.wellformed.specs.Verdicts.{passed-each}
use Rattle.wellformed.specs.Step.{step_words-verdict}
use Rattle.wellformed.specs.MoveWords.{words-ok, words_back, words-again}
use Rattle.wellformed.specs.Preservation.{rule-known}
use Rattle.wellformed.specs.Results.{number-own}
use Rattle.wellformed.specs.OneByOne.{move_result-step}
use Rattle.enabled.specs.Candidates.{among-candidates, candidates-among, from-words, candidate-holdable, allowed-candidate}

-- ---- what is in the list

is-allowed : (v : Verdict) → is_allowed v ≡ true → v ≡ Allowed
is-allowed Allowed h = refl
is-allowed (Denied r) h = absurd (false≢true h)

pub among-enabled : (ceiling : ℕ) (t : Table) (s : State) (m : Move) → Among m (enabled ceiling t s)
    → Among m (candidates t s) × (move_verdict ceiling t s m ≡ Allowed)
unfolding enabled
among-enabled ceiling t s m h =
    let (a, b) = among-keep (λ m. is_allowed (move_verdict ceiling t s m)) (candidates t s) m h in (a, is-allowed (move_verdict ceiling t s m) b)

enabled-among : (ceiling : ℕ) (t : Table) (s : State) (m : Move) → Among m (candidates t s) → move_verdict ceiling t s m ≡ Allowed
    → Among m (enabled ceiling t s)
unfolding enabled
enabled-among ceiling t s m h k = keep-among (λ m. is_allowed (move_verdict ceiling t s m)) (candidates t s) m h (ap is_allowed k)

verdict-allowed : (ceiling : ℕ) (t : Table) (s : State) (m : Move) → move_verdict ceiling t s m ≡ Allowed → allowed t s m ≡ Allowed
unfolding move_verdict
verdict-allowed ceiling t s m h = (passed-each (allowed t s m ∷ unless (leb (length (applied t 0 s m).entries) ceiling) TooManyEntries ∷ []) h).0

-- ---- a single move's answer

-- 0 is the answer exactly if the words are in order and the verdict allows their move
answered : (ok : Bool) (v : Verdict) (n : ℕ) (s : State) → (answer_of (outcome_of (stepped_result n (cond ok (stepped_by v s) (refused MoveForm))))).number ≡ 0
    → (ok ≡ true) × (v ≡ Allowed)
answered true Allowed n s h = (refl, refl)
answered true (Denied r) n s h = absurd (let k = (number-own r).0 in omega arith)
answered false v n s h = absurd (omega arith)

-- the number of the answer to a move, under any ceiling
abbrev pub move_number : ℕ → List ℕ → List ℕ → List ℕ → List ℕ → ℕ
move_number ceiling t s m target = (answer_of (outcome_of (move_result ceiling t s m target))).number

module _ (ceiling : ℕ) (t s m target : List ℕ) (h : state_verdict t s ≡ Allowed) (l : state_room ≤ length target) where
  abbrev move : Move
  move = move_of (table_of t) m

  abbrev verdict : Verdict
  verdict = move_verdict ceiling (table_of t) (state_of s) move

  abbrev left : State
  left = applied (table_of t) 1 (state_of s) move

  abbrev members : ℕ
  members = members_ended (state_of s) move

  result : move_result ceiling t s m target ≡ stepped_result members (cond (move_ok (table_of t) m) (stepped_by verdict left) (refused MoveForm))
  result = move_result-step ceiling t s m target h l ∙ ap (stepped_result members) (step_words-verdict ceiling (table_of t) 1 (state_of s) m)

  accepted : move_number ceiling t s m target ≡ 0 → (move_ok (table_of t) m ≡ true) × (verdict ≡ Allowed)
  accepted k = answered (move_ok (table_of t) m) verdict members left (subst (λ (x : Result). (answer_of (outcome_of x)).number ≡ 0) result k)

  accepts : move_ok (table_of t) m ≡ true → verdict ≡ Allowed → move_number ceiling t s m target ≡ 0
  accepts a b = subst (λ (x : Result). (answer_of (outcome_of x)).number ≡ 0) (sym result) (rw (a, b))

  -- ---- the list and the answer

  listed-accepted : Among m (map move_words (enabled_in ceiling t s)) → move_number ceiling t s m target ≡ 0
  listed-accepted k =
      let (x, i, e) = among-map move_words (enabled_in ceiling t s) m k in
      let (c, v) = among-enabled ceiling (table_of t) (state_of s) x i in
      let held = candidate-holdable (from-words t s h) x (among-candidates (table_of t) (state_of s) x c) in
      accepts (rw e (words-ok (table_of t) x held)) (rw (e, words_back (table_of t) x held) v)

  accepted-listed : move_number ceiling t s m target ≡ 0 → Among m (map move_words (enabled_in ceiling t s))
  accepted-listed k =
      let (ok, v) = accepted k in
      let c = allowed-candidate (from-words t s h) move (rule-known (table_of t) m ok) (verdict-allowed ceiling (table_of t) (state_of s) move v) in
      let i = enabled-among ceiling (table_of t) (state_of s) move (candidates-among (table_of t) (state_of s) move c) v in
      let ms = map move_words (enabled_in ceiling t s) in
      subst (λ (w : List ℕ). Among w ms) (words-again (table_of t) m ok) (map-among move_words (enabled_in ceiling t s) move i)

  -- under any ceiling: words are those of an open move exactly if the move in them is made
  pub open-exactly : Among m (map move_words (enabled_in ceiling t s)) ↔ (move_number ceiling t s m target ≡ 0)
  open-exactly = (listed-accepted, accepted-listed)

-- the same of the public call
pub make_move-exactly : (t s m target : List ℕ) → state_verdict t s ≡ Allowed → state_room ≤ length target
    → Among m (map move_words (enabled_in line_ceiling t s)) ↔ ((make_move t s m target).number ≡ 0)
unfolding make_move
make_move-exactly = open-exactly line_ceiling
