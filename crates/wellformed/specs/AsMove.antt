-- 02, M-115: the preview says what the single move comes to, given a target that is long enough, and never 6.
use Rattle.std.specs.Prelude.{ℕ, ◌+◌, ◌*◌, ◌≤◌, Bool, true, false, List, ◌≡◌, length, take}
use Rattle.std.proofs.Common.{inl, inr, sym, ap, subst, ◌∙◌, arith}
use Rattle.std.proofs.Math.Path.{refl}
use Rattle.std.proofs.lemmas.List.{length-map}
use Rattle.semantics.specs.Table.{sizes_of, table_sizes_ok, table_contents_ok, table_of}
use Rattle.semantics.specs.State.{State, state_sizes_ok, entries_ok, state_of, state_words}
use Rattle.semantics.specs.Move.{unless, both, move_of, Stepped, to, refused, step_words}
use Rattle.semantics.specs.Members.{members_ended}
use Rattle.semantics.specs.Preview.{foreseen_in, previewed}
use Rattle.semantics.specs.Answers.{number, answer_of, Result, leave, refuse, outcome_of, target_after, table_verdict, state_own_verdict, state_verdict, line_ceiling}
use Rattle.semantics.specs.Answers.{state_room, stepped_result, move_faults, move_result, make_move, make_move_target, unless_rejected, preview_result, preview_answer}
use Rattle.semantics.specs.Answers.{preview_move}
use Rattle.semantics.specs.declared.Answer.{Answer}
use Rattle.semantics.specs.declared.Preview.{Preview}
use Rattle.semantics.specs.declared.Previewed.{Previewed}
use Rattle.semantics.specs.declared.Previewed.TheVariants.{Accepted, Rejected}
use Rattle.semantics.specs.declared.Refusal.{Refusal}
use Rattle.semantics.specs.declared.Refusal.TheVariants.{TableSizes, TableContents, StateSizes, StateContents}
use Rattle.semantics.specs.declared.Verdict.{Verdict}
use Rattle.semantics.specs.declared.Verdict.TheVariants.{Allowed, Denied}
use Rattle.wellformed.specs.Verdicts.{denied≢allowed, first-fault}
use Rattle.wellformed.specs.States.{state-given}
use Rattle.wellformed.specs.Results.{number-own, written}
use Rattle.wellformed.specs.RoundTrip.{length-state_words}
use Rattle.wellformed.specs.Bare.{bare, bare_state}
use Rattle.wellformed.specs.Held.{state_of-held, reread, step-holds}
use Rattle.wellformed.specs.OneByOne.{move_result-step}
use Rattle.wellformed.specs.OwnNumbers.{OwnNumber, refused-number}

-- A preview beside the answer of the single move and the target that it left: the same number and the same members; and where the number is 0, the entries
-- and the next id of the state that was written.
pub record Foretells (p : Preview) (a : Answer) (after : List ℕ) : Type 0 where
  pub number_same : p.number ≡ a.number
  pub members-same : p.members ≡ a.members
  pub entries-written : p.number ≡ 0 → length (state_of (take a.words after)).entries ≡ p.entries
  pub next-written : p.number ≡ 0 → (state_of (take a.words after)).next ≡ p.next
  pub words-written : p.number ≡ 0 → a.words ≡ 2 + 2 * p.entries

-- a refusal of both
refuses : (q : Refusal) (target : List ℕ) (x : Result) → x ≡ refuse q
    → Foretells (preview_answer (Rejected q)) (answer_of (outcome_of x)) (target_after x target)
refuses q target x e =
    let none : number q ≡ 0 → ⊥ = λ h. (let k = (number-own q).0 in omega arith) in
    record {
      number_same = rw e;
      members-same = rw e;
      entries-written = λ h. absurd (none h);
      next-written = λ h. absurd (none h);
      words-written = λ h. absurd (none h);
    }

-- a state that is written, and reads as the state that it is
writes : (id k : ℕ) (s : State) → bare_state (state_of (state_words s)) ≡ bare_state s → (target : List ℕ) (x : Result) → x ≡ leave (state_words s) k
    → Foretells (preview_answer (foreseen_in id k (to s))) (answer_of (outcome_of x)) (target_after x target)
writes id k s same target x e =
    let w = written x target (state_words s) e in
    let count : length (state_of (state_words s)).entries ≡ length s.entries =
    sym (length-map (state_of (state_words s)).entries bare) ∙ ap (λ (z : State). length z.entries) same ∙ length-map s.entries bare in
    record {
      number_same = rw e;
      members-same = rw e;
      entries-written = λ h. ap (λ (ws : List ℕ). length (state_of ws).entries) w ∙ count;
      next-written = λ h. ap (λ (ws : List ℕ). (state_of ws).next) w ∙ ap (λ (z : State). z.next) same;
      words-written = λ h. ap (λ (r : Result). (answer_of (outcome_of r)).words) e ∙ length-state_words s;
    }

-- under every ceiling up to 1,024
module _ (ceiling : ℕ) (c : ceiling ≤ 1024) (t s m target : List ℕ) (room : state_room ≤ length target) where
  abbrev result : Result
  result = move_result ceiling t s m target

  abbrev members : ℕ
  members = members_ended (state_of s) (move_of (table_of t) m)

  denied : {q : Refusal} → state_verdict t s ≡ Denied q → result ≡ refuse q
  unfolding move_result
  denied e = rw (first-fault (move_faults t s m target) (inl e))

  stepped : state_verdict t s ≡ Allowed → (x : Stepped) → step_words ceiling (table_of t) 1 (state_of s) m ≡ x
      → (id : ℕ) → Foretells (preview_answer (foreseen_in id members x)) (answer_of (outcome_of result)) (target_after result target)
  stepped ok (refused q) e id = refuses q target result (move_result-step ceiling t s m target ok room ∙ ap (stepped_result members) e)
  stepped ok (to s') e id =
      let table = (state-given s t ok).0 in
      let held = step-holds t table ceiling 1 (state_of s) m s' c (state_of-held t s ok) e in
      writes id members s' (reread t table s' held) target result (move_result-step ceiling t s m target ok room ∙ ap (stepped_result members) e)

  pub preview-foretells : Foretells (preview_answer (preview_result ceiling t s m)) (answer_of (outcome_of result)) (target_after result target)
  unfolding preview_result previewed
  preview-foretells = go (state_verdict t s) refl
    where
      go : (v : Verdict) → state_verdict t s ≡ v
          → Foretells (preview_answer (unless_rejected v (previewed ceiling (table_of t) (state_of s) m))) (answer_of (outcome_of result))
          (target_after result target)
      go (Denied q) e = refuses q target result (denied e)
      go Allowed e = stepped e (step_words ceiling (table_of t) 1 (state_of s) m) refl _

-- the same of the public calls, with any target of at least 2,050 words
pub preview-as-move : (t s m target : List ℕ) → state_room ≤ length target
    → Foretells (preview_move t s m) (make_move t s m target) (make_move_target t s m target)
unfolding preview_move make_move make_move_target
preview-as-move = preview-foretells line_ceiling (omega arith)

-- ---- a refusal shows no figures, and is never 6

pub preview-shows-nothing : (t s m : List ℕ) → ((preview_move t s m).number ≡ 0 → ⊥)
    → ((preview_move t s m).entries ≡ 0) × ((preview_move t s m).next ≡ 0) × ((preview_move t s m).id ≡ 0) × ((preview_move t s m).members ≡ 0)
unfolding preview_move
preview-shows-nothing t s m = go (preview_result line_ceiling t s m)
  where
    go : (p : Previewed) → ((preview_answer p).number ≡ 0 → ⊥)
        → ((preview_answer p).entries ≡ 0) × ((preview_answer p).next ≡ 0) × ((preview_answer p).id ≡ 0) × ((preview_answer p).members ≡ 0)
    go (Accepted f) h = absurd (h refl)
    go (Rejected q) h = (refl, refl, refl, refl)

-- table and state are refused with 1 to 4
checked-number : (t s : List ℕ) (q : Refusal) → state_verdict t s ≡ Denied q → number q ≤ 4
unfolding state_verdict table_verdict state_own_verdict
checked-number t s q = go (table_sizes_ok t) (table_contents_ok t) (state_sizes_ok s) (entries_ok (sizes_of t) (state_of s))
  where
    same : {a : Refusal} → Denied a ≡ Denied q → a ≡ q
    same h = cc

    go : (a b c d : Bool) → both (both (unless a TableSizes) (unless b TableContents)) (both (unless c StateSizes) (unless d StateContents)) ≡ Denied q
        → number q ≤ 4
    go false b c d h = subst (λ (r : Refusal). number r ≤ 4) (same h) (omega arith)
    go true false c d h = subst (λ (r : Refusal). number r ≤ 4) (same h) (omega arith)
    go true true false d h = subst (λ (r : Refusal). number r ≤ 4) (same h) (omega arith)
    go true true true false h = subst (λ (r : Refusal). number r ≤ 4) (same h) (omega arith)
    go true true true true h = absurd (denied≢allowed (sym h))

pub preview-never-six : (t s m : List ℕ) → (preview_move t s m).number ≡ 6 → ⊥
unfolding preview_move preview_result previewed
preview-never-six t s m = go (state_verdict t s) refl
  where
    own : (n : ℕ) → OwnNumber n → n ≡ 6 → ⊥
    own n (inl a) h = omega arith
    own n (inr (inl (a, b))) h = omega arith
    own n (inr (inr a)) h = omega arith

    made : (id k : ℕ) (x : Stepped) → step_words line_ceiling (table_of t) 1 (state_of s) m ≡ x → (preview_answer (foreseen_in id k x)).number ≡ 6 → ⊥
    made id k (to s') e h = omega arith
    made id k (refused q) e h = own (number q) (refused-number line_ceiling (table_of t) 1 (state_of s) m q e) h

    go : (v : Verdict) → state_verdict t s ≡ v → (preview_answer (unless_rejected v (previewed line_ceiling (table_of t) (state_of s) m))).number ≡ 6 → ⊥
    go (Denied q) e h = let k = checked-number t s q e in omega arith
    go Allowed e h = made _ _ (step_words line_ceiling (table_of t) 1 (state_of s) m) refl h
