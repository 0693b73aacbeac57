-- A refused move's own number is 5, 7 to 12, or 18.
use Rattle.std.specs.Prelude.{ℕ, suc, ◌≤◌, Bool, true, false, cond, List, [], ◌∷◌, ◌⊎◌, ◌≡◌, refl, leb, length}
use Rattle.std.proofs.Common.{inl, inr, sym, subst, ◌∙◌, arith}
use Rattle.lists.specs.Lists.{all}
use Rattle.lists.specs.Each.{All}
use Rattle.semantics.specs.Table.{Table, rule_at}
use Rattle.semantics.specs.State.{State}
use Rattle.semantics.specs.Move.{unless, first_fault, react_faults, end_faults, Move, react, commit, abort, move_ok, move_of, picks_ok, owners_at, owners_fit, takes_part}
use Rattle.semantics.specs.Move.{has_id, is_open, may_commit, may_abort, allowed, applied, Stepped, to, refused, stepped_by, step_words, move_verdict}
use Rattle.semantics.specs.Log.{stopped, onward, run}
use Rattle.semantics.specs.Answers.{number}
use Rattle.semantics.specs.declared.Refusal.{Refusal}
use Rattle.semantics.specs.declared.Refusal.TheVariants.{MoveForm, WrongPick, WrongOwner, NoTransaction, EndNotAllowed, NoMoreIds, TooManyEntries}
use Rattle.semantics.specs.declared.Refusal.TheVariants.{TransactionAborting}
use Rattle.semantics.specs.declared.Verdict.{Verdict}
use Rattle.semantics.specs.declared.Verdict.TheVariants.{Allowed, Denied}
use Rattle.wellformed.specs.Step.{step_words-verdict, refused≢to}

abbrev pub OwnNumber : ℕ → Type 0
OwnNumber n = (n ≡ 5) ⊎ ((7 ≤ n) × (n ≤ 12)) ⊎ (n ≡ 18)

abbrev Owns : Verdict → Type 0
Owns Allowed = Unit
Owns (Denied r) = OwnNumber (number r)

owns-first : (vs : List Verdict) → All Owns vs → Owns (first_fault vs)
owns-first [] h = tt
owns-first (v ∷ []) h = h.0
owns-first (Allowed ∷ w ∷ vs) h = owns-first (w ∷ vs) h.1
owns-first (Denied r ∷ w ∷ vs) h = h.0

owns-unless : (b : Bool) (r : Refusal) → 7 ≤ number r → number r ≤ 12 → Owns (unless b r)
owns-unless true r h k = tt
owns-unless false r h k = inr (inl (h, k))

owns-aborting : (b : Bool) → Owns (unless b TransactionAborting)
owns-aborting true = tt
owns-aborting false = inr (inr refl)

ends-own : (may : Bool) (b : ℕ) (s : State) → Owns (first_fault (end_faults may b s))
ends-own may b s =
    owns-first (end_faults may b s)
    (owns-unless (is_open b s) NoTransaction (omega arith) (omega arith), (owns-unless may EndNotAllowed (omega arith) (omega arith), tt))

allowed-owns : (t : Table) (s : State) (m : Move) → Owns (allowed t s m)
unfolding allowed
allowed-owns t s (react r ps) =
    let R = rule_at t r in
    owns-first (react_faults R s ps) (
      owns-unless (picks_ok R s ps) WrongPick (omega arith) (omega arith),
      (
        owns-unless (owners_fit R.class (owners_at s ps)) WrongOwner (omega arith) (omega arith),
        (owns-aborting (all (takes_part s) (owners_at s ps)), (owns-unless (has_id R s) NoMoreIds (omega arith) (omega arith), tt)),
      ),
    )
allowed-owns t s (commit b) = ends-own (may_commit t b s) b s
allowed-owns t s (abort b) = ends-own (may_abort b s) b s

-- 5, 7 to 12, or 18
pub refused-number : (ceiling : ℕ) (t : Table) (i : ℕ) (s : State) (m : List ℕ) (r : Refusal) → step_words ceiling t i s m ≡ refused r → OwnNumber (number r)
unfolding move_verdict
refused-number ceiling t i s m r h =
    go (move_ok t m) (move_verdict ceiling t s (move_of t m))
    (owns-first (allowed t s (move_of t m) ∷ unless fits TooManyEntries ∷ [])
    (allowed-owns t s (move_of t m), (owns-unless fits TooManyEntries (omega arith) (omega arith), tt)))
    (sym (step_words-verdict ceiling t i s m) ∙ h)
  where
    fits : Bool
    fits = leb (length (applied t 0 s (move_of t m)).entries) ceiling

    same : {a b : Refusal} → refused a ≡ refused b → a ≡ b
    same h = cc

    go : (b : Bool) (v : Verdict) → Owns v → cond b (stepped_by v (applied t i s (move_of t m))) (refused MoveForm) ≡ refused r → OwnNumber (number r)
    go false v o k = subst (λ (x : Refusal). OwnNumber (number x)) (same k) (inl refl)
    go true Allowed o k = absurd (refused≢to (sym k))
    go true (Denied q) o k = subst (λ (x : Refusal). OwnNumber (number x)) (same k) o

pub stopped-number : (ceiling : ℕ) (t : Table) (i : ℕ) (s : State) (ms : List (List ℕ)) (j : ℕ) (r : Refusal) → run ceiling t i s ms ≡ stopped j r
    → OwnNumber (number r)
unfolding run
stopped-number ceiling t i s [] j r h = absurd (let z : ◌≡◌ {A = ℕ} 0 1 = cc in omega arith)
stopped-number ceiling t i s (m ∷ ms) j r h = go (step_words ceiling t (suc i) s m) refl (λ s'. stopped-number ceiling t (suc i) s' ms j r) h
  where
    same : {a b : ℕ} {p q : Refusal} → stopped a p ≡ stopped b q → p ≡ q
    same h = cc

    go : (x : Stepped) → step_words ceiling t (suc i) s m ≡ x → ((s' : State) → run ceiling t (suc i) s' ms ≡ stopped j r → OwnNumber (number r))
        → onward x i (λ s'. run ceiling t (suc i) s' ms) ≡ stopped j r → OwnNumber (number r)
    go (to s') e ih k = ih s' k
    go (refused q) e ih k = subst (λ (x : Refusal). OwnNumber (number x)) (same k) (refused-number ceiling t (suc i) s m q e)
