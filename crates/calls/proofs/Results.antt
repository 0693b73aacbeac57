-- What a call with a target answers and leaves: its first fault, or what it comes to where there is none.
use Prim.Native.Nat.{ℕ}
use mathlib.Core.Bool.{true, false}
use mathlib.Core.List.{List, [], ◌∷◌}
use mathlib.Core.Logic.{inl, inr}
use mathlib.Core.Path.{◌≡◌, refl, ap}
use Rattle.semantics.specs.Move.{unless, first_fault}
use Rattle.semantics.specs.Log.{log_sizes_ok}
use Rattle.semantics.specs.State.{state_words}
use Rattle.semantics.specs.Answers.{answer_of, outcome_of, target_after, Result, leave, unless_denied, state_verdict, log_verdict}
use Rattle.semantics.specs.declared.Refusal.{Refusal}
use Rattle.semantics.specs.declared.Refusal.TheVariants.{LogSizes}
use Rattle.semantics.specs.declared.Verdict.{Verdict}
use Rattle.semantics.specs.declared.Verdict.TheVariants.{Allowed, Denied}
use Rattle.semantics.specs.declared.Outcome.{Outcome}
use Rattle.semantics.specs.declared.Outcome.TheVariants.{Moved, Refused}
use Rattle.wellformed.specs.Verdicts.{unless-intro, unless-false, FaultAt, first-fault, Passed, no-fault}
use Rattle.state.specs.declared.State.{State}
use Rattle.state.specs.Working.{state_in, Stored}
use Rattle.calls.specs.Results.{ComesTo}

abbrev pub Gives : Result → List ℕ → List ℕ → Outcome → Type 0
Gives x before after o = (answer_of o ≡ answer_of (outcome_of x)) × (after ≡ target_after x before)

-- a fault refuses and leaves the target
pub fault-gives : (vs : List Verdict) (x : Result) (before : List ℕ) (q : Refusal) → FaultAt q vs
    → Gives (unless_denied (first_fault vs) x) before before (Refused q)
fault-gives vs x before q h = rw (first-fault vs h) (refl, refl)

pub passed-gives : (vs : List Verdict) (x : Result) (before : List ℕ) {after : List ℕ} {o : Outcome} → Passed vs → ComesTo x before after o
    → Gives (unless_denied (first_fault vs) x) before after o
passed-gives vs x before h made = rw (no-fault vs h) (ap answer_of made.outcome, made.target)

-- a state that is stored, after moves that ended so many members
pub stored-to : {s : State} {before after : List ℕ} {n : ℕ} → Stored s before after n → (members : ℕ)
    → ComesTo (leave (state_words (state_in s)) members) before after (Moved n members)
stored-to k members = record { outcome = rw k.words; target = k.target }

-- ---- single tests

module _ (t s l : List ℕ) where
  abbrev tests : List Verdict
  tests = state_verdict t s ∷ unless (log_sizes_ok l) LogSizes ∷ []

  pub log-denied : {q : Refusal} → state_verdict t s ≡ Denied q → log_verdict t s l ≡ Denied q
  unfolding log_verdict
  log-denied e = first-fault tests (inl e)

  pub log-missized : state_verdict t s ≡ Allowed → log_sizes_ok l ≡ false → log_verdict t s l ≡ Denied LogSizes
  unfolding log_verdict
  log-missized e f = first-fault tests (inr (e, inl (unless-false LogSizes f)))

  pub log-allowed : state_verdict t s ≡ Allowed → log_sizes_ok l ≡ true → log_verdict t s l ≡ Allowed
  unfolding log_verdict
  log-allowed e f = no-fault tests (e, (unless-intro LogSizes f, tt))
