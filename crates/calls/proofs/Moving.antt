-- The single move: made on the loaded state, and its call case by case.
use Prim.Native.Nat.{ℕ, ◌≤◌, ◌<◌}
use mathlib.Core.Bool.{Bool, true, false}
use mathlib.Core.List.{List, [], ◌∷◌}
use mathlib.Core.Logic.{inl, inr}
use mathlib.Core.Path.{◌≡◌, refl, sym, ap, ◌∙◌}
use native.Mathlib.Omega.{arith}
use lib.ListN.{length, get_or}
use borrow.Author.Tests.{ne_eqb}
use Rattle.semantics.specs.Table.{table_of}
use Rattle.semantics.specs.State.{state_of}
use Rattle.semantics.specs.Move.{move_ok, move_of, to, stepped_by, step_words}
use Rattle.semantics.specs.Members.{members_ended}
use Rattle.semantics.specs.Answers.{answer_of, stepped_result, line_ceiling, state_room, state_verdict, move_faults, move_result, make_move, make_move_target, unless_denied_zero}
use Rattle.semantics.specs.declared.Refusal.{Refusal}
use Rattle.semantics.specs.declared.Refusal.TheVariants.{MoveForm, TargetTooShort}
use Rattle.semantics.specs.declared.Verdict.{Verdict}
use Rattle.semantics.specs.declared.Verdict.TheVariants.{Allowed, Denied}
use Rattle.semantics.specs.declared.Outcome.{Outcome}
use Rattle.semantics.specs.declared.Outcome.TheVariants.{Refused}
use Rattle.wellformed.specs.Verdicts.{unless-intro, unless-false, FaultAt}
use Rattle.state.specs.declared.State.{State}
use Rattle.state.specs.Working.{state_in}
use Rattle.state.specs.Arrays.{HoldsIn}
use Rattle.step.specs.declared.make.Made.{Made}
use Rattle.step.specs.Make.{MadeAs}
use Rattle.calls.specs.Results.{ComesTo}
use Rattle.calls.specs.Moves.{move_made}
use Rattle.wellformed.specs.Results.{too_short, long-enough}
use Rattle.calls.proofs.Results.{fault-gives, passed-gives}

-- the move made on the loaded state
module _ (t S w before : List ℕ) {m : Made} {s s' : State}
    (loaded : HoldsIn s (state_of S)) (made : MadeAs m line_ceiling (table_of t) 1 w s s') where
  stepped : step_words line_ceiling (table_of t) 1 (state_of S) w ≡ stepped_by m.verdict (state_in s')
  stepped = ap (λ x. step_words line_ceiling (table_of t) 1 x w) (sym loaded.holds.value) ∙ made.step

  -- a refused one comes to its number, whatever was counted
  counted : (v : Verdict) {n : ℕ} (k : ℕ) → n ≡ unless_denied_zero v k
      → stepped_result n (stepped_by v (state_in s')) ≡ stepped_result k (stepped_by v (state_in s'))
  counted Allowed k e = ap (λ (n : ℕ). stepped_result n (to (state_in s'))) e
  counted (Denied q) k e = refl

  members-of : m.members ≡ unless_denied_zero m.verdict (members_ended (state_of S) (move_of (table_of t) w))
  members-of = rw loaded.holds.value at made.members

  pub moved_to : {after : List ℕ} {o : Outcome}
      → ComesTo (stepped_result m.members (stepped_by m.verdict (state_in s'))) before after o → ComesTo (move_made t S w) before after o
  moved_to h = rw stepped (rw (counted m.verdict _ members-of) at h)

-- five words, one by one
pub five : (m : List ℕ) → length m ≡ 5 → get_or m 0 0 ∷ get_or m 1 0 ∷ get_or m 2 0 ∷ get_or m 3 0 ∷ get_or m 4 0 ∷ [] ≡ m
five [] h = absurd (omega arith)
five (a ∷ []) h = absurd (omega arith)
five (a ∷ b ∷ []) h = absurd (omega arith)
five (a ∷ b ∷ c ∷ []) h = absurd (omega arith)
five (a ∷ b ∷ c ∷ d ∷ []) h = absurd (omega arith)
five (a ∷ b ∷ c ∷ d ∷ e ∷ []) h = refl
five (a ∷ b ∷ c ∷ d ∷ e ∷ f ∷ m) h = absurd (omega arith)

-- their form, as the code says it
pub form-read : (t m : List ℕ) → length m ≡ 5 → {b : Bool}
    → b ≡ move_ok (table_of t) (get_or m 0 0 ∷ get_or m 1 0 ∷ get_or m 2 0 ∷ get_or m 3 0 ∷ get_or m 4 0 ∷ []) → move_ok (table_of t) m ≡ b
form-read t m long said = ap (move_ok (table_of t)) (sym (five m long)) ∙ sym said

-- words of another length are no move
pub form-unsized : (t m : List ℕ) → (length m ≡ 5 → ⊥) → move_ok (table_of t) m ≡ false
unfolding move_ok
form-unsized t m h = rw (ne_eqb (length m) 5 h)

-- what `make_move` says
abbrev pub MoveAnswered : List ℕ → List ℕ → List ℕ → List ℕ → List ℕ → Outcome → Type 0
MoveAnswered t s m before after o = (answer_of o ≡ make_move t s m before) × (after ≡ make_move_target t s m before)

module _ (t s m before : List ℕ) where
  pub move-fault : (q : Refusal) → FaultAt q (move_faults t s m before) → MoveAnswered t s m before before (Refused q)
  unfolding make_move make_move_target move_result
  move-fault q h = fault-gives (move_faults t s m before) _ before q h

  pub move-unsized : state_verdict t s ≡ Allowed → (length m ≡ 5 → ⊥) → MoveAnswered t s m before before (Refused MoveForm)
  move-unsized ok h = move-fault MoveForm (inr (ok, inl (unless-false MoveForm (form-unsized t m h))))

  module _ (ok : state_verdict t s ≡ Allowed) {b : Bool} (form : move_ok (table_of t) m ≡ b) where
    pub move-malformed : b ≡ false → MoveAnswered t s m before before (Refused MoveForm)
    move-malformed e = move-fault MoveForm (inr (ok, inl (unless-false MoveForm (form ∙ e))))

    pub move-short : b ≡ true → length before < state_room → MoveAnswered t s m before before (Refused TargetTooShort)
    move-short e h = move-fault TargetTooShort (inr (ok, inr (unless-intro MoveForm (form ∙ e), inl (too_short state_room before h))))

    pub move-done : b ≡ true → state_room ≤ length before → {after : List ℕ} {o : Outcome} → ComesTo (move_made t s m) before after o
        → MoveAnswered t s m before after o
    unfolding make_move make_move_target move_result
    move-done e h made =
        passed-gives (move_faults t s m before) (move_made t s m) before
        (ok, (unless-intro MoveForm (form ∙ e), (long-enough state_room before h, tt))) made
