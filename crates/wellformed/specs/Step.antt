-- A move in words as a test and a result, and what an accepted one has passed: its entries are at most the ceiling.
use Rattle.std.specs.Prelude.{ℕ, ◌≤◌, Bool, true, false, cond, List, ◌≡◌, refl, leb, length}
use Rattle.std.proofs.Common.{ap, ◌∙◌, arith, leb-true}
use Rattle.semantics.specs.Table.{Table}
use Rattle.semantics.specs.State.{State}
use Rattle.semantics.specs.Move.{unless, both, move_ok, move_of, allowed, applied, Stepped, to, refused, stepped_by, step, within, step_words, move_verdict}
use Rattle.semantics.specs.Log.{completed}
use Rattle.semantics.specs.declared.Refusal.{Refusal}
use Rattle.semantics.specs.declared.Refusal.TheVariants.{MoveForm, TooManyEntries}
use Rattle.semantics.specs.declared.Verdict.{Verdict}
use Rattle.semantics.specs.declared.Verdict.TheVariants.{Allowed, Denied}
use Rattle.wellformed.specs.Length.{length-maker}

within_step : (ceiling : ℕ) (v : Verdict) (s : State)
    → within ceiling (stepped_by v s) ≡ stepped_by (both v (unless (leb (length s.entries) ceiling) TooManyEntries)) s
within_step ceiling Allowed s = go (leb (length s.entries) ceiling)
  where
    go : (b : Bool) → cond b (to s) (refused TooManyEntries) ≡ stepped_by (unless b TooManyEntries) s
    go true = refl
    go false = refl
within_step ceiling (Denied r) s = refl

-- first the form, then the verdict, then the result
pub step_words-verdict : (ceiling : ℕ) (t : Table) (i : ℕ) (s : State) (m : List ℕ)
    → step_words ceiling t i s m ≡ cond (move_ok t m) (stepped_by (move_verdict ceiling t s (move_of t m)) (applied t i s (move_of t m))) (refused MoveForm)
unfolding step_words step move_verdict
step_words-verdict ceiling t i s m =
    ap (λ (x : Stepped). cond (move_ok t m) x (refused MoveForm))
    (within_step ceiling (allowed t s (move_of t m)) (applied t i s (move_of t m))
    ∙ ap (λ (n : ℕ). stepped_by (both (allowed t s (move_of t m)) (unless (leb n ceiling) TooManyEntries)) (applied t i s (move_of t m)))
    (length-maker t i 0 s (move_of t m)))

pub completed-same : {a b : State} → completed a ≡ completed b → a ≡ b
completed-same h = cc

pub refused≢to : {r : Refusal} {s : State} → refused r ≡ to s → ⊥
refused≢to h = let z : ◌≡◌ {A = ℕ} 0 1 = cc in omega arith

pub record AcceptedMove (ceiling : ℕ) (t : Table) (i : ℕ) (s : State) (m : List ℕ) (s' : State) : Type 0 where
  pub form : move_ok t m ≡ true
  pub allows : allowed t s (move_of t m) ≡ Allowed
  pub result : applied t i s (move_of t m) ≡ s'
  pub fits : length s'.entries ≤ ceiling

-- what an accepted move has passed, and what it leaves
pub accepted-move : (ceiling : ℕ) (t : Table) (i : ℕ) (s : State) (m : List ℕ) (s' : State) → step_words ceiling t i s m ≡ to s'
    → AcceptedMove ceiling t i s m s'
unfolding step_words step
accepted-move ceiling t i s m s' = go (move_ok t m) refl (allowed t s (move_of t m)) refl (leb (length (applied t i s (move_of t m)).entries) ceiling) refl
  where
    go : (b : Bool) → move_ok t m ≡ b → (v : Verdict) → allowed t s (move_of t m) ≡ v → (c : Bool)
        → leb (length (applied t i s (move_of t m)).entries) ceiling ≡ c
        → cond b (within ceiling (stepped_by v (applied t i s (move_of t m)))) (refused MoveForm) ≡ to s' → AcceptedMove ceiling t i s m s'
    go false p v q c l h = absurd (refused≢to h)
    go true p (Denied r) q c l h = absurd (refused≢to h)
    go true p Allowed q false l h = absurd (refused≢to (rw l at h))
    go true p Allowed q true l h =
        let e : applied t i s (move_of t m) ≡ s' = same (rw l at h) in
        record { form = p; allows = q; result = e; fits = rw e at (leb-true (length (applied t i s (move_of t m)).entries) ceiling l) }
      where
        same : {a b : State} → to a ≡ to b → a ≡ b
        same h = cc
