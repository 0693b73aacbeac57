-- A move that is to be made, with what is kept beside the columns.
use Rattle.std.specs.Prelude.{ℕ, ◌+◌, ◌<◌, true, List, ◌∷◌, ◌≡◌, refl}
use Rattle.std.proofs.Common.{inl, sym, ap, ◌∙◌}
use Rattle.semantics.specs.Words.{head_kind}
use Rattle.semantics.specs.Table.{Table, sizes_of, table_of}
use Rattle.semantics.specs.State.{State}
use Rattle.semantics.specs.Move.{Move, move_ok, move_of, applied, to, stepped_by, move_verdict}
use Rattle.semantics.specs.Enabled.{enabled, move_words}
use Rattle.semantics.specs.Answers.{table_verdict}
use Rattle.semantics.specs.declared.Verdict.{Verdict}
use Rattle.semantics.specs.declared.Verdict.TheVariants.{Allowed, Denied}
use Rattle.wellformed.specs.Step.{refused≢to}
use Rattle.wellformed.specs.Held.{Held}
use Rattle.wellformed.specs.MoveWords.{words-ok, words_back}
use Rattle.enabled.specs.Candidates.{from-held, among-candidates, candidate-holdable}
use Rattle.enabled.specs.Membership.{among-enabled}
use Rattle.state.specs.declared.Extent.{Extent}
use Rattle.state.specs.declared.State as working
use Rattle.state.specs.Working.{held, state_in}
use Rattle.state.specs.Lent.{state_from}
use Rattle.step.specs.declared.make.Made.{Made}
use Rattle.step.specs.Make.{Indexed, Workable, MadeAs, step-formed}
use Rattle.tracking.specs.Tracked.{TrackedIn, KeptOf}

-- words in order, of a move that is open in s
pub record OpenIn (ceiling : ℕ) (t : Table) (s : State) (w : List ℕ) : Type 0 where
  pub form : move_ok t w ≡ true
  pub verdict : move_verdict ceiling t s (move_of t w) ≡ Allowed

-- the first move of the list is open
pub first-open : (ceiling : ℕ) (T : List ℕ) → table_verdict T ≡ Allowed → (s : State) → Held (sizes_of T) s → (m : Move) (ms : List Move)
    → enabled ceiling (table_of T) s ≡ m ∷ ms → {w : List ℕ} → w ≡ move_words m → OpenIn ceiling (table_of T) s w
first-open ceiling T table s h m ms e q =
    let (k, v) = among-enabled ceiling (table_of T) s m (rw e (inl refl)) in
    let hold = candidate-holdable (from-held T table s h) m (among-candidates (table_of T) s m k) in
    rw q (record { form = words-ok (table_of T) m hold; verdict = rw (words_back (table_of T) m hold) v })

-- what an open move leaves
pub made-reaches : {made : Made} {ceiling : ℕ} {t : Table} {i : ℕ} {w : List ℕ} {x x' : working.State} → OpenIn ceiling t (state_in x) w
    → MadeAs made ceiling t i w x x' → state_in x' ≡ applied t i (state_in x) (move_of t w)
made-reaches {made} {ceiling} {t} {i} {w} {x} {x'} o m = go made.verdict
    (sym m.step ∙ step-formed ceiling t i (state_in x) w o.form ∙ ap (λ v. stepped_by v (applied t i (state_in x) (move_of t w))) o.verdict)
  where
    go : (v : Verdict) → stepped_by v (state_in x') ≡ to (applied t i (state_in x) (move_of t w)) → state_in x' ≡ applied t i (state_in x) (move_of t w)
    go Allowed h = cc
    go (Denied r) h = absurd (refused≢to h)

-- what a move at place i asks of the table, of the columns and of what is kept beside them
pub record MoveGiven (t index : List ℕ) (i ceiling : ℕ) (os ws gs : List ℕ) (at : Extent) (w stopped totals : List ℕ) : Type 0 where
  pub indexed : Indexed t index
  pub place : i < 1024
  pub workable : Workable (held os ws gs at) ceiling
  pub sound : Held (sizes_of t) (state_in (held os ws gs at))
  pub opened : OpenIn ceiling (table_of t) (state_in (held os ws gs at)) w
  pub tracked : TrackedIn (sizes_of t) os ws at stopped totals

-- what is kept when such a move is about to be made: that of an end is told beforehand
pub record BeforeMove (t index : List ℕ) (i ceiling : ℕ) (os ws gs : List ℕ) (at : Extent) (head : ℕ) (picks stopped totals : List ℕ) : Type 0 where
  pub reaction : head_kind head ≡ 0 → MoveGiven t index i ceiling os ws gs at (head ∷ picks) stopped totals
  pub ended : (head_kind head ≡ 0 → ⊥)
      → KeptOf (sizes_of t) (applied (table_of t) (i + 1) (state_from os ws gs at) (move_of (table_of t) (head ∷ picks))) stopped totals
