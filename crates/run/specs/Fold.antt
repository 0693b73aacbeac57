-- A pass over a log that gathers something on the way: one definition, and the law of a loop that makes the moves one after another and gathers as it goes.
-- A caller says what an accepted move adds (of its place, the state before, its words, the state after) and what a refused one does.
use Rattle.std.specs.Prelude.{ℕ, suc, ◌+◌, ◌≤◌, ◌<◌, List, [], ◌∷◌, ◌≡◌}
use Rattle.std.proofs.Common.{sym, ap, ◌∙◌, add-one}
use Rattle.semantics.specs.Table.{Table}
use Rattle.semantics.specs.State as semantics
use Rattle.semantics.specs.Move.{Stepped, to, refused, stepped_by, step_words}
use Rattle.semantics.specs.Log.{move_count, move_at, moves_of}
use Rattle.semantics.specs.declared.Refusal.{Refusal}
use Rattle.semantics.specs.declared.Verdict.{Verdict}
use Rattle.semantics.specs.declared.Verdict.TheVariants.{Allowed, Denied}
use Rattle.state.specs.declared.State.{State}
use Rattle.state.specs.Working.{state_in}
use Rattle.step.specs.declared.make.Made.{Made}
use Rattle.step.specs.Make.{Workable, MadeAs}
use Rattle.run.specs.Runs.{moves_from, moves-tails, moves-whole, Reached, reached-start, reached-made}

module _ {A : Type 0} (moved : ℕ → semantics.State → List ℕ → semantics.State → A → A) (stopped : ℕ → semantics.State → Refusal → A → A)
    (ceiling : ℕ) (t : Table) where
  abbrev pub gather_by : Stepped → ℕ → semantics.State → List ℕ → A → (semantics.State → A → A) → A
  gather_by (to s') i s m a rest = rest s' (moved i s m s' a)
  gather_by (refused q) i s m a rest = stopped i s q a

  -- what the moves add to a, the first of which has the place i; it ends with the first that is refused
  unfoldable pub fold_log : ℕ → semantics.State → List (List ℕ) → A → A
  fold_log i s [] a = a
  fold_log i s (m ∷ ms) a = gather_by (step_words ceiling t (suc i) s m) i s m a (λ s' a'. fold_log (suc i) s' ms a')

  -- ---- the loop: the moves before place i have led from the start to s, and have gathered a

  pub record Folded (l : List ℕ) (start : State) (a₀ : A) (i : ℕ) (s : State) (a : A) : Type 0 where
    pub reached : Reached ceiling t l start i s
    pub ahead : fold_log i (state_in s) (moves_from l i) a ≡ fold_log 0 (state_in start) (moves_of l) a₀

  pub folded_start : (l : List ℕ) {s : State} (a₀ : A) → Workable s ceiling → Folded l s a₀ 0 s a₀
  folded_start l a₀ w = record { reached = reached-start t l w; ahead = rw (moves-whole l) }

  module _ {l : List ℕ} {start : State} {a₀ : A} {i : ℕ} {s : State} {a : A} (h : Folded l start a₀ i s a) where
    -- no move is left
    pub folded-end : move_count l ≤ i → a ≡ fold_log 0 (state_in start) (moves_of l) a₀
    unfolding fold_log
    folded-end e = rw ((moves-tails l).none i e) at h.ahead

    module _ (more : i < move_count l) {x : Made} {s' : State} (made : MadeAs x ceiling t (i + 1) (move_at l i) s s') where
      here : {v : Verdict} → x.verdict ≡ v → fold_log i (state_in s) (moves_from l i) a
          ≡ gather_by (stepped_by v (state_in s')) i (state_in s) (move_at l i) a (λ s' a'. fold_log (suc i) s' (moves_from l (i + 1)) a')
      unfolding fold_log
      here e = rw ((moves-tails l).more i more, rw (add-one i, e) at made.step)

      -- an accepted move
      pub folded-made : x.verdict ≡ Allowed → Folded l start a₀ (i + 1) s' (moved i (state_in s) (move_at l i) (state_in s') a)
      folded-made e =
          let a' = moved i (state_in s) (move_at l i) (state_in s') a in
          record {
            reached = reached-made h.reached more made e;
            ahead = ap (λ (n : ℕ). fold_log n (state_in s') (moves_from l (i + 1)) a') (add-one i) ∙ sym (here e) ∙ h.ahead;
          }

      -- a refused one
      pub folded-refused : {q : Refusal} → x.verdict ≡ Denied q → stopped i (state_in s) q a ≡ fold_log 0 (state_in start) (moves_of l) a₀
      folded-refused e = sym (here e) ∙ h.ahead
