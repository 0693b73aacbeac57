-- 02, M-125: a run's tally is what the history of its moves counts, and member marks are conserved along every prefix of every run: marks at the start and
-- begins are marks removed by commits, marks removed by aborts, and marks left. For every ceiling.
use Prim.Native.Nat.{ℕ, zero, suc, ◌+◌, ◌≤◌}
use mathlib.Core.List.{List, [], ◌∷◌, map}
use Rattle.std.proofs.Math.Path.{◌≡◌, refl, ap}
use Rattle.std.proofs.Common.{sym, ◌∙◌}
use native.Mathlib.Omega.{arith}
use Rattle.std.proofs.Math.ListN.{length, take}
use Rattle.std.proofs.lemmas.List.{length-map}
use Rattle.lists.specs.Lists.{count_if}
use Rattle.lists.specs.Counting.{count_map}
use Rattle.semantics.specs.Table.{Table}
use Rattle.semantics.specs.State.{State}
use Rattle.semantics.specs.Move.{Move, react, commit, abort, move_of, Stepped, to, refused, step_words}
use Rattle.semantics.specs.Log.{completed, stopped, onward, run}
use Rattle.semantics.specs.Members.{members_ended, add_members, members_along}
use Rattle.semantics.specs.Serial.{is_begin}
use Rattle.semantics.specs.Tally.{no_moves, tallied, tally_by, tally_along, Event, event_by, history, begins_in, ended_in, committed_in, aborted_in}
use Rattle.semantics.specs.Tally.{counts_in}
use Rattle.semantics.specs.declared.Refusal.{Refusal}
use Rattle.semantics.specs.declared.Tally.{Tally}
use Rattle.wellformed.specs.Rules.{TableRight}
use Rattle.wellformed.specs.Conserved.{marks, run-marks}

-- ---- the tally

-- y with the counts of another tally added
abbrev plus : Tally → Tally → Tally
plus y z = record {
  moves = y.moves + z.moves;
  begun = y.begun + z.begun;
  committed = y.committed + z.committed;
  aborted = y.aborted + z.aborted;
}

tally-same : {y z : Tally} → y.moves ≡ z.moves → y.begun ≡ z.begun → y.committed ≡ z.committed → y.aborted ≡ z.aborted → y ≡ z
tally-same m b c a = λ k. record { moves = m k; begun = b k; committed = c k; aborted = a k }

-- one move more at the front of a history
event-counted : (t : Table) (s : State) (m : Move) (y : Tally) (h : List Event)
    → plus (tallied t s m y) (counts_in t h) ≡ plus y (counts_in t (record { state = s; move = m } ∷ h))
event-counted t s (react r ps) y h = tally-same (omega arith) (omega arith) refl refl
event-counted t s (commit b) y h = tally-same (omega arith) (omega arith) (omega arith) refl
event-counted t s (abort b) y h = tally-same (omega arith) (omega arith) refl (omega arith)

module _ (ceiling : ℕ) (t : Table) where
  tally-plus : (i : ℕ) (s : State) (ms : List (List ℕ)) (y : Tally) → tally_along ceiling t i s ms y ≡ plus y (counts_in t (history ceiling t i s ms))
  unfolding tally_along history
  tally-plus i s [] y = tally-same (omega arith) (omega arith) (omega arith) (omega arith)
  tally-plus i s (m ∷ ms) y = go (λ s' z. tally-plus (suc i) s' ms z) (step_words ceiling t (suc i) s m)
    where
      go : ((s' : State) (z : Tally) → tally_along ceiling t (suc i) s' ms z ≡ plus z (counts_in t (history ceiling t (suc i) s' ms)))
          → (x : Stepped) → tally_by x y (λ s'. tally_along ceiling t (suc i) s' ms (tallied t s (move_of t m) y))
          ≡ plus y (counts_in t (event_by x (record { state = s; move = move_of t m }) (λ s'. history ceiling t (suc i) s' ms)))
      go ih (to s') = ih s' (tallied t s (move_of t m) y) ∙ event-counted t s (move_of t m) y (history ceiling t (suc i) s' ms)
      go ih (refused r) = tally-same (omega arith) (omega arith) (omega arith) (omega arith)

  -- each figure is the history's count
  pub tally-history : (i : ℕ) (s : State) (ms : List (List ℕ)) → tally_along ceiling t i s ms no_moves ≡ counts_in t (history ceiling t i s ms)
  tally-history i s ms = tally-plus i s ms no_moves ∙ tally-same (omega arith) (omega arith) (omega arith) (omega arith)

-- ---- the members

-- what a history's moves removed, its commits or its aborts did
ended-parts : (h : List Event) → ended_in h ≡ committed_in h + aborted_in h
ended-parts [] = refl
ended-parts (x ∷ h) = go x.move (ended-parts h)
  where
    go : (m : Move) → ended_in h ≡ committed_in h + aborted_in h
        → ended_in (record { state = x.state; move = m } ∷ h)
        ≡ committed_in (record { state = x.state; move = m } ∷ h) + aborted_in (record { state = x.state; move = m } ∷ h)
    go (react r ps) e = omega arith
    go (commit b) e = omega arith
    go (abort b) e = omega arith

module _ (ceiling : ℕ) (t : Table) where
  members-history : (i : ℕ) (s : State) (ms : List (List ℕ)) → members_along ceiling t i s ms ≡ ended_in (history ceiling t i s ms)
  unfolding members_along history
  members-history i s [] = refl
  members-history i s (m ∷ ms) = go (λ s'. members-history (suc i) s' ms) (step_words ceiling t (suc i) s m)
    where
      go : ((s' : State) → members_along ceiling t (suc i) s' ms ≡ ended_in (history ceiling t (suc i) s' ms))
          → (x : Stepped) → add_members x (members_ended s (move_of t m)) (λ s'. members_along ceiling t (suc i) s' ms)
          ≡ ended_in (event_by x (record { state = s; move = move_of t m }) (λ s'. history ceiling t (suc i) s' ms))
      go ih (to s') = ap (λ (n : ℕ). members_ended s (move_of t m) + n) (ih s')
      go ih (refused r) = refl

  pub members-parts : (i : ℕ) (s : State) (ms : List (List ℕ))
      → members_along ceiling t i s ms ≡ committed_in (history ceiling t i s ms) + aborted_in (history ceiling t i s ms)
  members-parts i s ms = members-history i s ms ∙ ended-parts (history ceiling t i s ms)

  -- the members that a run tells are those that its tally has as committed and as aborted
  pub members-tallied : (i : ℕ) (s : State) (ms : List (List ℕ))
      → members_along ceiling t i s ms ≡ (tally_along ceiling t i s ms no_moves).committed + (tally_along ceiling t i s ms no_moves).aborted
  members-tallied i s ms = members-parts i s ms ∙ ap (λ (y : Tally). y.committed + y.aborted) (sym (tally-history ceiling t i s ms))

-- ---- conservation

module _ (ceiling : ℕ) (t : Table) where
  -- a run that is not refused makes all its moves
  all_made : (i : ℕ) (s : State) (ms : List (List ℕ)) (e : State) → run ceiling t i s ms ≡ completed e
      → map (λ x. x.move) (history ceiling t i s ms) ≡ map (move_of t) ms
  unfolding run history
  all_made i s [] e h = refl
  all_made i s (m ∷ ms) e h = go (λ s'. all_made (suc i) s' ms e) (step_words ceiling t (suc i) s m) h
    where
      go : ((s' : State) → run ceiling t (suc i) s' ms ≡ completed e → map (λ x. x.move) (history ceiling t (suc i) s' ms) ≡ map (move_of t) ms)
          → (x : Stepped) → onward x i (λ s'. run ceiling t (suc i) s' ms) ≡ completed e
          → map (λ x. x.move) (event_by x (record { state = s; move = move_of t m }) (λ s'. history ceiling t (suc i) s' ms)) ≡ move_of t m ∷ map (move_of t) ms
      go ih (to s') h = ap (λ (xs : List Move). move_of t m ∷ xs) (ih s' h)
      go ih (refused r) h = absurd (let z : ◌≡◌ {A = ℕ} 0 1 = cc in omega arith)

  -- for k up to the history's length the first k moves are accepted, and their history is its first k events
  prefix-made : (i : ℕ) (s : State) (ms : List (List ℕ)) (k : ℕ) → k ≤ length (history ceiling t i s ms)
      → ((e : State) × (run ceiling t i s (take k ms) ≡ completed e)) × (history ceiling t i s (take k ms) ≡ take k (history ceiling t i s ms))
  unfolding run history
  prefix-made i s [] zero h = ((s, refl), refl)
  prefix-made i s [] (suc k) h = absurd (omega arith)
  prefix-made i s (m ∷ ms) zero h = ((s, refl), refl)
  prefix-made i s (m ∷ ms) (suc k) h = go (λ s'. prefix-made (suc i) s' ms k) (step_words ceiling t (suc i) s m) h
    where
      go : ((s' : State) → k ≤ length (history ceiling t (suc i) s' ms)
          → ((e : State) × (run ceiling t (suc i) s' (take k ms) ≡ completed e))
          × (history ceiling t (suc i) s' (take k ms) ≡ take k (history ceiling t (suc i) s' ms)))
          → (x : Stepped) → suc k ≤ length (event_by x (record { state = s; move = move_of t m }) (λ s'. history ceiling t (suc i) s' ms))
          → ((e : State) × (onward x i (λ s'. run ceiling t (suc i) s' (take k ms)) ≡ completed e))
          × (event_by x (record { state = s; move = move_of t m }) (λ s'. history ceiling t (suc i) s' (take k ms))
          ≡ take (suc k) (event_by x (record { state = s; move = move_of t m }) (λ s'. history ceiling t (suc i) s' ms)))
      go ih (to s') h =
          let (end, same) = ih s' (omega arith) in
          (end, ap (λ (xs : List Event). record { state = s; move = move_of t m } ∷ xs) same)
      go ih (refused r) h = absurd (omega arith)

  -- how far a run came: one that is accepted has made every move, and one that is refused those before the place
  pub history-whole : (s : State) (ms : List (List ℕ)) (e : State) → run ceiling t 0 s ms ≡ completed e → length (history ceiling t 0 s ms) ≡ length ms
  history-whole s ms e h =
      sym (length-map (history ceiling t 0 s ms) (λ x. x.move)) ∙ ap length (all_made 0 s ms e h) ∙ length-map ms (move_of t)

  pub begins-made : (s : State) (ms : List (List ℕ)) (e : State) → run ceiling t 0 s ms ≡ completed e
      → begins_in t (history ceiling t 0 s ms) ≡ count_if (λ m. is_begin t (move_of t m)) ms
  begins-made s ms e h =
      sym (count_map (λ x. x.move) (is_begin t) (history ceiling t 0 s ms))
      ∙ ap (count_if (is_begin t)) (all_made 0 s ms e h)
      ∙ count_map (move_of t) (is_begin t) ms

  pub history-stopped : (i : ℕ) (s : State) (ms : List (List ℕ)) (p : ℕ) (r : Refusal) → run ceiling t i s ms ≡ stopped p r
      → i + length (history ceiling t i s ms) ≡ p
  unfolding run history
  history-stopped i s [] p r h = absurd (let z : ◌≡◌ {A = ℕ} 0 1 = cc in omega arith)
  history-stopped i s (m ∷ ms) p r h = go (λ s'. history-stopped (suc i) s' ms p r) (step_words ceiling t (suc i) s m) h
    where
      go : ((s' : State) → run ceiling t (suc i) s' ms ≡ stopped p r → suc i + length (history ceiling t (suc i) s' ms) ≡ p)
          → (x : Stepped) → onward x i (λ s'. run ceiling t (suc i) s' ms) ≡ stopped p r
          → i + length (event_by x (record { state = s; move = move_of t m }) (λ s'. history ceiling t (suc i) s' ms)) ≡ p
      go ih (to s') h = omega (arith, ih s' h)
      go ih (refused q) h = let e : i ≡ p = cc in omega arith

  -- the first k moves of a run, which lead to e: what the tally is there, and what became of the marks, by the history of the run
  pub record Balanced (s : State) (ms : List (List ℕ)) (k : ℕ) (e : State) : Type 0 where
    pub reached : run ceiling t 0 s (take k ms) ≡ completed e
    pub tally : tally_along ceiling t 0 s (take k ms) no_moves ≡ counts_in t (take k (history ceiling t 0 s ms))
    pub conserved : marks s + begins_in t (take k (history ceiling t 0 s ms))
        ≡ committed_in (take k (history ceiling t 0 s ms)) + aborted_in (take k (history ceiling t 0 s ms)) + marks e

  module _ (right : TableRight t) where
    history-marks : (s : State) (ms : List (List ℕ)) (e : State) → run ceiling t 0 s ms ≡ completed e
        → marks s + begins_in t (history ceiling t 0 s ms) ≡ committed_in (history ceiling t 0 s ms) + aborted_in (history ceiling t 0 s ms) + marks e
    history-marks s ms e h =
        omega (arith, begins-made s ms e h, run-marks right ceiling 0 s ms e h, members-parts ceiling t 0 s ms)

    -- every prefix of every run, up to the move that is refused
    pub every-prefix : (s : State) (ms : List (List ℕ)) (k : ℕ) → k ≤ length (history ceiling t 0 s ms) → (e : State) × Balanced s ms k e
    every-prefix s ms k h =
        let ((e, ran), part) = prefix-made 0 s ms k h in (
          e,
          record {
            reached = ran;
            tally = rw part at (tally-history ceiling t 0 s (take k ms));
            conserved = rw part at (history-marks s (take k ms) e ran);
          },
        )
