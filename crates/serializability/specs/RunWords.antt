-- A run of words is a run of the moves in them, and the other way for moves that words can hold; the moves of an accepted log can be held.
use Rattle.std.specs.Prelude.{◌≡◌, refl, Bool, true, false, cond, List, [], ◌∷◌, map, ℕ, suc, ◌≤◌, leb, length}
use Rattle.std.proofs.Common.{ap, subst, arith}
use Rattle.lists.specs.Lists.{all}
use Rattle.lists.specs.Choices.{and_left, and_right}
use Rattle.lists.specs.Each.{All}
use Rattle.semantics.specs.Table.{Table}
use Rattle.semantics.specs.State.{State}
use Rattle.semantics.specs.Move.{Move, react, commit, abort, move_ok, move_of, is_open, allowed, applied, to, refused, stepped_by, step, within, step_words}
use Rattle.semantics.specs.Log as Log
use Rattle.semantics.specs.Log.{stopped, onward, run}
use Rattle.semantics.specs.Serial.{after, along, fits}
use Rattle.semantics.specs.Enabled.{move_words}
use Rattle.semantics.specs.declared.Refusal.{Refusal}
use Rattle.semantics.specs.declared.Refusal.TheVariants.{MoveForm, TooManyEntries}
use Rattle.semantics.specs.declared.Verdict.{Verdict}
use Rattle.semantics.specs.declared.Verdict.TheVariants.{Allowed, Denied}
use Rattle.wellformed.specs.Rules.{TableRight}
use Rattle.wellformed.specs.Entries.{Sound}
use Rattle.wellformed.specs.MoveWords.{Holdable, words-ok, words_back, open-id}
use Rattle.wellformed.specs.Picks.{picks-length}
use Rattle.wellformed.specs.Step.{completed-same}
use Rattle.wellformed.specs.Preservation.{RuleKnown, applied-keeps}
use Rattle.serializability.specs.Statement.{Accepted}
use Rattle.cells.specs.Moves.{after-allowed, react-passes, commit-passes, abort-passes}

-- ---- from words to moves

not-ended : {i : ℕ} {r : Refusal} {e : State} → stopped i r ≡ Log.completed e → ⊥
not-ended h = let z : ◌≡◌ {A = ℕ} 0 1 = cc in omega arith

pub run-accepted : (ceiling : ℕ) (t : Table) (i : ℕ) (s : State) (ws : List (List ℕ)) (e : State) → run ceiling t i s ws ≡ Log.completed e
    → Accepted t i s (map (move_of t) ws) e × All (λ w. move_ok t w ≡ true) ws
unfolding run step_words step
run-accepted ceiling t i s [] e h = (completed-same h, tt)
run-accepted ceiling t i s (w ∷ ws) e h = go (λ s' k. run-accepted ceiling t (suc i) s' ws e k) (move_ok t w) refl (allowed t s (move_of t w)) refl h
  where
    s1 : State
    s1 = applied t (suc i) s (move_of t w)

    go : ((s' : State) → run ceiling t (suc i) s' ws ≡ Log.completed e → Accepted t (suc i) s' (map (move_of t) ws) e × All (λ w. move_ok t w ≡ true) ws)
        → (b : Bool) → move_ok t w ≡ b → (v : Verdict) → allowed t s (move_of t w) ≡ v
        → onward (cond b (within ceiling (stepped_by v s1)) (refused MoveForm)) i (λ s'. run ceiling t (suc i) s' ws) ≡ Log.completed e
        → Accepted t i s (map (move_of t) (w ∷ ws)) e × All (λ w. move_ok t w ≡ true) (w ∷ ws)
    go ih false p v q k = absurd (not-ended k)
    go ih true p (Denied r) q k = absurd (not-ended k)
    go ih true p Allowed q k = two (leb (length s1.entries) ceiling) k
      where
        two : (c : Bool) → onward (cond c (to s1) (refused TooManyEntries)) i (λ s'. run ceiling t (suc i) s' ws) ≡ Log.completed e
            → Accepted t i s (map (move_of t) (w ∷ ws)) e × All (λ w. move_ok t w ≡ true) (w ∷ ws)
        two true x = let r = ih s1 x in ((q, r.0), (p, r.1))
        two false x = absurd (not-ended x)

-- ---- and back

along-head : (p : State → Bool) (t : Table) (i : ℕ) (s : State) (ms : List Move) → all p (along t i s ms) ≡ true → p s ≡ true
unfolding along
along-head p t i s [] h = and_left (p s) true h
along-head p t i s (m ∷ ms) h = and_left (p s) (all p (along t (suc i) (after t (suc i) s m) ms)) h

pub accepted-run : (ceiling : ℕ) (t : Table) (i : ℕ) (s : State) (ms : List Move) (e : State) → Accepted t i s ms e → all (fits ceiling) (along t i s ms) ≡ true
    → All (Holdable t) ms
    → run ceiling t i s (map move_words ms) ≡ Log.completed e
unfolding run step_words step along
accepted-run ceiling t i s [] e a f h = ap Log.completed a
accepted-run ceiling t i s (m ∷ ms) e a f h =
    let q = after-allowed t (suc i) s m a.0 in
    let s1 = applied t (suc i) s m in
    let rest : all (fits ceiling) (along t (suc i) s1 ms) ≡ true = subst (λ (x : State). all (fits ceiling) (along t (suc i) x ms) ≡ true) q
    (and_right (fits ceiling s) (all (fits ceiling) (along t (suc i) (after t (suc i) s m) ms)) f) in
    let small : leb (length s1.entries) ceiling ≡ true = along-head (fits ceiling) t (suc i) s1 ms rest in
    go (move_of t (move_words m)) (words-ok t m h.0) (words_back t m h.0) a.0 small (accepted-run ceiling t (suc i) s1 ms e a.1 rest h.1)
  where
    go : (m' : Move) → move_ok t (move_words m) ≡ true → m' ≡ m → allowed t s m ≡ Allowed → leb (length (applied t (suc i) s m).entries) ceiling ≡ true
        → run ceiling t (suc i) (applied t (suc i) s m) (map move_words ms) ≡ Log.completed e
        → onward (cond (move_ok t (move_words m)) (within ceiling (stepped_by (allowed t s m') (applied t (suc i) s m'))) (refused MoveForm)) i
        (λ s'. run ceiling t (suc i) s' (map move_words ms)) ≡ Log.completed e
    go m' ok q al sm r = rw (ok, q, al, sm) r

-- ---- the moves of an accepted log can be held

module _ (t : Table) (right : TableRight t) (few : length t.rules ≤ 64) where
  id-fits : (b : ℕ) (s : State) → Sound t.sizes s → is_open b s ≡ true → (1 ≤ b) × (b ≤ 65535)
  id-fits b s sound o = let h = open-id b s sound o in let k = sound.next-high in omega arith

  holdable : (s : State) (m : Move) → allowed t s m ≡ Allowed → Sound t.sizes s → RuleKnown t m → Holdable t m
  holdable s (react r ps) a sound l = let n = picks-length (react-passes t s r ps a) in let f = (right.rule r l).consumes-le in (l, omega arith, n, omega arith)
  holdable s (commit b) a sound l = id-fits b s sound (commit-passes t s b a).0
  holdable s (abort b) a sound l = id-fits b s sound (abort-passes t s b a).0

  pub all-holdable : (i : ℕ) (s : State) (ms : List Move) (e : State) → Accepted t i s ms e → Sound t.sizes s → All (RuleKnown t) ms → All (Holdable t) ms
  all-holdable i s [] e a sound r = tt
  all-holdable i s (m ∷ ms) e a sound r = (
    holdable s m a.0 sound r.0,
    all-holdable (suc i) (applied t (suc i) s m) ms e a.1
        (applied-keeps right sound (suc i) m r.0 a.0) r.1,
  )
