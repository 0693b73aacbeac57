-- 02, M-130: what an unattended run comes to. A run accepts its log and reaches its state, `still` and `spent` say what they should, a larger budget only
-- goes on, and the count is that of the steps.
use Prim.Native.Nat.{ℕ, zero, suc, ◌+◌, ◌≤◌}
use Rattle.std.proofs.Math.Bool.{true}
use Rattle.std.specs.Prelude.{false, ◌↔◌, ◌≡◌}
use Rattle.std.proofs.lemmas.Bool.{false≢true}
use mathlib.Core.List.{List, [], ◌∷◌, map}
use Rattle.std.proofs.Common.{inl, sym, ◌∙◌}
use Rattle.std.proofs.Math.Path.{refl, ap}
use native.Mathlib.Omega.{arith}
use Rattle.std.proofs.Math.ListN.{length, take}
use Rattle.std.proofs.lemmas.List.{length-map}
use Rattle.lists.specs.Lists.{keep}
use Rattle.lists.specs.Each.{keep_same}
use Rattle.lists.specs.Splits.{All-every}
use Rattle.semantics.specs.Table.{Table, sizes_of, table_of}
use Rattle.semantics.specs.State.{State, state_of, state_words}
use Rattle.semantics.specs.Move.{Move, applied, to, step_words, move_verdict}
use Rattle.semantics.specs.Log.{completed, onward, run}
use Rattle.semantics.specs.Enabled.{candidates, is_allowed, enabled, move_words}
use Rattle.semantics.specs.Unattended.{by_first, moves_alone, reached_alone, is_still}
use Rattle.semantics.specs.Answers.{table_verdict}
use Rattle.semantics.specs.declared.Verdict.TheVariants.{Allowed}
use Rattle.wellformed.specs.Step.{step_words-verdict}
use Rattle.wellformed.specs.Bare.{bare, bare_state}
use Rattle.wellformed.specs.OneByOne.{verdict-same}
use Rattle.wellformed.specs.MoveWords.{words-ok, words_back}
use Rattle.wellformed.specs.Held.{Held, reread, step-holds}
use Rattle.enabled.specs.Candidates.{from-held, among-candidates, candidate-holdable}
use Rattle.enabled.specs.Membership.{among-enabled}

-- ---- the steps

-- s' is reached from s by these moves, each of them the first of the list where it is made; the first has the place i
pub data Steps (ceiling : ℕ) (t : Table) : ℕ → List Move → State → State → Type 0 where
  none : (i : ℕ) (s : State) → Steps ceiling t i [] s s
  more : (i : ℕ) (ms : List Move) (s s' : State) (m : Move) (l : List Move) → enabled ceiling t s ≡ m ∷ l
      → Steps ceiling t (suc i) ms (applied t (suc i) s m) s' → Steps ceiling t i (m ∷ ms) s s'

module _ (ceiling : ℕ) (t : Table) where
  -- what holds where the budget is 0 and where the list is empty, and before a first move if it holds after it, holds of the moves and the state reached
  along : (P : ℕ → ℕ → State → List Move → State → Type 0) → ((i : ℕ) (s : State) → P i 0 s [] s)
      → ((i n : ℕ) (s : State) → enabled ceiling t s ≡ [] → P i (suc n) s [] s)
      → ((i n : ℕ) (s : State) (m : Move) (l ms : List Move) (s' : State) → enabled ceiling t s ≡ m ∷ l → P (suc i) n (applied t (suc i) s m) ms s'
      → P i (suc n) s (m ∷ ms) s')
      → (n i : ℕ) (s : State) → P i n s (moves_alone ceiling t i n s) (reached_alone ceiling t i n s)
  unfolding moves_alone reached_alone
  along P spent still first zero i s = spent i s
  along P spent still first (suc n) i s = go (enabled ceiling t s) refl (λ m. along P spent still first n (suc i) (applied t (suc i) s m))
    where
      go : (l : List Move) → enabled ceiling t s ≡ l
          → ((m : Move) → let s' = applied t (suc i) s m in P (suc i) n s' (moves_alone ceiling t (suc i) n s') (reached_alone ceiling t (suc i) n s'))
          → P i (suc n) s (by_first l [] (λ m. m ∷ moves_alone ceiling t (suc i) n (applied t (suc i) s m)))
          (by_first l s (λ m. reached_alone ceiling t (suc i) n (applied t (suc i) s m)))
      go [] e ih = still i n s e
      go (m ∷ l) e ih = first i n s m l _ _ e (ih m)

  -- the moves made are such steps, from the start to the state reached
  pub steps-made : (budget i : ℕ) (s : State) → Steps ceiling t i (moves_alone ceiling t i budget s) s (reached_alone ceiling t i budget s)
  steps-made = along (λ i n s ms s'. Steps ceiling t i ms s s') none (λ i n s e. none i s) (λ i n s m l ms s' e h. more i ms s s' m l e h)

  -- no more than the budget
  pub moves-within : (budget i : ℕ) (s : State) → length (moves_alone ceiling t i budget s) ≤ budget
  moves-within = along (λ i n s ms s'. length ms ≤ n) (λ i s. omega arith) (λ i n s e. omega arith) (λ i n s m l ms s' e h. omega arith)

  -- with a larger budget the moves begin as with the smaller one
  pub moves-begin : (extra budget i : ℕ) (s : State) → moves_alone ceiling t i budget s ≡ take budget (moves_alone ceiling t i (budget + extra) s)
  unfolding moves_alone
  moves-begin extra = along (λ i n s ms s'. ms ≡ take n (moves_alone ceiling t i (n + extra) s)) (λ i s. refl) still first
    where
      next : (n i : ℕ) (s : State) → moves_alone ceiling t i (suc n + extra) s
          ≡ by_first (enabled ceiling t s) [] (λ m. m ∷ moves_alone ceiling t (suc i) (n + extra) (applied t (suc i) s m))
      next n i s = let e : suc n + extra ≡ suc (n + extra) = omega arith in ap (λ (k : ℕ). moves_alone ceiling t i k s) e

      still : (i n : ℕ) (s : State) → enabled ceiling t s ≡ [] → [] ≡ take (suc n) (moves_alone ceiling t i (suc n + extra) s)
      still i n s e = rw (next n i s, e)

      first : (i n : ℕ) (s : State) (m : Move) (l ms : List Move) (s' : State) → enabled ceiling t s ≡ m ∷ l
          → ms ≡ take n (moves_alone ceiling t (suc i) (n + extra) (applied t (suc i) s m)) → m ∷ ms ≡ take (suc n) (moves_alone ceiling t i (suc n + extra) s)
      first i n s m l ms s' e h = rw (next n i s, e) (ap (λ (l : List Move). m ∷ l) h)

  -- ---- still and spent

  pub still-empty : (s : State) → (is_still ceiling t s ≡ true) ↔ (enabled ceiling t s ≡ [])
  unfolding is_still
  still-empty s = go (enabled ceiling t s)
    where
      go : (l : List Move) → (by_first l true (λ m. false) ≡ true) ↔ (l ≡ [])
      go [] = ((λ e. refl), (λ e. refl))
      go (m ∷ ms) = ((λ e. absurd (false≢true e)), (λ e. absurd (omega (arith, ap length e))))

  -- where a move is still open, all of the budget was made
  pub open-spent : (budget i : ℕ) (s : State) → is_still ceiling t (reached_alone ceiling t i budget s) ≡ false
      → length (moves_alone ceiling t i budget s) ≡ budget
  open-spent = along (λ i n s ms s'. is_still ceiling t s' ≡ false → length ms ≡ n) (λ i s h. refl)
      (λ i n s e h. absurd (false≢true (sym h ∙ (still-empty s).1 e))) (λ i n s m l ms s' e h k. ap suc (h k))

-- ---- the run of its log

-- the list does not depend on origins, so it is the list of the words of a state too
pub enabled-same : (ceiling : ℕ) (t : Table) (s s' : State) → bare_state s ≡ bare_state s' → enabled ceiling t s ≡ enabled ceiling t s'
unfolding enabled
enabled-same ceiling t s s' h =
    keep_same (λ m. is_allowed (move_verdict ceiling t s m)) (λ m. is_allowed (move_verdict ceiling t s' m)) (candidates t s)
    (All-every _ (candidates t s) (λ m _. ap is_allowed (verdict-same ceiling t s s' m h)))
    ∙ ap (keep (λ m. is_allowed (move_verdict ceiling t s' m))) candidates-same
  where
    few : length s.entries ≡ length s'.entries
    few = sym (length-map s.entries bare) ∙ ap (λ (x : State). length x.entries) h ∙ length-map s'.entries bare

    candidates-same : candidates t s ≡ candidates t s'
    candidates-same = rw (few, ap (λ (x : State). x.next) h)

module _ (ceiling : ℕ) (c : ceiling ≤ 1024) (T : List ℕ) (table : table_verdict T ≡ Allowed) where
  -- the first open move is made
  pub first_made : (i : ℕ) (s : State) → Held (sizes_of T) s → (m : Move) (ms : List Move) → enabled ceiling (table_of T) s ≡ m ∷ ms
      → step_words ceiling (table_of T) i s (move_words m) ≡ to (applied (table_of T) i s m)
  first_made i s h m ms e =
      let (k, v) = among-enabled ceiling (table_of T) s m (rw e (inl refl)) in
      let held = candidate-holdable (from-held T table s h) m (among-candidates (table_of T) s m k) in
      step_words-verdict ceiling (table_of T) i s (move_words m) ∙ rw (words-ok (table_of T) m held, words_back (table_of T) m held, v)

  pub held_after : (i : ℕ) (s : State) → Held (sizes_of T) s → (m : Move) (ms : List Move) → enabled ceiling (table_of T) s ≡ m ∷ ms
      → Held (sizes_of T) (applied (table_of T) i s m)
  held_after i s h m ms e = step-holds T table ceiling i s (move_words m) (applied (table_of T) i s m) c h (first_made i s h m ms e)

  -- a run accepts the moves, and reaches the state, which is one of a log
  pub run_alone : (budget i : ℕ) (s : State) → Held (sizes_of T) s
      → (run ceiling (table_of T) i s (map move_words (moves_alone ceiling (table_of T) i budget s))
      ≡ completed (reached_alone ceiling (table_of T) i budget s))
      × Held (sizes_of T) (reached_alone ceiling (table_of T) i budget s)
  unfolding run
  run_alone = along ceiling (table_of T) (λ i n s ms s'. Held (sizes_of T) s
      → (run ceiling (table_of T) i s (map move_words ms) ≡ completed s') × Held (sizes_of T) s')
      (λ i s h. (refl, h)) (λ i n s e h. (refl, h)) (λ i n s m l ms s' e rest h.
      let made = ap (λ x. onward x i (λ x. run ceiling (table_of T) (suc i) x (map move_words ms))) (first_made (suc i) s h m l e) in
      let (ran, held) = rest (held_after (suc i) s h m l e) in
      (made ∙ ran, held))

  -- the list in the words of the state reached
  pub reached-list : (s : State) → Held (sizes_of T) s → enabled ceiling (table_of T) (state_of (state_words s)) ≡ enabled ceiling (table_of T) s
  reached-list s h = enabled-same ceiling (table_of T) (state_of (state_words s)) s (reread T table s h)
