-- The tally of a run, kept on the way: the fold over its log that gathers a tally.
use Rattle.std.specs.Prelude.{ℕ, suc, ◌+◌, ◌*◌, ◌≤◌, ◌<◌, Bool, true, false, not, cond, List, [], ◌∷◌, ◌≡◌, refl, eqb, get_or}
use Rattle.std.proofs.Math.Path.{ap}
use Rattle.std.proofs.Common.{◌∙◌, arith}
use Rattle.semantics.specs.Words.{head_kind}
use Rattle.semantics.specs.Table.{Table}
use Rattle.semantics.specs.State as semantics
use Rattle.semantics.specs.Move.{move_of, applied, Stepped, to, refused, step_words}
use Rattle.semantics.specs.Log.{move_count, move_at, moves_of}
use Rattle.semantics.specs.Members.{members_ended}
use Rattle.semantics.specs.Tally.{no_moves, tallied, tally_by, tally_along}
use Rattle.semantics.specs.declared.Refusal.{Refusal}
use Rattle.semantics.specs.declared.Tally.{Tally}
use Rattle.semantics.specs.declared.Verdict.TheVariants.{Allowed, Denied}
use Rattle.wellformed.specs.Step.{accepted-move}
use Rattle.wellformed.specs.Conserved.{members-few}
use Rattle.state.specs.declared.State.{State}
use Rattle.state.specs.Working.{state_in}
use Rattle.state.specs.Arrays.{count-in}
use Rattle.step.specs.declared.make.Made.{Made}
use Rattle.step.specs.Make.{Workable, MadeAs}
use Rattle.tally.specs.Counted.{counted, moved_on, MoveRoom}
use Rattle.tally.specs.Tallied.{moved-tallied}
use Rattle.run.specs.declared.Tallied.{Tallied}
use Rattle.run.specs.Runs.{RanAs}
use Rattle.run.specs.Fold.{gather_by, fold_log, Folded, folded_start, folded-made, folded-refused, folded-end}

-- after i moves no figure is above 1,024 i
pub record Few (y : Tally) (i : ℕ) : Type 0 where
  pub moves : y.moves ≤ 1024 * i
  pub begun : y.begun ≤ 1024 * i
  pub committed : y.committed ≤ 1024 * i
  pub aborted : y.aborted ≤ 1024 * i

-- what a run gives, and the tally of the moves that it made
pub record TalliedAs (r : Tallied) (ceiling : ℕ) (t : Table) (l : List ℕ) (s s' : State) : Type 0 where
  pub ran : RanAs r.ran ceiling t l s s'
  pub tally : r.tally ≡ tally_along ceiling t 0 (state_in s) (moves_of l) no_moves
  pub few : Few r.tally 1024

-- the tally after the move at place i, by its head and by the next ids before and after it
abbrev pub tallied_at : Tally → List ℕ → ℕ → ℕ → ℕ → ℕ → Tally
tallied_at y l i before after members = moved_on y (head_kind (get_or l (1 + i) 0)) (not (eqb before after)) members

-- an accepted move is tallied, a refused one is not
abbrev add_move : Table → ℕ → semantics.State → List ℕ → semantics.State → Tally → Tally
add_move t i s w s' y = tallied t s (move_of t w) y

abbrev add_nothing : ℕ → semantics.State → Refusal → Tally → Tally
add_nothing i s q y = y

tally-fold : (ceiling : ℕ) (t : Table) (i : ℕ) (s : semantics.State) (ms : List (List ℕ)) (y : Tally)
    → fold_log (add_move t) add_nothing ceiling t i s ms y ≡ tally_along ceiling t i s ms y
unfolding fold_log tally_along
tally-fold ceiling t i s [] y = refl
tally-fold ceiling t i s (m ∷ ms) y = go (λ s' z. tally-fold ceiling t (suc i) s' ms z) (step_words ceiling t (suc i) s m)
  where
    go : ((s' : semantics.State) (z : Tally) → fold_log (add_move t) add_nothing ceiling t (suc i) s' ms z ≡ tally_along ceiling t (suc i) s' ms z)
        → (x : Stepped) → gather_by (add_move t) add_nothing ceiling t x i s m y (λ s' z. fold_log (add_move t) add_nothing ceiling t (suc i) s' ms z)
        ≡ tally_by x y (λ s'. tally_along ceiling t (suc i) s' ms (tallied t s (move_of t m) y))
    go ih (to s') = ih s' (tallied t s (move_of t m) y)
    go ih (refused q) = refl

-- ---- figures that fit

when-few : (b : Bool) (n : ℕ) → n ≤ 1024 → cond b n 0 ≤ 1024
when-few true n h = h
when-few false n h = omega arith

few-more : (y : Tally) (i begun committed aborted : ℕ) → begun ≤ 1024 → committed ≤ 1024 → aborted ≤ 1024 → Few y i
    → Few (counted y begun committed aborted) (i + 1)
few-more y i begun committed aborted b c a f = record {
  moves = omega (arith, f.moves);
  begun = omega (arith, f.begun);
  committed = omega (arith, f.committed);
  aborted = omega (arith, f.aborted);
}

few-later : {y : Tally} {i : ℕ} → i ≤ 1024 → Few y i → Few y 1024
few-later h f = record {
  moves = omega (arith, f.moves);
  begun = omega (arith, f.begun);
  committed = omega (arith, f.committed);
  aborted = omega (arith, f.aborted);
}

-- ---- the loop: at place i the moves before it have led to s and have this tally

pub record TallyAt (ceiling : ℕ) (t : Table) (l : List ℕ) (start : State) (i : ℕ) (s : State) (y : Tally) : Type 0 where
  pub folded : Folded (add_move t) add_nothing ceiling t l start no_moves i s y
  pub few : Few y i

pub tally-at-start : {ceiling : ℕ} (t : Table) (l : List ℕ) {s : State} → Workable s ceiling → TallyAt ceiling t l s 0 s no_moves
tally-at-start {ceiling} t l w = record {
  folded = folded_start (add_move t) add_nothing ceiling t l no_moves w;
  few = record { moves = omega arith; begun = omega arith; committed = omega arith; aborted = omega arith };
}

module _ {ceiling : ℕ} {t : Table} {l : List ℕ} {start : State} {i : ℕ} {s : State} {y : Tally} (h : TallyAt ceiling t l start i s y) where
  pub tally-few : move_count l ≤ 1024 → Few y 1024
  tally-few few = few-later (let w = h.folded.reached.within in omega arith) h.few

  -- no move is left
  pub tally-at-end : move_count l ≤ i → y ≡ tally_along ceiling t 0 (state_in start) (moves_of l) no_moves
  tally-at-end e = folded-end (add_move t) add_nothing ceiling t h.folded e ∙ tally-fold ceiling t 0 (state_in start) (moves_of l) no_moves

  module _ (more : i < move_count l) {x : Made} {s' : State} (made : MadeAs x ceiling t (i + 1) (move_at l i) s s') where
    -- a refused move
    pub tally-at-refused : {q : Refusal} → x.verdict ≡ Denied q → y ≡ tally_along ceiling t 0 (state_in start) (moves_of l) no_moves
    tally-at-refused e = folded-refused (add_move t) add_nothing ceiling t h.folded more made e ∙ tally-fold ceiling t 0 (state_in start) (moves_of l) no_moves

    module _ (e : x.verdict ≡ Allowed) where
      ended : x.members ≡ members_ended (state_in s) (move_of t (move_at l i))
      ended = rw e at made.members

      few-ended : x.members ≤ 1024
      few-ended =
          let w = h.folded.reached.workable in
          omega (arith, ended, members-few (state_in s) (move_of t (move_at l i)), count-in s, w.bounds.fits, w.limit)

      pub tally-room : move_count l ≤ 1024 → MoveRoom y x.members
      tally-room few =
          let f = h.few in
          record {
            moves = omega (arith, more, f.moves);
            begun = omega (arith, more, f.begun);
            committed = omega (arith, more, few-ended, f.committed);
            aborted = omega (arith, more, few-ended, f.aborted);
          }

      -- the count of the code is the definition's
      as-tallied : tallied_at y l i s.next s'.next x.members ≡ tallied t (state_in s) (move_of t (move_at l i)) y
      unfolding state_in
      as-tallied =
          let a = accepted-move ceiling t (i + 1) (state_in s) (move_at l i) (state_in s') (made.step ∙ rw e) in
          let next : (applied t (i + 1) (state_in s) (move_of t (move_at l i))).next ≡ s'.next = ap (λ (z : semantics.State). z.next) a.result in
          rw (ended, ← next) (moved-tallied t (i + 1) (state_in s) y (move_at l i))

      -- an accepted one
      pub tally-at-made : TallyAt ceiling t l start (i + 1) s' (tallied_at y l i s.next s'.next x.members)
      tally-at-made =
          let begins = not (eqb s.next s'.next) in
          let commits = eqb (head_kind (get_or l (1 + i) 0)) 1 in
          record {
            folded = rw as-tallied (folded-made (add_move t) add_nothing ceiling t h.folded more made e);
            few = few-more y i (cond begins 1 0) (cond commits x.members 0) (cond (not commits) x.members 0)
                (when-few begins 1 (omega arith)) (when-few commits x.members few-ended) (when-few (not commits) x.members few-ended) h.few;
          }
