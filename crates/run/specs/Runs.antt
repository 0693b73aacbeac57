-- What the run of a log asks and gives, and the laws of a loop that makes its moves one after another.
use Prim.Native.Nat.{ℕ, suc, ◌+◌, ◌-◌, ◌≤◌, ◌<◌}
use mathlib.Core.List.{List, [], ◌∷◌, ◌++◌, map}
use Rattle.std.proofs.Math.Path.{◌≡◌, ap}
use Rattle.std.specs.Prelude.{refl}
use Rattle.std.proofs.Common.{sym, ◌∙◌, zero-add, add-zero, add-one}
use Rattle.std.proofs.Math.Nat.{sub-zero}
use native.Mathlib.Omega.{arith}
use Rattle.std.proofs.Math.ListN.{length}
use Rattle.lists.specs.Lists.{up_from}
use Rattle.lists.specs.Tabled.{length-tabled, up_from-append}
use Rattle.lists.specs.Ahead.{Tails}
use Rattle.semantics.specs.Table.{Table}
use Rattle.semantics.specs.State as semantics
use Rattle.semantics.specs.Move.{Stepped, to, refused, stepped_by, step_words}
use Rattle.semantics.specs.Log.{move_count, move_at, moves_of, Ran, completed, stopped, onward, run}
use Rattle.semantics.specs.declared.Refusal.{Refusal}
use Rattle.semantics.specs.declared.Verdict.{Verdict}
use Rattle.semantics.specs.declared.Verdict.TheVariants.{Allowed, Denied}
use Rattle.wellformed.specs.Step.{completed-same}
use Rattle.state.specs.declared.State.{State}
use Rattle.state.specs.Working.{state_in}
use Rattle.move_log.specs.Form.{LogSized}
use Rattle.step.specs.declared.make.Made.{Made}
use Rattle.step.specs.Make.{Indexed, Workable, MadeAs}
use Rattle.run.specs.declared.Ran as code

-- ---- contracts

-- an accepted table with the index of its rules, and a log in order
pub record Prepared (t index l : List ℕ) : Type 0 where
  pub indexed : Indexed t index
  pub log : LogSized l

-- the moves of a log at the places before i
abbrev pub moves_before : List ℕ → ℕ → List (List ℕ)
moves_before l i = map (move_at l) (up_from 0 i)

-- what the code says of a run, as a value of semantics
abbrev pub ran_by : Verdict → ℕ → semantics.State → Ran
ran_by Allowed i s = completed s
ran_by (Denied q) i s = stopped i q

-- what a run asks
pub record Runnable (t index l : List ℕ) (ceiling : ℕ) (s : State) : Type 0 where
  pub prepared : Prepared t index l
  pub workable : Workable s ceiling

-- the answer and s' are the run of the log from s; the moves before the place lead to s': a refused move changes nothing
pub record RanAs (ran : code.Ran) (ceiling : ℕ) (t : Table) (l : List ℕ) (s s' : State) : Type 0 where
  pub value : ran_by ran.verdict ran.place (state_in s') ≡ run ceiling t 0 (state_in s) (moves_of l)
  pub reached : run ceiling t 0 (state_in s) (moves_before l ran.place) ≡ completed (state_in s')
  pub workable : Workable s' ceiling

-- ---- parts of a log

-- the moves at the places from i on
abbrev pub moves_from : List ℕ → ℕ → List (List ℕ)
moves_from l i = map (move_at l) (up_from i (move_count l - i))

module _ (l : List ℕ) where
  pub moves-tails : Tails (move_at l) (moves_from l) (move_count l)
  moves-tails = record { more = more; none = none }
    where
      more : (i : ℕ) → i < move_count l → moves_from l i ≡ move_at l i ∷ moves_from l (i + 1)
      more i h =
          let e : move_count l - i ≡ suc (move_count l - suc i) = omega arith in
          rw (add-one i, e)

      none : (i : ℕ) → move_count l ≤ i → moves_from l i ≡ []
      none i h =
          let e : move_count l - i ≡ 0 = omega arith in
          rw e

  pub moves-whole : moves_from l 0 ≡ moves_of l
  moves-whole = rw sub-zero

  moves-split : (i : ℕ) → i ≤ move_count l → moves_of l ≡ moves_before l i ++ moves_from l i
  moves-split i h =
      let e : move_count l ≡ i + (move_count l - i) = omega arith in
      ap (λ (n : ℕ). map (move_at l) (up_from 0 n)) e
      ∙ up_from-append (move_at l) 0 i (move_count l - i)
      ∙ ap (λ (n : ℕ). moves_before l i ++ map (move_at l) (up_from n (move_count l - i))) (zero-add i)

  moves_more : (i : ℕ) → moves_before l (i + 1) ≡ moves_before l i ++ move_at l i ∷ []
  moves_more i = up_from-append (move_at l) 0 i 1 ∙ ap (λ (n : ℕ). moves_before l i ++ move_at l n ∷ []) (zero-add i)

-- ---- parts of a run

module _ (ceiling : ℕ) (t : Table) where
  -- what follows an accepted part goes on from the state that it left
  run-append : (i : ℕ) (s : semantics.State) (xs ys : List (List ℕ)) (s' : semantics.State) → run ceiling t i s xs ≡ completed s'
      → run ceiling t i s (xs ++ ys) ≡ run ceiling t (i + length xs) s' ys
  unfolding run
  run-append i s [] ys s' h = rw (add-zero i, completed-same h)
  run-append i s (m ∷ xs) ys s' h = go (step_words ceiling t (suc i) s m) (λ x. run-append (suc i) x xs ys s') h
    where
      go : (x : Stepped) → ((x : semantics.State) → run ceiling t (suc i) x xs ≡ completed s'
          → run ceiling t (suc i) x (xs ++ ys) ≡ run ceiling t (suc i + length xs) s' ys)
          → onward x i (λ x. run ceiling t (suc i) x xs) ≡ completed s'
          → onward x i (λ x. run ceiling t (suc i) x (xs ++ ys)) ≡ run ceiling t (i + suc (length xs)) s' ys
      go (to x) ih k =
          let e : suc i + length xs ≡ i + suc (length xs) = omega arith in
          rw e at (ih x k)
      go (refused r) ih k = absurd (let z : ◌≡◌ {A = ℕ} 0 1 = cc in omega arith)

-- ---- the loop: the moves before place i have led from the start to s

pub record Reached (ceiling : ℕ) (t : Table) (l : List ℕ) (start : State) (i : ℕ) (s : State) : Type 0 where
  pub within : i ≤ move_count l
  pub so_far : run ceiling t 0 (state_in start) (moves_before l i) ≡ completed (state_in s)
  pub workable : Workable s ceiling

pub reached-start : {ceiling : ℕ} (t : Table) (l : List ℕ) {s : State} → Workable s ceiling → Reached ceiling t l s 0 s
unfolding run
reached-start t l w = record { within = omega arith; so_far = refl; workable = w }

module _ {ceiling : ℕ} {t : Table} {l : List ℕ} {start : State} {i : ℕ} {s : State} (r : Reached ceiling t l start i s) where
  onward-from : (ms : List (List ℕ)) → run ceiling t 0 (state_in start) (moves_before l i ++ ms) ≡ run ceiling t i (state_in s) ms
  onward-from ms =
      let e : 0 + length (moves_before l i) ≡ i = omega (arith, length-tabled (move_at l) 0 i) in
      run-append ceiling t 0 (state_in start) (moves_before l i) ms (state_in s) r.so_far ∙ ap (λ (n : ℕ). run ceiling t n (state_in s) ms) e

  module _ (more : i < move_count l) {x : Made} {s' : State} (made : MadeAs x ceiling t (i + 1) (move_at l i) s s') where
    step_from : (ms : List (List ℕ)) → run ceiling t 0 (state_in start) (moves_before l i ++ move_at l i ∷ ms)
        ≡ onward (stepped_by x.verdict (state_in s')) i (λ x. run ceiling t (suc i) x ms)
    unfolding run
    step_from ms =
        let step = rw (add-one i) at made.step in
        onward-from (move_at l i ∷ ms) ∙ ap (λ (x : Stepped). onward x i (λ x. run ceiling t (suc i) x ms)) step

    -- an accepted move
    pub reached-made : x.verdict ≡ Allowed → Reached ceiling t l start (i + 1) s'
    unfolding run
    reached-made e = record {
      within = omega arith;
      so_far = ap (run ceiling t 0 (state_in start)) (moves_more l i) ∙ step_from [] ∙ rw e;
      workable = made.workable;
    }

    -- a refused one
    pub reached-refused : {q : Refusal} → x.verdict ≡ Denied q → {ran : code.Ran} → ran.verdict ≡ x.verdict → ran.place ≡ i → RanAs ran ceiling t l start s'
    reached-refused {q} e v p = record {
      value = sym (ap (run ceiling t 0 (state_in start)) (moves-split l i r.within ∙ rw ((moves-tails l).more i more))
          ∙ step_from (moves_from l (i + 1)) ∙ rw (v, p, e));
      reached = rw (made.same q e, p) r.so_far;
      workable = made.workable;
    }

  -- no move is left
  pub reached-end : move_count l ≤ i → {ran : code.Ran} → ran.verdict ≡ Allowed → ran.place ≡ i → RanAs ran ceiling t l start s
  reached-end h v p =
      let e : i ≡ move_count l = omega (arith, r.within) in
      record { value = rw v (sym (rw e at r.so_far)); reached = rw p r.so_far; workable = r.workable }
