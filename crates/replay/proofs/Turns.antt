-- The turns of the replay's loop on the working state and the target.
use Prim.Native.Nat.{ℕ, ◌+◌, ◌*◌, ◌≤◌, ◌<◌}
use mathlib.Core.Bool.{true, false, false≢true, true≢false}
use mathlib.Core.List.{List, ◌∷◌, map}
use mathlib.Core.Path.{◌≡◌, refl, sym, ap, subst, ◌∙◌}
use native.Mathlib.Omega.{arith}
use lib.ListN.{length, get_or, take, drop, set, length-map, length-take, length-set}
use lib.Seq.{drop-set-lt}
use Rattle.lists.specs.Lists.{over}
use Rattle.lists.specs.Over.{Pasted}
use Rattle.lists.specs.Padded.{length-padded}
use Rattle.lists.specs.Columns.{row, row-rest}
use Rattle.semantics.specs.Table.{table_of}
use Rattle.semantics.specs.Move.{picks_used}
use Rattle.semantics.specs.Log.{move_count, log_words}
use Rattle.semantics.specs.Serial.{Act, replayed}
use Rattle.semantics.specs.declared.Refusal.{Refusal}
use Rattle.semantics.specs.declared.Verdict.TheVariants.{Allowed, Denied}
use Rattle.state.specs.declared.State.{State}
use Rattle.state.specs.Working.{state_in}
use Rattle.state.specs.Arrays.{count-in}
use Rattle.step.specs.declared.make.Made.{Made}
use Rattle.step.specs.Make.{Workable, MadeAs}
use Rattle.serial_laws.specs.Acts.{replay_fits}
use Rattle.replay.specs.Replay.{place_in, Words, Replayable, Arranged, PartWritten, ReplayedAs}
use Rattle.replay.proofs.Replaying.{Replaying, replaying-start, replaying-part, replaying-denied, replaying-next, replaying-end}

-- j moves are written; `first` is the target with the count alone
pub record Going (T index : List ℕ) (start : State) (l order origins members : List ℕ) (ceiling : ℕ) (first : List ℕ) (j : ℕ) (s : State)
    (out : List ℕ) : Type 0 where
  pub given : Replayable T index start l order origins members ceiling first
  pub within : j ≤ move_count l
  pub workable : Workable s ceiling
  pub size : length out ≡ length first
  pub tail : drop (1 + 5 * move_count l) out ≡ drop (1 + 5 * move_count l) first
  pub acts : (xs : List Act) → Arranged (table_of T) (state_in start) l order origins members xs
      → (rest : List Act) × Replaying ceiling (table_of T) (state_in start) l order origins members xs rest j (state_in s) out

-- the count is no part of what lies behind the log
tail-first : {first : List ℕ} (before : List ℕ) (k : ℕ) → first ≡ set before 0 k → drop (1 + 5 * k) first ≡ drop (1 + 5 * k) before
tail-first before k e = ap (drop (1 + 5 * k)) e ∙ drop-set-lt (1 + 5 * k) before 0 k (omega arith)

module _ {T index : List ℕ} {start : State} {l order origins members : List ℕ} {ceiling : ℕ} where
  pub going_start : {before : List ℕ} → Replayable T index start l order origins members ceiling before
      → Going T index start l order origins members ceiling (set before 0 (move_count l)) 0 start (set before 0 (move_count l))
  going_start {before} p = record {
    given = record { read = p.read; workable = p.workable; places = p.places; ordered = p.ordered; room = simp length-set p.room };
    within = omega arith;
    workable = p.workable;
    size = refl;
    tail = refl;
    acts = λ xs h. (xs, replaying-start ceiling (table_of T) (state_in start) l order origins members xs h before (let r = p.room in omega arith));
  }

  module _ {first : List ℕ} {j : ℕ} {s : State} {out : List ℕ} (g : Going T index start l order origins members ceiling first j s out) where
    few : move_count l ≤ length order
    few = omega (arith, g.given.read.log.few, g.given.ordered)

    pub going-room : 1 + 5 * move_count l ≤ length out
    going-room = omega (arith, g.given.room, g.size)

    fit : length (state_in s).entries ≤ ceiling
    fit = omega (arith, count-in s, g.workable.bounds.fits)

    -- the words of this turn, written over `out`, and what they leave of s
    module _ (more : j < move_count l) {head : ℕ} {picks : List ℕ} (w : Words (table_of T) (state_in s).entries l origins members (get_or order j 0) head picks)
        {new : List ℕ} (p : Pasted (set out (1 + j) head) (1 + move_count l + 4 * j) picks 4 new)
        {x : Made} {s' : State} (made : MadeAs x ceiling (table_of T) (get_or order j 0 + 1) (head ∷ picks) s s') where
      four : length picks ≡ 4
      four =
          let u = picks_used (table_of T) (get_or l (1 + get_or order j 0) 0) in
          let wanted = take 4 (drop (4 * get_or order j 0) origins) in
          let places = map (place_in (state_in s).entries) (take u wanted) in
          let least : length places ≤ 4 = omega (arith, w.used, length-map (take u wanted) (place_in (state_in s).entries), length-take u wanted) in
          ap length w.picks-now ∙ length-padded 4 0 places least

      written : new ≡ row out (move_count l) j head picks more going-room four
      unfolding row
      written = p.value

      tail-new : drop (1 + 5 * move_count l) new ≡ drop (1 + 5 * move_count l) first
      tail-new = ap (drop (1 + 5 * move_count l)) written ∙ row-rest out (move_count l) j head picks more going-room four ∙ g.tail

      size-new : length new ≡ length first
      size-new = p.size ∙ length-set out (1 + j) head ∙ g.size

      module _ {q : Refusal} (denied : x.verdict ≡ Denied q) where
        unfitting : (xs : List Act) → Arranged (table_of T) (state_in start) l order origins members xs
            → (false ≡ replay_fits ceiling (table_of T) (state_in start) xs) × (replay_fits ceiling (table_of T) (state_in start) (take (j + 1) xs) ≡ false)
        unfitting xs h =
            let (rest, r) = g.acts xs h in
            replaying-denied ceiling (table_of T) (state_in start) l order origins members xs more few w rest r (get_or order j 0 + 1) (rw denied at made.step)

        pub going-denied : {before : List ℕ} → first ≡ set before 0 (move_count l)
            → ReplayedAs false ceiling (table_of T) (state_in start) l order origins members before new
        going-denied {before} e = record {
          fits = λ xs h. (unfitting xs h).0;
          target = λ xs h q. absurd (false≢true q);
          part = λ xs h q.
              let (rest, r) = g.acts xs h in (
                j + 1,
                (unfitting xs h).1,
                subst (PartWritten (move_count l) (j + 1) (replayed (table_of T) (state_in start) xs)) (sym written)
                    (replaying-part ceiling (table_of T) (state_in start) l order origins members xs more few w rest r going-room four),
              );
          beyond = tail-new ∙ tail-first before (move_count l) e;
          size = size-new ∙ ap length e ∙ length-set before 0 (move_count l);
        }

      pub going_next : x.verdict ≡ Allowed → Going T index start l order origins members ceiling first (j + 1) s' new
      going_next ok =
          record {
            given = g.given;
            within = omega arith;
            workable = made.workable;
            size = size-new;
            tail = tail-new;
            acts = λ xs h.
                let (rest, r) = g.acts xs h in
                let (left, q) = replaying-next ceiling (table_of T) (state_in start) l order origins members xs more few w rest r
                (rw ok at made.step) fit going-room four in
                (left, subst (Replaying ceiling (table_of T) (state_in start) l order origins members xs left (j + 1) (state_in s')) (sym written) q);
          }

    pub going_end : move_count l ≤ j → {before : List ℕ} → first ≡ set before 0 (move_count l)
        → ReplayedAs true ceiling (table_of T) (state_in start) l order origins members before out
    going_end done {before} e =
        let k : j ≡ move_count l = omega (arith, g.within) in
        let tail = g.tail ∙ tail-first before (move_count l) e in
        let ended : (xs : List Act) → Arranged (table_of T) (state_in start) l order origins members xs
        → (true ≡ replay_fits ceiling (table_of T) (state_in start) xs) × (out ≡ over (log_words (replayed (table_of T) (state_in start) xs)) before) = λ xs h.
        let (rest, r) = g.acts xs h in
        replaying-end ceiling (table_of T) (state_in start) l order origins members xs few rest (rw k at r) fit before going-room tail in
        record {
          fits = λ xs h. (ended xs h).0;
          target = λ xs h q. (ended xs h).1;
          part = λ xs h q. absurd (true≢false q);
          beyond = tail;
          size = g.size ∙ ap length e ∙ length-set before 0 (move_count l);
        }
