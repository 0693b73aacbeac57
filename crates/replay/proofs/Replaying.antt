-- The loop of the replay: what is written, followed by the replay of what is left, is the whole.
use Prim.Native.Nat.{ℕ, suc, ◌+◌, ◌*◌, ◌≤◌, ◌<◌}
use mathlib.Core.Bool.{true, false}
use mathlib.Core.List.{List, [], ◌∷◌, ◌++◌, map, nil≢cons, append-nil, append_assoc}
use mathlib.Core.Path.{◌≡◌, refl, sym, ap, ◌∙◌}
use native.Mathlib.Nat.{zero-add}
use native.Mathlib.Omega.{arith}
use lib.Dec.{leb}
use lib.ListN.{length, get_or, take, drop, set, length-map}
use lib.Seq.{append_snoc, length-take-le}
use borrow.Author.Tests.{le-leb}
use Rattle.lists.specs.Lists.{over}
use Rattle.lists.specs.Each.{All, head-eq, tail-eq}
use Rattle.lists.specs.Tests.{false-and, true-and, and-right-false}
use Rattle.lists.specs.Choices.{by_bool}
use Rattle.lists.specs.Prefix.{prefix-tails}
use Rattle.lists.specs.Columns.{row, row_first, row-second, rows-over}
use Rattle.semantics.specs.Table.{Table}
use Rattle.semantics.specs.State.{State}
use Rattle.semantics.specs.Move.{applied, to, refused, step_words, move_verdict}
use Rattle.semantics.specs.Log.{move_count, head_of, four_picks, all_picks, log_words}
use Rattle.semantics.specs.Serial.{Act, after, again, replayed, fits}
use Rattle.semantics.specs.declared.Refusal.{Refusal}
use Rattle.wellformed.specs.Step.{step_words-verdict, refused≢to, accepted-move}
use Rattle.wellformed.specs.Length.{length-maker}
use Rattle.cells.specs.Moves.{after-allowed}
use Rattle.serial_laws.specs.Acts.{Recorded, words_of_move, ActsAgain, Replays, replay_fits}
use Rattle.replay.specs.Replay.{Words, Arranged, PartWritten}
use Rattle.replay.proofs.WordsAgain.{again-words}

-- `rest` is left of the acts xs at the state c, and the rows of the others are written
pub record Replaying (ceiling : ℕ) (t : Table) (start : State) (l order origins members : List ℕ) (xs rest : List Act) (j : ℕ) (c : State)
    (out : List ℕ) : Type 0 where
  pub places : map (λ a. a.place) rest ≡ drop j (take (move_count l) order)
  pub recorded : All (Recorded t l origins members) rest
  pub replays : Replays t c rest
  pub fitting : replay_fits ceiling t c rest ≡ replay_fits ceiling t start xs
  pub cut : (m : ℕ) → replay_fits ceiling t c (take m rest) ≡ replay_fits ceiling t start (take (j + m) xs)
  pub heads : take (1 + j) out ++ map head_of (replayed t c rest) ≡ move_count l ∷ map head_of (replayed t start xs)
  pub picks : take (4 * j) (drop (1 + move_count l) out) ++ all_picks (replayed t c rest) ≡ all_picks (replayed t start xs)

-- ---- one act

-- an act made again that leaves few enough entries is a step, whoever makes it
passes : (ceiling : ℕ) (t : Table) (i maker : ℕ) (c : State) (a : Act) → ActsAgain t c a → fits ceiling (after t i c (again c a a.move)) ≡ true
    → step_words ceiling t maker c (words_of_move (again c a a.move)) ≡ to (applied t maker c (again c a a.move))
unfolding move_verdict
passes ceiling t i maker c a g f =
    let m = again c a a.move in
    let few : leb (length (applied t 0 c m).entries) ceiling ≡ true = rw (length-maker t 0 i c m, ← after-allowed t i c m g.allows) f in
    rw (step_words-verdict ceiling t maker c (words_of_move m), g.form, g.words, g.allows, few)

unfit : (ceiling : ℕ) (t : Table) (c : State) (rest : List Act) → fits ceiling c ≡ false → replay_fits ceiling t c rest ≡ false
unfit ceiling t c [] h = h
unfit ceiling t c (a ∷ rest) h = false-and (replay_fits ceiling t (after t (suc a.place) c (again c a a.move)) rest) h

-- ---- the loop

module _ (ceiling : ℕ) (t : Table) (start : State) (l order origins members : List ℕ) (xs : List Act) where
  pub replaying-start : Arranged t start l order origins members xs → (out : List ℕ) → 1 ≤ length out
      → Replaying ceiling t start l order origins members xs xs 0 start (set out 0 (move_count l))
  replaying-start h [] n = absurd (omega arith)
  replaying-start h (x ∷ out) n =
      record {
        places = h.places;
        recorded = h.recorded;
        replays = h.replays;
        fitting = refl;
        cut = λ m. rw (zero-add m);
        heads = refl;
        picks = refl;
      }

  module _ {j : ℕ} (more : j < move_count l) (few : move_count l ≤ length order) where
    ahead : drop j (take (move_count l) order) ≡ get_or order j 0 ∷ drop (j + 1) (take (move_count l) order)
    ahead = (prefix-tails 0 order (move_count l) few).more j more

    module _ {c : State} {out : List ℕ} {head : ℕ} {picks : List ℕ} (w : Words t c.entries l origins members (get_or order j 0) head picks) where
      -- the row of the act at hand is written behind the others
      row_written : (a : Act) (rest : List Act) → Replaying ceiling t start l order origins members xs (a ∷ rest) j c out
          → (room : 1 + 5 * move_count l ≤ length out) (four : length picks ≡ 4)
          → let new = row out (move_count l) j head picks more room four in
          let left = replayed t (after t (suc a.place) c (again c a a.move)) rest in
          (take (1 + (j + 1)) new ++ map head_of left ≡ move_count l ∷ map head_of (replayed t start xs))
          × (take (4 * (j + 1)) (drop (1 + move_count l) new) ++ all_picks left ≡ all_picks (replayed t start xs))
      unfolding replayed
      row_written a rest r room four =
          let m = again c a a.move in
          let words = again-words r.recorded.0 r.replays.0 (sym (head-eq (r.places ∙ ahead))) w in (
            rw (row_first out (move_count l) j head picks more room four, head-eq words) (append_snoc (take (1 + j) out) (head_of m) _ ∙ r.heads),
            rw (row-second out (move_count l) j head picks more room four, tail-eq words)
                (append_assoc (take (4 * j) (drop (1 + move_count l) out)) (four_picks m) _ ∙ r.picks),
          )

      pub replaying-part : (rest : List Act) → Replaying ceiling t start l order origins members xs rest j c out
          → (room : 1 + 5 * move_count l ≤ length out) (four : length picks ≡ 4)
          → PartWritten (move_count l) (j + 1) (replayed t start xs) (row out (move_count l) j head picks more room four)
      replaying-part [] r room four = absurd (nil≢cons (r.places ∙ ahead))
      replaying-part (a ∷ rest) r room four =
          let (heads, picks) = row_written a rest r room four in
          record { heads = (_, heads); picks = (_, picks) }

      -- the move is refused: the states up to the one that it leaves do not fit
      pub replaying-denied : (rest : List Act) → Replaying ceiling t start l order origins members xs rest j c out
          → (maker : ℕ) {q : Refusal} → step_words ceiling t maker c (head ∷ picks) ≡ refused q
          → (false ≡ replay_fits ceiling t start xs) × (replay_fits ceiling t start (take (j + 1) xs) ≡ false)
      replaying-denied [] r maker d = absurd (nil≢cons (r.places ∙ ahead))
      replaying-denied (a ∷ rest) r maker d =
          let g = r.replays.0 in
          let m = again c a a.move in
          let e = again-words r.recorded.0 g (sym (head-eq (r.places ∙ ahead))) w in
          by_bool (fits ceiling (after t (suc a.place) c m))
          (λ f. absurd (refused≢to {s = applied t maker c m} (sym d ∙ rw e (passes ceiling t (suc a.place) maker c a g f))))
          (λ f. (
            sym (and-right-false (fits ceiling c) (unfit ceiling t (after t (suc a.place) c m) rest f)) ∙ r.fitting,
            sym (r.cut 1) ∙ and-right-false (fits ceiling c) f,
          ))

      -- it is made, and its row is written
      pub replaying-next : (rest : List Act) → Replaying ceiling t start l order origins members xs rest j c out
          → {s : State} → step_words ceiling t (get_or order j 0 + 1) c (head ∷ picks) ≡ to s → length c.entries ≤ ceiling
          → (room : 1 + 5 * move_count l ≤ length out) (four : length picks ≡ 4)
          → (left : List Act) × Replaying ceiling t start l order origins members xs left (j + 1) s (row out (move_count l) j head picks more room four)
      unfolding replayed
      replaying-next [] r e n room four = absurd (nil≢cons (r.places ∙ ahead))
      replaying-next (a ∷ rest) r {s} e n room four =
          let g = r.replays.0 in
          let m = again c a a.move in
          let place = head-eq (r.places ∙ ahead) in
          let words = again-words r.recorded.0 g (sym place) w in
          let maker : get_or order j 0 + 1 ≡ suc a.place = omega arith in
          let next : s ≡ after t (suc a.place) c m =
          sym (accepted-move ceiling t (get_or order j 0 + 1) c (head ∷ picks) s e).result
          ∙ rw (maker, words, g.words) (sym (after-allowed t (suc a.place) c m g.allows)) in (
            rest,
            record {
              places = tail-eq (r.places ∙ ahead);
              recorded = r.recorded.1;
              replays = rw next r.replays.1;
              fitting = rw next (sym (true-and _ (le-leb (length c.entries) ceiling n)) ∙ r.fitting);
              cut = λ k.
                  let e : j + suc k ≡ j + 1 + k = omega arith in
                  rw next (sym (true-and _ (le-leb (length c.entries) ceiling n)) ∙ r.cut (suc k)
                  ∙ ap (λ (i : ℕ). replay_fits ceiling t start (take i xs)) e);
              heads = rw next (row_written a rest r room four).0;
              picks = rw next (row_written a rest r room four).1;
            },
          )

  -- no act is left
  module _ {c : State} {out : List ℕ} (few : move_count l ≤ length order) where
    pub replaying-end : (rest : List Act) → Replaying ceiling t start l order origins members xs rest (move_count l) c out → length c.entries ≤ ceiling
        → (before : List ℕ) → 1 + 5 * move_count l ≤ length out → drop (1 + 5 * move_count l) out ≡ drop (1 + 5 * move_count l) before
        → (true ≡ replay_fits ceiling t start xs) × (out ≡ over (log_words (replayed t start xs)) before)
    unfolding replayed log_words
    replaying-end (a ∷ rest) r n before room tail =
        absurd (nil≢cons (sym (r.places ∙ (prefix-tails 0 order (move_count l) few).none (move_count l) (omega arith))))
    replaying-end [] r n before room tail =
        let k = move_count l in
        let whole = replayed t start xs in
        let heads : take (1 + k) out ≡ k ∷ map head_of whole = sym (append-nil (take (1 + k) out)) ∙ r.heads in
        let picks : take (4 * k) (drop (1 + k) out) ≡ all_picks whole = sym (append-nil (take (4 * k) (drop (1 + k) out))) ∙ r.picks in
        let count : length whole ≡ k = omega (arith, ap length heads, length-take-le (1 + k) out (omega arith), length-map whole head_of) in (
          sym (le-leb (length c.entries) ceiling n) ∙ r.fitting,
          rw count (rows-over out before k k (map head_of whole) (all_picks whole) heads picks room tail),
        )
