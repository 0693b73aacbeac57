-- The run of the serial log removes as many member marks as the run of the log: from a start and to an end without open transactions a run removes one for
-- each begin, and both logs have the same begins.
use Rattle.std.specs.Prelude.{ℕ, Bool, true, false, List, [], ◌∷◌, map, ◌≡◌, refl, length}
use Rattle.std.proofs.Common.{sym, ap, ◌∙◌, arith, eqb-true}
use Rattle.lists.specs.Lists.{all, count_if, up_from}
use Rattle.lists.specs.Choices.{and_left, and_right}
use Rattle.lists.specs.Each.{All, count_same}
use Rattle.lists.specs.Counting.{count_map}
use Rattle.lists.specs.UpFrom.{up-each, count-places}
use Rattle.lists.specs.TupleCount.{length_up}
use Rattle.semantics.specs.Table.{Table}
use Rattle.semantics.specs.State.{Entry, State, is_message, is_member_mark}
use Rattle.semantics.specs.Move.{Move, move_of}
use Rattle.semantics.specs.Log.{completed, run}
use Rattle.semantics.specs.Members.{members_along}
use Rattle.semantics.specs.Serial.{any_open, is_begin, serial}
use Rattle.semantics.specs.Enabled.{move_words}
use Rattle.semantics.specs.declared.Sizes.{Sizes}
use Rattle.wellformed.specs.Rules.{TableRight}
use Rattle.wellformed.specs.Entries.{Sound}
use Rattle.wellformed.specs.MoveWords.{Holdable, words_back}
use Rattle.wellformed.specs.Conserved.{marks, run-marks}
use Rattle.cells.specs.Start.{closed-messages}
use Rattle.serializability.specs.Statement.{SameMove, reaction, committed, aborted, no_move, move_in, places_of, place_at, Serial}

-- ---- the begins of the serial log are those of the log

same-begin : (t : Table) {s s' : State} {m m' : Move} → SameMove s s' m m' → is_begin t m' ≡ is_begin t m
same-begin t (reaction r ps ps' h) = refl
same-begin t (committed b b' h) = refl
same-begin t (aborted b b' h) = refl

module _ {t : Table} {s : State} {ms : List Move} {e : State} (h : Serial t s ms e) where
  abbrev begins_at : ℕ → Bool
  begins_at i = is_begin t (move_in ms i)

  places_count : length (places_of t s ms) ≡ length ms
  places_count = sym (all-counted (places_of t s ms)) ∙ h.once (λ i. true) ∙ all-counted (up_from 0 (length ms)) ∙ length_up 0 (length ms)
    where
      all-counted : (xs : List ℕ) → count_if (λ i. true) xs ≡ length xs
      all-counted [] = refl
      all-counted (x ∷ xs) = omega (arith, all-counted xs)

  pub begins-same : count_if (is_begin t) (serial t s ms) ≡ count_if (is_begin t) ms
  begins-same =
      sym (count-places no_move (is_begin t) (serial t s ms))
      ∙ ap (λ (n : ℕ). count_if (λ j. is_begin t (move_in (serial t s ms) j)) (up_from 0 n)) h.size
      ∙ count_same (λ j. is_begin t (move_in (serial t s ms) j)) (λ j. begins_at (place_at t s ms j)) (up_from 0 (length ms))
      (up-each (λ j. is_begin t (move_in (serial t s ms) j) ≡ begins_at (place_at t s ms j)) 0 (length ms) (λ j l u. same-begin t (h.same j (omega arith))))
      ∙ ap (λ (n : ℕ). count_if (λ j. begins_at (place_at t s ms j)) (up_from 0 n)) (sym places_count)
      ∙ count-places 0 begins_at (places_of t s ms)
      ∙ h.once begins_at
      ∙ count-places no_move (is_begin t) ms

-- ---- a run from and to states without open transactions

no-marks : (es : List Entry) → all is_message es ≡ true → count_if is_member_mark es ≡ 0
no-marks [] h = refl
no-marks (e ∷ es) h =
    let k = eqb-true e.kind 0 (and_left (is_message e) (all is_message es) h) in
    rw (k, no-marks es (and_right (is_message e) (all is_message es) h))

pub closed-marks : (z : Sizes) (s : State) → Sound z s → any_open s ≡ false → marks s ≡ 0
closed-marks z s sound h = no-marks s.entries (closed-messages z s sound.right h)

module _ {t : Table} (right : TableRight t) where
  pub sum-begins : (ceiling : ℕ) (s : State) (ws : List (List ℕ)) (e : State) → run ceiling t 0 s ws ≡ completed e
      → marks s ≡ 0 → marks e ≡ 0 → members_along ceiling t 0 s ws ≡ count_if (is_begin t) (map (move_of t) ws)
  sum-begins ceiling s ws e ran a b = omega (arith, run-marks right ceiling 0 s ws e ran, count_map (move_of t) (is_begin t) ws)

-- moves that words can hold come back from them
pub held_back : (t : Table) (ms : List Move) → All (Holdable t) ms → map (move_of t) (map move_words ms) ≡ ms
held_back t [] h = refl
held_back t (m ∷ ms) h = λ k. words_back t m h.0 k ∷ held_back t ms h.1 k
