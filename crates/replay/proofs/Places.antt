-- Entries found by their origins.
use Prim.Native.Nat.{ℕ, zero, suc, ◌+◌, ◌≤◌, ◌<◌}
use mathlib.Core.Bool.{true, false}
use mathlib.Core.List.{List}
use mathlib.Core.Path.{◌≡◌, sym, ap, subst, ◌∙◌}
use native.Mathlib.Nat.{add-zero, zero-add}
use native.Mathlib.Numerals.{add-one}
use native.Mathlib.Omega.{arith}
use lib.Dec.{eqb}
use lib.ListN.{length, get_or, get_or-eq_default}
use borrow.Author.Tests.{eqb-true, eq-eqb}
use Rattle.lists.specs.Choices.{and_intro, is_false}
use Rattle.lists.specs.Tests.{and_both}
use Rattle.lists.specs.Ahead.{Ahead, ahead-here, ahead-next, ahead-done}
use Rattle.lists.specs.Rows.{rows, rows_from, rows-tails, rows_whole, length-rows, get_d_rows}
use Rattle.semantics.specs.State.{Entry}
use Rattle.semantics.specs.Move.{nothing, entry_at}
use Rattle.semantics.specs.Serial.{same_origin}
use Rattle.words.specs.Origin.{maker_in, index_in, origin_of, origin-word}
use Rattle.state.specs.Working.{row_of}
use Rattle.replay.specs.Replay.{place_in}

same_word : {w g : ℕ} → g ≡ w → same_origin (origin_of w) (origin_of g) ≡ true
same_word {w} {g} e = and_intro (eq-eqb (maker_in w) (maker_in g) (rw e)) (eq-eqb (index_in w) (index_in g) (rw e))

other_word : {w g : ℕ} → (g ≡ w → ⊥) → same_origin (origin_of w) (origin_of g) ≡ false
other_word {w} {g} n = is_false _ (λ h.
    let (a, b) = and_both (eqb (maker_in w) (maker_in g)) (eqb (index_in w) (index_in g)) h in
    n (sym (origin-word w g (eqb-true (maker_in w) (maker_in g) a) (eqb-true (index_in w) (index_in g) b))))

module _ (os ws gs : List ℕ) (n : ℕ) where
  -- no entry before place i is of the origin w
  abbrev pub Seeking : ℕ → ℕ → Type 0
  Seeking w i = Ahead (rows_from (row_of os ws gs) n) n (λ es. i + place_in es w) i (place_in (rows (row_of os ws gs) 0 n) w)

  seek-start : (w : ℕ) → Seeking w 0
  seek-start w = record { within = omega arith; so_far = rw (rows_whole (row_of os ws gs) n, zero-add) }

  module _ (w i : ℕ) (a : Seeking w i) where
    pub seek-here : i < n → get_or gs i 0 ≡ w → i ≡ place_in (rows (row_of os ws gs) 0 n) w
    seek-here l e = ahead-here (rows-tails (row_of os ws gs) n) a l i (λ es. rw (same_word e, add-zero))

    pub seek-next : i < n → (get_or gs i 0 ≡ w → ⊥) → Seeking w (i + 1)
    seek-next l e = ahead-next (rows-tails (row_of os ws gs) n) a l _ (λ es. rw (other_word e) (omega arith))

    pub seek-none : n ≤ i → n ≡ place_in (rows (row_of os ws gs) 0 n) w
    seek-none l = let h = ahead-done (rows-tails (row_of os ws gs) n) a l in let u = a.within in omega arith

  -- if it is none of the words before that place
  pub seek-from : (w i : ℕ) → i ≤ n → ((j : ℕ) → j < i → get_or gs j 0 ≡ w → ⊥) → Seeking w i
  seek-from w zero l h = seek-start w
  seek-from w (suc i) l h = subst (Seeking w) (add-one i) (seek-next w i (seek-from w i (omega arith) (λ j b. h j (omega arith))) (omega arith)
      (h i (omega arith)))

  pub owner-within : (p : ℕ) → p < n → get_or os p 0 ≡ (entry_at (rows (row_of os ws gs) 0 n) p).owner
  owner-within p h = sym (ap (λ (e : Entry). e.owner) (get_d_rows nothing (row_of os ws gs) 0 n p h) ∙ rw zero-add)

  pub owner-past : (p : ℕ) → n ≤ p → 0 ≡ (entry_at (rows (row_of os ws gs) 0 n) p).owner
  owner-past p h =
      let l : length (rows (row_of os ws gs) 0 n) ≤ p = omega (arith, length-rows (row_of os ws gs) 0 n) in
      sym (ap (λ (e : Entry). e.owner) (get_or-eq_default (rows (row_of os ws gs) 0 n) nothing l))
