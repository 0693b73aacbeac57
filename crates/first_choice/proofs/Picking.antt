-- A pick for each number in turn: the first choice behind the picks so far is the one looked for.
use Prim.Native.Nat.{ℕ, suc, ◌+◌, ◌≤◌, ◌<◌}
use mathlib.Core.Bool.{Bool, true, false, ◌&&◌, not}
use mathlib.Core.List.{List, [], ◌∷◌, ◌++◌, map, append-nil}
use mathlib.Core.Path.{◌≡◌, refl, sym, ap, ◌∙◌}
use native.Mathlib.Numerals.{add-one}
use native.Mathlib.Omega.{arith}
use borrow.Author.Tests.{leb-true, leb-false}
use lib.Dec.{leb}
use lib.ListN.{length, get_or, take, drop, set, replicate, length-set}
use lib.Seq.{take-suc, take-suc-set, drop-cons, drop-set-lt}
use Rattle.lists.specs.Lists.{is_in}
use Rattle.lists.specs.Choices.{by_bool}
use Rattle.lists.specs.Tests.{false-and, and-right-false}
use Rattle.lists.specs.Each.{All}
use Rattle.lists.specs.Padded.{cut-back}
use Rattle.lists.specs.Prefix.{prefix-tails}
use Rattle.lists.specs.Choosing.{is_free}
use Rattle.lists.specs.FirstChoice.{choices_after, no_place, first-place}
use Rattle.lists.specs.Ways.{Used, used-next}
use Rattle.seek.specs.Seek.{fits_at, NextFit, next-same, Sought, sought-start, sought-next, sought-found, sought-end}
use Rattle.first_choice.specs.Choice.{first_choice, FitKeys}

-- ---- the first free place

-- no place before p is free
pub record Searching (q : ℕ → Bool) (used : List ℕ) (n p : ℕ) : Type 0 where
  pub within : p ≤ n
  pub sought : Sought (λ j. q j && not (is_in j used)) 0 p

module _ {q : ℕ → Bool} {used : List ℕ} {n : ℕ} where
  pub searching-start : Searching q used n 0
  searching-start = record { within = omega arith; sought = sought-start }

  pub searching-end : {p : ℕ} → Searching q used n p → n ≤ p → NextFit (λ j. q j && not (is_in j used)) 0 n n
  searching-end s l = sought-end s.sought s.within l

  module _ {from p : ℕ} (s : Searching q used n from) (m : NextFit q from n p) where
    -- what does not fit is not free
    pub searching-passed : Searching q used n p
    searching-passed = record { within = m.high; sought = record { onward = omega arith; none = none } }
      where
        none : (j : ℕ) → 0 ≤ j → j < p → q j && not (is_in j used) ≡ false
        none j l u = by_bool (leb from j)
            (λ e. false-and _ (m.none j (leb-true from j e) u))
            (λ e. s.sought.none j l (leb-false from j e))

    module _ (other : p ≡ n → ⊥) {b : Bool} (e : b ≡ is_in p used) where
      pub searching-on : b ≡ true → Searching q used n (p + 1)
      searching-on f = record {
        within = omega (arith, m.high);
        sought = sought-next searching-passed.sought (rw (← e, f) (and-right-false (q p) refl));
      }

      pub searching-found : b ≡ false → NextFit (λ j. q j && not (is_in j used)) 0 n p
      searching-found f = sought-found searching-passed.sought m.high (rw (m.here (omega (arith, m.high)), ← e, f))

-- ---- the picks

-- the first choice is that of what is taken of the front
first-front : (cs : List (List ℕ)) → first_choice (take 1 cs) ≡ first_choice cs
first-front [] = refl
first-front (c ∷ cs) = refl

-- that there are no picks before them makes no difference
pub first_alone : (cs : List (List ℕ)) → first_choice (map (λ c. [] ++ c) cs) ≡ first_choice cs
first_alone [] = refl
first_alone (c ∷ cs) = refl

-- The loop stands at the ith number: what there is behind the picks so far has the first choice of the goal.
pub record Picking (ks wanted : List ℕ) (k : ℕ) (goal : List (List ℕ)) (picks : List ℕ) (i : ℕ) : Type 0 where
  pub within : i ≤ k
  pub four : length picks ≡ 4
  pub used : Used ks (take i wanted) (take i picks)
  pub zeros : All (λ x. x ≡ 0) (drop i picks)
  pub first : take 1 (choices_after ks (take i picks) (drop i (take k wanted))) ≡ take 1 goal

module _ {os ws stopped ports : List ℕ} {n k low high : ℕ} {ks wanted : List ℕ} (h : FitKeys os ws stopped ports n k low high ks wanted)
    (most : k ≤ 4) {goal : List (List ℕ)} {picks : List ℕ} {i : ℕ} (s : Picking ks wanted k goal picks i) where
  abbrev t : ℕ
  t = get_or wanted i 0

  abbrev gone : List ℕ
  gone = take i picks

  abbrev rest : List ℕ
  rest = drop (i + 1) (take k wanted)

  same : (cs : List (List ℕ)) → choices_after ks gone (drop i (take k wanted)) ≡ cs → first_choice cs ≡ first_choice goal
  same cs e = sym (first-front cs) ∙ ap first_choice (ap (take 1) (sym e) ∙ s.first) ∙ first-front goal

  pub picking-done : k ≤ i → record { found = true; picks = picks } ≡ first_choice goal
  picking-done l =
      let last = (prefix-tails 0 wanted k h.enough).none i l in
      let back : take 4 (gone ++ replicate 4 0) ≡ picks = cut-back 0 i 4 4 picks (omega arith) s.four s.zeros in
      ap (λ (ps : List ℕ). record { found = true; picks = ps }) (sym back ∙ rw append-nil)
      ∙ same ((gone ++ []) ∷ []) (ap (choices_after ks gone) last)

  module _ (more : i < k) {p : ℕ} (m : NextFit (λ p. fits_at os ws low high stopped (get_or ports i 0) p && not (is_in p gone)) 0 n p) where
    level : drop i (take k wanted) ≡ t ∷ rest
    level = (prefix-tails 0 wanted k h.enough).more i more

    f : NextFit (is_free ks gone t) 0 n p
    f = next-same (λ p l. ap (λ (b : Bool). b && not (is_in p gone)) (h.same i p more l)) m

    pub picking-none : p ≡ n → record { found = false; picks = 0 ∷ 0 ∷ 0 ∷ 0 ∷ [] } ≡ first_choice goal
    picking-none e =
        let none = no_place ks gone t rest (λ j l. f.none j (omega arith) (omega (arith, h.size))) in
        same [] (ap (choices_after ks gone) level ∙ ap (map (λ c. gone ++ c)) none)

    pub picking-next : (p ≡ n → ⊥) → Picking ks wanted k goal (set picks i p) (i + 1)
    picking-next ne =
        let place : p < length ks = omega (arith, f.high, h.size) in
        let inside : i < length picks = omega (arith, s.four) in
        let within : i < length wanted = omega (arith, h.enough) in
        let free = f.here (omega arith) in
        let longer : take (i + 1) wanted ≡ take i wanted ++ t ∷ [] = rw add-one (take-suc wanted i 0 within) in
        let picked : take (i + 1) (set picks i p) ≡ gone ++ p ∷ [] = rw add-one (take-suc-set picks i p inside) in
        let past : drop (i + 1) (set picks i p) ≡ drop (suc i) picks = rw add-one (drop-set-lt (suc i) picks i p (omega arith)) in
        record {
          within = omega arith;
          four = length-set picks i p ∙ s.four;
          used = rw (longer, picked) (used-next ks (take i wanted) gone t p place free s.used);
          zeros = rw past (rw (drop-cons picks i 0 inside) at s.zeros).1;
          first = rw picked (sym (first-place ks (take i wanted) gone t rest p s.used place free (λ j l. f.none j (omega arith) l))
              ∙ ap (λ (ts : List ℕ). take 1 (choices_after ks gone ts)) (sym level) ∙ s.first);
        }
