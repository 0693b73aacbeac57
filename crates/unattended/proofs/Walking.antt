-- The loop: k moves are made, and noted in two columns.
use Prim.Native.Nat.{ℕ, zero, suc, ◌+◌, ◌-◌, ◌*◌, ◌≤◌, ◌<◌}
use mathlib.Core.Bool.{Bool, true, false, not, false≢true}
use mathlib.Core.List.{List, [], ◌∷◌, ◌++◌, map, append_assoc, append-nil, map-append}
use mathlib.Core.Path.{◌≡◌, refl, sym, ap, ◌∙◌}
use native.Mathlib.Nat.{add-zero, sub-zero}
use native.Mathlib.Numerals.{add-one}
use native.Mathlib.Omega.{arith}
use lib.ListN.{length, take, drop, set, length-append, length-drop, length-map}
use lib.Seq.{sets, length-sets, paste, take-add, take_all, take-paste, drop-drop}
use Rattle.semantics.specs.Table.{Table}
use Rattle.semantics.specs.State.{State}
use Rattle.semantics.specs.Move.{Move, applied}
use Rattle.semantics.specs.Log.{head_of, four_picks, all_picks}
use Rattle.semantics.specs.Enabled.{enabled}
use Rattle.semantics.specs.Unattended.{by_first, moves_alone, reached_alone, is_still}
use Rattle.wellformed.specs.MoveWords.{four_picks-length}
use Rattle.first_end.specs.declared.First.{First}
use Rattle.first_end.specs.First.{first_move}
use Rattle.unattended.specs.Walked.{WalkedAs}

-- ---- the two columns

set-behind : (t : List ℕ) (j : ℕ) (xs : List ℕ) (x : ℕ) → set (sets t j xs) (j + length xs) x ≡ sets t j (xs ++ x ∷ [])
set-behind t j [] x = rw add-zero
set-behind t j (y ∷ xs) x =
    let e : j + suc (length xs) ≡ suc j + length xs = omega arith in
    rw e (set-behind (set t j y) (suc j) xs x)

picks-behind : (ms : List Move) (m : Move) → all_picks (ms ++ m ∷ []) ≡ all_picks ms ++ four_picks m
picks-behind [] m = append-nil (four_picks m)
picks-behind (x ∷ ms) m = ap (λ (l : List ℕ). four_picks x ++ l) (picks-behind ms m) ∙ sym (append_assoc (four_picks x) (all_picks ms) (four_picks m))

-- ---- the first move

pub first_found : (l : List Move) (f : First) → f ≡ first_move l → f.found ≡ true
    → (m : Move) × (ms : List Move) × (l ≡ m ∷ ms) × (f.mv.head ≡ head_of m) × (f.mv.picks ≡ four_picks m)
first_found [] f e h = absurd (false≢true (sym (ap (λ (x : First). x.found) e) ∙ h))
first_found (m ∷ ms) f e h = (m, ms, refl, ap (λ (x : First). x.mv.head) e, ap (λ (x : First). x.mv.picks) e)

pub first-none : (l : List Move) (f : First) → f ≡ first_move l → f.found ≡ false → l ≡ []
first-none [] f e h = refl
first-none (m ∷ ms) f e h = absurd (false≢true (sym h ∙ ap (λ (x : First). x.found) e))

pub still-found : (ceiling : ℕ) (t : Table) (s : State) {f : First} → f ≡ first_move (enabled ceiling t s) → not f.found ≡ is_still ceiling t s
unfolding is_still
still-found ceiling t s e = ap (λ (x : First). not x.found) e ∙ go (enabled ceiling t s)
  where
    go : (l : List Move) → not (first_move l).found ≡ by_first l true (λ m. false)
    go [] = refl
    go (m ∷ ms) = refl

-- ---- the loop

module _ (ceiling : ℕ) (t : Table) (budget : ℕ) (start : State) where
  abbrev all : List Move
  all = moves_alone ceiling t 0 budget start

  pub record Running (k : ℕ) (s : State) (picks before target : List ℕ) : Type 0 where
    pub within : k ≤ budget
    pub made : length (take k all) ≡ k
    pub rest : drop k all ≡ moves_alone ceiling t k (budget - k) s
    pub end : reached_alone ceiling t 0 budget start ≡ reached_alone ceiling t k (budget - k) s
    pub heads : target ≡ sets before 1 (map head_of (take k all))
    pub picks-are : take (4 * k) picks ≡ all_picks (take k all)

  pub running-start : (picks target : List ℕ) → Running 0 start picks target target
  running-start picks target = record { within = omega arith; made = refl; rest = rw sub-zero; end = rw sub-zero; heads = refl; picks-are = refl }

  module _ {k : ℕ} {s : State} {picks before target : List ℕ} (r : Running k s picks before target) where
    pub running-length : length target ≡ length before
    running-length = ap length r.heads ∙ length-sets before 1 (map head_of (take k all))

    -- one move more
    module _ (more : k < budget) {m : Move} {ms : List Move} (opened : enabled ceiling t s ≡ m ∷ ms) where
      left : budget - k ≡ suc (budget - (k + 1))
      left = omega arith

      here : drop k all ≡ m ∷ moves_alone ceiling t (suc k) (budget - (k + 1)) (applied t (suc k) s m)
      unfolding moves_alone
      here = r.rest ∙ rw (left, opened)

      longer : take (k + 1) all ≡ take k all ++ m ∷ []
      longer = take-add k 1 all ∙ ap (λ (l : List Move). take k all ++ take 1 l) here

      pub running_more : {ps : List ℕ} {h : ℕ} → h ≡ head_of m → ps ≡ four_picks m → 4 * k + 4 ≤ length picks
          → Running (k + 1) (applied t (suc k) s m) (paste picks (4 * k) ps 4) before (set target (1 + k) h)
      unfolding reached_alone
      running_more {ps} {h} eh ep room =
          let four = four_picks-length m in
          let size = ap length ep in
          let number : 4 * (k + 1) ≡ 4 * k + 4 = omega arith in
          let so_far : take (4 * (k + 1)) (paste picks (4 * k) ps 4) ≡ take (4 * k) picks ++ take 4 ps =
          rw number (take-paste picks (4 * k) ps 4 (omega arith) (omega (arith, size, four))) in
          let noted : take (4 * k) picks ++ take 4 ps ≡ all_picks (take k all) ++ four_picks m =
          rw (r.picks-are, ep, take_all 4 (four_picks m) (omega (arith, four))) in
          record {
            within = omega arith;
            made = ap length longer ∙ length-append (take k all) (m ∷ []) ∙ ap (λ (n : ℕ). n + 1) r.made;
            rest = sym (drop-drop 1 k all) ∙ ap (drop 1) here
                ∙ ap (λ (n : ℕ). moves_alone ceiling t n (budget - (k + 1)) (applied t (suc k) s m)) (sym (add-one k));
            end = r.end ∙ rw (left, opened, add-one k);
            heads = head eh;
            picks-are = so_far ∙ noted ∙ sym (ap all_picks longer ∙ picks-behind (take k all) m);
          }
        where
          head : h ≡ head_of m → set target (1 + k) h ≡ sets before 1 (map head_of (take (k + 1) all))
          head e =
              let count : 1 + k ≡ 1 + length (map head_of (take k all)) = omega (arith, length-map (take k all) head_of, r.made) in
              rw (r.heads, e, longer, map-append head_of (take k all) (m ∷ []), count) (set-behind before 1 (map head_of (take k all)) (head_of m))

    -- nothing more is made: the list is empty, or the budget is used up
    pub running-done : {b : Bool} → moves_alone ceiling t k (budget - k) s ≡ [] → reached_alone ceiling t k (budget - k) s ≡ s → b ≡ is_still ceiling t s
        → WalkedAs (record { made = k; still = b }) ceiling t budget start picks before target
    running-done {b} none same is =
        let gone = length-drop k all in
        let empty = ap length (r.rest ∙ none) in
        let whole : take k all ≡ all = take_all k all (omega (arith, gone, empty)) in
        let count : k ≡ length all = sym r.made ∙ ap length whole in
        record {
          count = count;
          still = is ∙ ap (is_still ceiling t) (sym (r.end ∙ same));
          heads = r.heads ∙ ap (λ (l : List Move). sets before 1 (map head_of l)) whole;
          picks-are = ap (λ (n : ℕ). take (4 * n) picks) (sym count) ∙ r.picks-are ∙ ap all_picks whole;
        }

  -- the two ends of the loop
  pub none_made : (k n : ℕ) (s : State) → enabled ceiling t s ≡ [] → (moves_alone ceiling t k n s ≡ []) × (reached_alone ceiling t k n s ≡ s)
  unfolding moves_alone reached_alone
  none_made k zero s e = (refl, refl)
  none_made k (suc n) s e = (rw e, rw e)

  pub spent-made : (k n : ℕ) (s : State) → n ≡ 0 → (moves_alone ceiling t k n s ≡ []) × (reached_alone ceiling t k n s ≡ s)
  unfolding moves_alone reached_alone
  spent-made k n s e = (rw e, rw e)
