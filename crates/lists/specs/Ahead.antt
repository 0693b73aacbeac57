-- A loop that reads a sequence: what it has still to find of the elements ahead is what it is to find of them all.
-- The sequence is a slice (`slice-tails`), columns side by side, or anything else that has an element at each place.
use Rattle.std.specs.Prelude.{ℕ, ◌+◌, ◌≤◌, ◌<◌, ◌≡◌, refl, Bool, true, false, List, [], ◌∷◌, length, get_or, drop}
use Rattle.std.proofs.Common.{sym, ap, ◌∙◌, arith, drop_of_length-le}
use Rattle.lists.specs.Lists.{all}
use Rattle.lists.specs.Tests.{false-and, true-and}
use Rattle.lists.specs.Walk.{drop-step}

module _ {A : Type 0} where
  -- Of n elements `rest i` are those from i on, and `at i` is the first of them.
  pub record Tails (at : ℕ → A) (rest : ℕ → List A) (n : ℕ) : Type 0 where
    pub more : (i : ℕ) → i < n → rest i ≡ at i ∷ rest (i + 1)
    pub none : (i : ℕ) → n ≤ i → rest i ≡ []

  pub slice-tails : (d : A) (xs : List A) → Tails (λ i. get_or xs i d) (λ i. drop i xs) (length xs)
  slice-tails d xs = record { more = λ i h. drop-step xs i d h; none = λ i h. drop_of_length-le xs h }

  -- The loop's invariant at place i. f may carry what the loop has so far, so it may change from turn to turn.
  pub record Ahead {B : Type 0} (rest : ℕ → List A) (n : ℕ) (f : List A → B) (i : ℕ) (goal : B) : Type 0 where
    pub within : i ≤ n
    pub so_far : f (rest i) ≡ goal

  module _ {B : Type 0} where
    pub ahead-start : (rest : ℕ → List A) (n : ℕ) (f : List A → B) → Ahead rest n f 0 (f (rest 0))
    ahead-start rest n f = record { within = omega arith; so_far = refl }

    module _ {at : ℕ → A} {rest : ℕ → List A} {n : ℕ} (t : Tails at rest n) {f : List A → B} {i : ℕ} {goal : B} (a : Ahead rest n f i goal) where
      turn : i < n → f (at i ∷ rest (i + 1)) ≡ goal
      turn l = ap f (sym (t.more i l)) ∙ a.so_far

      -- the loop ends with b at place i
      pub ahead-here : i < n → (b : B) → ((xs : List A) → f (at i ∷ xs) ≡ b) → b ≡ goal
      ahead-here l b e = sym (e (rest (i + 1))) ∙ turn l

      -- it goes on
      pub ahead-next : i < n → (g : List A → B) → ((xs : List A) → f (at i ∷ xs) ≡ g xs) → Ahead rest n g (i + 1) goal
      ahead-next l g e = record { within = omega arith; so_far = sym (e (rest (i + 1))) ∙ turn l }

      -- nothing is left
      pub ahead-done : n ≤ i → f [] ≡ goal
      ahead-done l = ap f (sym (t.none i l)) ∙ a.so_far

  -- ---- a loop that tests each element
  module _ (p : A → Bool) {at : ℕ → A} {rest : ℕ → List A} {n : ℕ} (t : Tails at rest n) {i : ℕ} {goal : Bool} (a : Ahead rest n (all p) i goal) where
    pub each-fails : i < n → p (at i) ≡ false → false ≡ goal
    each-fails l e = ahead-here t a l false (λ xs. false-and (all p xs) e)

    pub each_next : i < n → p (at i) ≡ true → Ahead rest n (all p) (i + 1) goal
    each_next l e = ahead-next t a l (all p) (λ xs. true-and (all p xs) e)
