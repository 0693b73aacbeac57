-- A loop that notes whether a test held somewhere, and what such notes say of the elements that another test keeps.
use Prim.Native.Nat.{ℕ, zero, suc, ◌+◌, ◌≤◌, ◌<◌}
use Rattle.std.specs.Prelude.{◌≡◌, Bool, true, false, ◌&&◌, ◌||◌, not, List, [], ◌∷◌, ◌++◌, eqb, length, take, drop}
use Rattle.std.proofs.Math.Path.{refl}
use Rattle.std.proofs.Common.{sym, ap, ◌∙◌, arith, take-append-drop}
use Rattle.std.proofs.Math.Bool.{or-false}
use borrow.Author.Tests.{eqb-true, eqb-false}
use Rattle.std.proofs.lemmas.List.{take-append-le}
use Rattle.lists.specs.Lists.{all, any, keep_if, keep}
use Rattle.lists.specs.Choices.{by_bool}
use Rattle.lists.specs.Neither.{or_left_false, or_right_false}
use Rattle.lists.specs.Ahead.{Tails, Ahead, ahead-start, ahead-next, ahead-done}
use Rattle.lists.specs.Rows.{rows, rows_from, rows_whole}

regroup : (a b c : Bool) → a || (b || c) ≡ a || b || c
regroup true b c = refl
regroup false b c = refl

not-or : (a b : Bool) → not a && not b ≡ not (a || b)
not-or true b = refl
not-or false b = refl

neither : (a b c d : Bool) → not a && not b && not (c || d) ≡ not ((a || c) || (b || d))
neither true b c d = refl
neither false true true d = refl
neither false true false d = refl
neither false false c d = refl

module _ {A : Type 0} where
  -- b: whether p held of an element before place i
  pub record Finding (p : A → Bool) (rest : ℕ → List A) (n : ℕ) (b : Bool) (i : ℕ) (goal : Bool) : Type 0 where
    pub ahead : Ahead rest n (λ xs. b || any p xs) i goal

  pub finding-start : (p : A → Bool) (f : ℕ → A) (n : ℕ) → Finding p (rows_from f n) n false 0 (any p (rows f 0 n))
  finding-start p f n = record { ahead = rw (← rows_whole f n) (ahead-start (rows_from f n) n (any p)) }

  -- .. or from place i on
  pub finding-from : (p : A → Bool) (f : ℕ → A) (n i : ℕ) → i ≤ n → Finding p (rows_from f n) n false i (any p (rows_from f n i))
  finding-from p f n i l = record { ahead = record { within = l; so_far = refl } }

  module _ {p : A → Bool} {at : ℕ → A} {rest : ℕ → List A} {n : ℕ} (t : Tails at rest n) {b : Bool} {i : ℕ} {goal : Bool} (a : Finding p rest n b i goal) where
    pub finding-next : i < n → Finding p rest n (b || p (at i)) (i + 1) goal
    finding-next l = record { ahead = ahead-next t a.ahead l _ (λ xs. regroup b (p (at i)) (any p xs)) }

    pub finding-done : n ≤ i → b ≡ goal
    finding-done l = sym (or-false b) ∙ ahead-done t a.ahead l

  -- a test that fails at each place, and back
  pub none_rows : (p : A → Bool) (f : ℕ → A) (i n : ℕ) → ((k : ℕ) → i ≤ k → k < i + n → p (f k) ≡ false) → any p (rows f i n) ≡ false
  unfolding rows
  none_rows p f i zero h = refl
  none_rows p f i (suc n) h = rw (h i (omega arith) (omega arith)) (none_rows p f (suc i) n (λ k l u. h k (omega arith) (omega arith)))

  pub rows-lack : (p : A → Bool) (f : ℕ → A) (i n : ℕ) → any p (rows f i n) ≡ false → (k : ℕ) → i ≤ k → k < i + n → p (f k) ≡ false
  unfolding rows
  rows-lack p f i zero h k l u = absurd (omega arith)
  rows-lack p f i (suc n) h k l u = by_bool (eqb k i)
      (λ e. rw (eqb-true k i e) (or_left_false (p (f i)) (any p (rows f (suc i) n)) h))
      (λ e. let d = eqb-false k i e in rows-lack p f (suc i) n (or_right_false (p (f i)) (any p (rows f (suc i) n)) h) k (omega arith) (omega arith))

  pub any_append : (p : A → Bool) (xs ys : List A) → any p (xs ++ ys) ≡ any p xs || any p ys
  any_append p [] ys = refl
  any_append p (x ∷ xs) ys = rw (any_append p xs ys) (regroup (p x) (any p xs) (any p ys))

  -- a front of what a test fails on
  pub none-front : (p : A → Bool) (n : ℕ) (xs ys : List A) → n ≤ length xs → any p xs ≡ false → any p (take n (xs ++ ys)) ≡ false
  none-front p n xs ys l h =
      ap (any p) (take-append-le n xs ys l)
      ∙ or_left_false (any p (take n xs)) (any p (drop n xs)) (sym (any_append p (take n xs) (drop n xs)) ∙ ap (any p) (take-append-drop n xs) ∙ h)

  pub any-keep : (p q : A → Bool) (xs : List A) → any (λ x. q x && p x) xs ≡ any p (keep q xs)
  any-keep p q [] = refl
  any-keep p q (x ∷ xs) = go (q x) (any-keep p q xs)
    where
      go : (b : Bool) → any (λ x. q x && p x) xs ≡ any p (keep q xs) → b && p x || any (λ x. q x && p x) xs ≡ any p (keep_if b x (keep q xs))
      go true e = rw e
      go false e = e

  -- of no element p, and of none q
  pub all-neither : (p q r : A → Bool) → ((x : A) → r x ≡ not (p x) && not (q x)) → (xs : List A) → all r xs ≡ not (any p xs || any q xs)
  all-neither p q r e [] = refl
  all-neither p q r e (x ∷ xs) = rw (e x, all-neither p q r e xs) (neither (p x) (q x) (any p xs) (any q xs))

  pub all-not-any : (p r : A → Bool) → ((x : A) → r x ≡ not (p x)) → (xs : List A) → all r xs ≡ not (any p xs)
  all-not-any p r e [] = refl
  all-not-any p r e (x ∷ xs) = rw (e x, all-not-any p r e xs) (not-or (p x) (any p xs))
