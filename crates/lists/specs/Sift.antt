-- A loop that reads place i of an array and writes place w of it, w ≤ i: what stays is changed by f and keeps its order.
use Rattle.std.specs.Prelude.{ℕ, zero, suc, ◌+◌, ◌≤◌, ◌<◌, ◌≡◌, refl, Bool, true, false, List, [], ◌∷◌, ◌++◌, map}
use Rattle.std.proofs.Common.{sym, ap, ◌∙◌, append_assoc, append-nil, add-zero, zero-add, add-one, arith}
use Rattle.lists.specs.Lists.{keep_if, keep, one_if}
use Rattle.lists.specs.Rows.{rows, rows_from, rows_none, rows_ext, rows_more, rows-tails, rows_whole}

module _ {A : Type 0} where
  -- f of each element that stays; the first one's place is i
  abbrev pub sift : (ℕ → A → Bool) → (A → A) → ℕ → List A → List A
  sift q f i [] = []
  sift q f i (x ∷ xs) = keep_if (q i x) (f x) (sift q f (suc i) xs)

  map-keep_if : (f : A → A) (b : Bool) (x : A) (xs : List A) → map f (keep_if b x xs) ≡ keep_if b (f x) (map f xs)
  map-keep_if f true x xs = refl
  map-keep_if f false x xs = refl

  pub sift-keep : (p : A → Bool) (f : A → A) (i : ℕ) (xs : List A) → sift (λ k x. p x) f i xs ≡ map f (keep p xs)
  sift-keep p f i [] = refl
  sift-keep p f i (x ∷ xs) = rw (sift-keep p f (suc i) xs, map-keep_if f (p x) x (keep p xs))

  -- Before turn i: w rows are made, and those from i on are as they were.
  pub record Sifting (q : ℕ → A → Bool) (f : A → A) (row : ℕ → A) (n i w : ℕ) (goal : List A) : Type 0 where
    pub within : i ≤ n
    pub behind : w ≤ i
    pub so_far : rows row 0 w ++ sift q f i (rows_from row n i) ≡ goal

  module _ (q : ℕ → A → Bool) (f : A → A) where
    pub sifting-start : (row : ℕ → A) (n : ℕ) → Sifting q f row n 0 0 (sift q f 0 (rows row 0 n))
    sifting-start row n = record { within = omega arith; behind = omega arith; so_far = rw (rows_none row 0, rows_whole row n) }

    module _ {row : ℕ → A} {n i w : ℕ} {goal : List A} (s : Sifting q f row n i w goal) where
      pub sifting-done : n ≤ i → rows row 0 w ≡ goal
      sifting-done h = sym (append-nil (rows row 0 w)) ∙ ap (λ xs. rows row 0 w ++ sift q f i xs) (sym ((rows-tails row n).none i h)) ∙ s.so_far

      split : i < n → rows row 0 w ++ keep_if (q i (row i)) (f (row i)) (sift q f (i + 1) (rows_from row n (i + 1))) ≡ goal
      split more = rw (add-one i) (rw ((rows-tails row n).more i more, add-one i) at s.so_far)

      -- a turn that writes place w alone, and counts it where the element stays
      pub sifting-turn : i < n → (row' : ℕ → A) → ((k : ℕ) → (k ≡ w → ⊥) → row' k ≡ row k) → (q i (row i) ≡ true → row' w ≡ f (row i))
          → Sifting q f row' n (i + 1) (w + one_if (q i (row i))) goal
      sifting-turn more row' other here = go (q i (row i)) here (split more)
        where
          made : rows row' 0 w ≡ rows row 0 w
          made = rows_ext row' row 0 w (λ k l u. other k (λ e. omega arith))

          left : rows_from row' n (i + 1) ≡ rows_from row n (i + 1)
          left = rows_ext row' row (i + 1) _ (λ k l u. other k (λ e. omega arith))

          go : (b : Bool) → (b ≡ true → row' w ≡ f (row i))
              → rows row 0 w ++ keep_if b (f (row i)) (sift q f (i + 1) (rows_from row n (i + 1))) ≡ goal
              → Sifting q f row' n (i + 1) (w + one_if b) goal
          go true e h = record { within = omega arith; behind = omega arith; so_far = rw (rows_more row' 0 w, made, left, zero-add w, e refl, append_assoc) h }
          go false e h = record { within = omega arith; behind = omega arith; so_far = rw (add-zero w, made, left) h }

    -- the loop may begin behind elements that stay as they are
    pub sifting-from : (row : ℕ → A) (n i : ℕ) → i ≤ n → ((k : ℕ) → k < i → (q k (row k) ≡ true) × (row k ≡ f (row k)))
        → Sifting q f row n i i (sift q f 0 (rows row 0 n))
    sifting-from row n zero l stay = sifting-start row n
    sifting-from row n (suc i) l stay =
        let (a, b) = stay i (omega arith) in
        let before = sifting-from row n i (omega arith) (λ k m. stay k (omega arith)) in
        rw (← add-one i) (rw a at (sifting-turn before (omega arith) row (λ k h. refl) (λ h. b)))
