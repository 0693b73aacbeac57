-- Lists given by a function of the place: the first n places of arrays side by side.
use Prim.Native.Nat.{ℕ, zero, suc, ◌+◌, ◌-◌, ◌≤◌, ◌<◌}
use Rattle.std.specs.Prelude.{◌≡◌, List, [], ◌∷◌, ◌++◌, map, drop}
use Rattle.std.proofs.Math.Path.{refl, ap}
use Rattle.std.proofs.Common.{◌∙◌, zero-add, le_of_suc-le-suc, not-suc-le-zero, add-one, drop-cons}
use Rattle.std.proofs.Math.Nat.{add-zero, sub-zero}
use native.Mathlib.Omega.{arith}
use Rattle.std.proofs.Math.ListN.{length, get_or, take}
use Rattle.lists.specs.Ahead.{Tails}
use Rattle.lists.specs.Each.{All}

module _ {A : Type 0} where
  -- f at n places, from i on
  unfoldable pub rows : (ℕ → A) → ℕ → ℕ → List A
  rows f i zero = []
  rows f i (suc n) = f i ∷ rows f (suc i) n

  -- f at the places from i on, of n
  abbrev pub rows_from : (ℕ → A) → ℕ → ℕ → List A
  rows_from f n i = rows f i (n - i)

  pub rows_none : (f : ℕ → A) (i : ℕ) → rows f i 0 ≡ []
  unfolding rows
  rows_none f i = refl

  pub length-rows : (f : ℕ → A) (i n : ℕ) → length (rows f i n) ≡ n
  unfolding rows
  length-rows f i zero = refl
  length-rows f i (suc n) = ap suc (length-rows f (suc i) n)

  pub rows_ext : (f g : ℕ → A) (i n : ℕ) → ((k : ℕ) → i ≤ k → k < i + n → f k ≡ g k) → rows f i n ≡ rows g i n
  unfolding rows
  rows_ext f g i zero h = refl
  rows_ext f g i (suc n) h =
      let e : f i ≡ g i = h i (omega arith) (omega arith) in
      let r : rows f (suc i) n ≡ rows g (suc i) n = rows_ext f g (suc i) n (λ k l u. h k (omega arith) (omega arith)) in
      rw (e, r)

  -- in two parts
  pub rows_append : (f : ℕ → A) (i a b : ℕ) → rows f i (a + b) ≡ rows f i a ++ rows f (i + a) b
  unfolding rows
  rows_append f i zero b = rw (zero-add b, add-zero i)
  rows_append f i (suc a) b =
      let e : suc a + b ≡ suc (a + b) = omega arith in
      let q : i + suc a ≡ suc i + a = omega arith in
      rw (e, q, rows_append f (suc i) a b)

  -- f at some places is g at those behind them by d
  pub rows-moved : (f g : ℕ → A) (d i n : ℕ) → ((k : ℕ) → i ≤ k → k < i + n → f k ≡ g (k + d)) → rows f i n ≡ rows g (i + d) n
  unfolding rows
  rows-moved f g d i zero h = refl
  rows-moved f g d i (suc n) h =
      let q : suc (i + d) ≡ suc i + d = omega arith in
      rw (h i (omega arith) (omega arith), q, rows-moved f g d (suc i) n (λ k l u. h k (omega arith) (omega arith)))

  rows_last : (f : ℕ → A) (i n : ℕ) → rows f i (suc n) ≡ rows f i n ++ (f (i + n) ∷ [])
  unfolding rows
  rows_last f i zero = rw add-zero
  rows_last f i (suc n) =
      let e : suc i + n ≡ i + suc n = omega arith in
      rw (rows_last f (suc i) n, e)

  -- the element at a place
  pub get_d_rows : (d : A) (f : ℕ → A) (i n k : ℕ) → k < n → get_or (rows f i n) k d ≡ f (i + k)
  unfolding rows
  get_d_rows d f i zero k h = absurd (not-suc-le-zero h)
  get_d_rows d f i (suc n) zero h = rw add-zero
  get_d_rows d f i (suc n) (suc k) h =
      let e : suc i + k ≡ i + suc k = omega arith in
      get_d_rows d f (suc i) n k (le_of_suc-le-suc h) ∙ ap f e

  -- the first m
  pub take-rows : (f : ℕ → A) (i m n : ℕ) → m ≤ n → take m (rows f i n) ≡ rows f i m
  unfolding rows
  take-rows f i zero n h = refl
  take-rows f i (suc m) zero h = absurd (not-suc-le-zero h)
  take-rows f i (suc m) (suc n) h = rw (take-rows f (suc i) m n (le_of_suc-le-suc h))

  -- one place more at the end
  pub rows_more : (f : ℕ → A) (i n : ℕ) → rows f i (n + 1) ≡ rows f i n ++ (f (i + n) ∷ [])
  rows_more f i n = rw (add-one n, rows_last f i n)

  -- what holds at each place
  pub rows-each : (P : A → Type 0) (f : ℕ → A) (i n : ℕ) → ((k : ℕ) → i ≤ k → k < i + n → P (f k)) → All P (rows f i n)
  unfolding rows
  rows-each P f i zero h = tt
  rows-each P f i (suc n) h = (h i (omega arith) (omega arith), rows-each P f (suc i) n (λ k l u. h k (omega arith) (omega arith)))

  -- for a loop that reads them
  pub rows-tails : (f : ℕ → A) (n : ℕ) → Tails f (rows_from f n) n
  unfolding rows
  rows-tails f n = record { more = more; none = none }
    where
      more : (i : ℕ) → i < n → rows f i (n - i) ≡ f i ∷ rows f (i + 1) (n - (i + 1))
      more i h =
          let e : n - i ≡ suc (n - (i + 1)) = omega arith in
          rw (e, add-one)

      none : (i : ℕ) → n ≤ i → rows f i (n - i) ≡ []
      none i h =
          let e : n - i ≡ 0 = omega arith in
          rw e

  -- .. and what such a loop reads is rows
  pub tails-rows : {at : ℕ → A} {rest : ℕ → List A} {n : ℕ} → Tails at rest n → rest 0 ≡ rows at 0 n
  unfolding rows
  tails-rows {at} {rest} {n} t = go 0 n (omega arith)
    where
      go : (i m : ℕ) → i + m ≡ n → rest i ≡ rows at i m
      go i zero e = t.none i (omega arith)
      go i (suc m) e = t.more i (omega arith) ∙ rw (add-one i, go (suc i) m (omega arith))

  pub rows_whole : (f : ℕ → A) (n : ℕ) → rows_from f n 0 ≡ rows f 0 n
  rows_whole f n = rw sub-zero

  -- the first n of a list, by place
  rows-part : (d : A) (xs : List A) (i n : ℕ) → i + n ≤ length xs → rows (λ k. get_or xs k d) i n ≡ take n (drop i xs)
  unfolding rows
  rows-part d xs i zero h = refl
  rows-part d xs i (suc n) h =
      let l : i < length xs = omega arith in
      let r : rows (λ k. get_or xs k d) (suc i) n ≡ take n (drop (suc i) xs) = rows-part d xs (suc i) n (omega arith) in
      rw (drop-cons xs i d l, r)

  pub rows_take : (d : A) (xs : List A) (n : ℕ) → n ≤ length xs → rows (λ k. get_or xs k d) 0 n ≡ take n xs
  rows_take d xs n h = rows-part d xs 0 n (omega arith)

pub map_rows : {A B : Type 0} (h : A → B) (f : ℕ → A) (i n : ℕ) → map h (rows f i n) ≡ rows (λ k. h (f k)) i n
unfolding rows
map_rows h f i zero = refl
map_rows h f i (suc n) = rw (map_rows h f (suc i) n)
