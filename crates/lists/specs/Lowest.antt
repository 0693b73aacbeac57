-- The lowest key of the elements of which a test holds, and that it is the first number of those that such elements have.
use Rattle.std.specs.Prelude.{ℕ, suc, ◌+◌, ◌-◌, min, ◌≤◌, ◌<◌, Bool, true, false, cond, List, [], ◌∷◌, ◌≡◌, refl, ltb}
use Rattle.std.proofs.Common.{inl, inr, sym, ap, ◌∙◌, arith, ltb-true, ltb-false}
use Rattle.lists.specs.Lists.{keep, up_from}
use Rattle.lists.specs.Choices.{by_bool, is_false, cond-true, cond-false}
use Rattle.lists.specs.Each.{keep-none}
use Rattle.lists.specs.Ahead.{Ahead, ahead-start, ahead-next, ahead-done}
use Rattle.lists.specs.Rows.{rows, rows_from, rows_whole, rows-tails}
use Rattle.lists.specs.Members.{Among}
use Rattle.lists.specs.UpFrom.{up-each, keep-first}

module _ {A : Type 0} (q : A → Bool) (key : A → ℕ) (top : ℕ) where
  -- low, or the key of x where it is lower and q holds; else it is lifted out of the way
  abbrev pub lowered : ℕ → A → ℕ
  lowered low x = min (key x + cond (q x) 0 top) low

  -- of those below low; low where there is none
  abbrev pub lowest_key : ℕ → List A → ℕ
  lowest_key low [] = low
  lowest_key low (x ∷ xs) = lowest_key (lowered low x) xs

  lowest-le : (low : ℕ) (xs : List A) → lowest_key low xs ≤ low
  lowest-le low [] = omega arith
  lowest-le low (x ∷ xs) = omega (arith, lowest-le (lowered low x) xs)

  lowest-under : (low : ℕ) (xs : List A) (x : A) → Among x xs → q x ≡ true → lowest_key low xs ≤ key x
  lowest-under low [] x m h = absurd m
  lowest-under low (y ∷ ys) x (inl e) h = omega (arith, lowest-le (lowered low y) ys, cond-true 0 top (ap q (sym e) ∙ h), ap key e)
  lowest-under low (y ∷ ys) x (inr m) h = lowest-under (lowered low y) ys x m h

  lowest-some : (low : ℕ) (xs : List A) → low ≤ top → lowest_key low xs < low → (x : A) × Among x xs × (q x ≡ true) × (key x ≡ lowest_key low xs)
  lowest-some low [] l h = absurd (omega arith)
  lowest-some low (y ∷ ys) l h =
      let next = lowered low y in
      by_bool (ltb (lowest_key next ys) next)
      (λ e. let (x, a, b, c) = lowest-some next ys (omega arith) (ltb-true (lowest_key next ys) next e) in (x, inr a, b, c))
      (λ e.
      let same : next ≡ lowest_key next ys = omega (arith, ltb-false (lowest_key next ys) next e, lowest-le next ys) in
      by_bool (q y)
      (λ t. let f = cond-true 0 top t in (y, inl refl, t, omega arith))
      (λ t. let f = cond-false 0 top t in absurd (omega arith)))

  -- ---- a loop over rows: low is the lowest key so far

  pub record LowestSoFar (row : ℕ → A) (n low i goal : ℕ) : Type 0 where
    pub ahead : Ahead (rows_from row n) n (lowest_key low) i goal

  pub lowest_start : (row : ℕ → A) (n low : ℕ) → LowestSoFar row n low 0 (lowest_key low (rows row 0 n))
  lowest_start row n low = record { ahead = rw (← rows_whole row n) (ahead-start (rows_from row n) n (lowest_key low)) }

  module _ {row : ℕ → A} {n low i goal : ℕ} (h : LowestSoFar row n low i goal) where
    pub lowest-next : i < n → {next : ℕ} → next ≡ lowered low (row i) → LowestSoFar row n next (i + 1) goal
    lowest-next l e = record { ahead = ahead-next (rows-tails row n) h.ahead l _ (λ xs. rw e) }

    pub lowest-done : n ≤ i → low ≡ goal
    lowest-done l = ahead-done (rows-tails row n) h.ahead l

  -- ---- the lowest key is the first of some numbers

  -- Where p holds of the keys of such elements, which are below n, and of no other number from i on: what p keeps of them.
  module _ (p : ℕ → Bool) (i n : ℕ) (xs : List A)
      (there : (v : ℕ) → i ≤ v → p v ≡ true → (x : A) × Among x xs × (q x ≡ true) × (key x ≡ v))
      (back : (x : A) → Among x xs → q x ≡ true → (i ≤ key x) × (key x < n) × (p (key x) ≡ true)) where
    none_below : (v : ℕ) → i ≤ v → v < lowest_key top xs → p v ≡ false
    none_below v l k = is_false (p v) (λ h. let (x, m, t, e) = there v l h in absurd (omega (arith, lowest-under top xs x m t)))

    pub lowest-first : lowest_key top xs < top
        → keep p (up_from i (n - i)) ≡ lowest_key top xs ∷ keep p (up_from (suc (lowest_key top xs)) (n - suc (lowest_key top xs)))
    lowest-first h =
        let (x, m, t, e) = lowest-some top xs (omega arith) h in
        let (a, b, c) = back x m t in
        keep-first p i (lowest_key top xs) n (omega arith) (omega arith) none_below (ap p (sym e) ∙ c)

    pub lowest-none : n ≤ top → top ≤ lowest_key top xs → keep p (up_from i (n - i)) ≡ []
    lowest-none l h =
        keep-none p (up_from i (n - i)) (up-each (λ v. p v ≡ false) i (n - i) (λ v a b. none_below v a (omega arith)))
