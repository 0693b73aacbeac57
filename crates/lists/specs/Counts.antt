-- A loop that counts the rows of which p holds. It may write rows that it has passed: those ahead of it are as they were.
use Prim.Native.Nat.{ℕ, zero, suc, ◌+◌, ◌-◌, ◌≤◌, ◌<◌}
use Rattle.std.specs.Prelude.{Bool, ◌++◌}
use Rattle.std.proofs.Math.Bool.{true, false, cond}
use Rattle.std.proofs.Math.Path.{◌≡◌, refl}
use Rattle.std.proofs.Common.{sym, ap, ◌∙◌, zero-add}
use native.Mathlib.Omega.{arith}
use Rattle.lists.specs.Lists.{one_if, count_if}
use Rattle.lists.specs.Counting.{count-le, count-append}
use Rattle.lists.specs.Rows.{rows, rows_from, length-rows, rows_append, rows_ext, rows-tails}

module _ {A : Type 0} (p : A → Bool) where
  -- before row i: c of those passed have p
  pub record CountedTo (row : ℕ → A) (n i c goal : ℕ) : Type 0 where
    pub within : i ≤ n
    pub few : c ≤ i
    pub so_far : c + count_if p (rows_from row n i) ≡ goal

  -- the loop may begin at row i, if it is known how many of the rows before it have p
  pub counted-from : (row : ℕ → A) (n i c : ℕ) → i ≤ n → count_if p (rows row 0 i) ≡ c → CountedTo row n i c (count_if p (rows row 0 n))
  counted-from row n i c l e = record {
    within = l;
    few = omega (arith, count-le p (rows row 0 i), length-rows row 0 i);
    so_far =
        ap (λ (m : ℕ). m + count_if p (rows_from row n i)) (sym e)
        ∙ sym (count-append p (rows row 0 i) (rows_from row n i))
        ∙ ap (count_if p) (sym (whole (omega arith)));
  }
    where
      whole : n ≡ i + (n - i) → rows row 0 n ≡ rows row 0 i ++ rows_from row n i
      whole q = ap (rows row 0) q ∙ rows_append row 0 i (n - i) ∙ ap (λ (j : ℕ). rows row 0 i ++ rows row j (n - i)) (zero-add i)

  module _ {row : ℕ → A} {n i c goal : ℕ} (h : CountedTo row n i c goal) where
    pub counted-turn : i < n → {one : ℕ} → one ≡ one_if (p (row i)) → one ≤ 1 → (row' : ℕ → A) → ((k : ℕ) → i < k → row' k ≡ row k)
        → CountedTo row' n (i + 1) (c + one) goal
    counted-turn l {one} e small row' same = record {
      within = omega arith;
      few = omega (arith, h.few);
      so_far =
          let ahead = ap (count_if p) (rows_ext row' row (i + 1) (n - (i + 1)) (λ k a b. same k (omega arith))) in
          let here = ap (count_if p) ((rows-tails row n).more i l) in
          omega (arith, h.so_far, ahead, here, e);
    }

    pub counted-done : n ≤ i → c ≡ goal
    counted-done l = let none = ap (count_if p) ((rows-tails row n).none i l) in omega (arith, h.so_far, none)

  -- all of some rows have p, or none has
  pub count-uniform : (b : Bool) (row : ℕ → A) (i n : ℕ) → ((k : ℕ) → i ≤ k → k < i + n → p (row k) ≡ b) → count_if p (rows row i n) ≡ cond b n 0
  unfolding rows
  count-uniform b row i zero h = go b
    where
      go : (b : Bool) → ◌≡◌ {A = ℕ} 0 (cond b 0 0)
      go true = refl
      go false = refl
  count-uniform b row i (suc n) h = rw (h i (omega arith) (omega arith)) (more b (count-uniform b row (suc i) n (λ k l u. h k (omega arith) (omega arith))))
    where
      more : (b : Bool) → count_if p (rows row (suc i) n) ≡ cond b n 0 → one_if b + count_if p (rows row (suc i) n) ≡ cond b (suc n) 0
      more true e = omega arith
      more false e = omega arith
