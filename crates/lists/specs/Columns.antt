-- A list that code writes in two columns: one that grows by an element, and behind it one that grows by a part.
use Prim.Native.Nat.{ℕ, suc, ◌+◌, ◌-◌, ◌*◌, ◌≤◌, ◌<◌}
use Rattle.std.specs.Prelude.{List, [], ◌∷◌, ◌++◌, ◌≡◌, drop, set}
use Rattle.std.proofs.Common.{append_assoc, sym, ◌∙◌, length-append, length-drop, take-append-drop, take-take, drop-drop, length-take-le}
use Rattle.std.proofs.Math.Path.{ap}
use native.Mathlib.Omega.{arith}
use Rattle.std.proofs.Math.ListN.{length, take, length-set}
use Rattle.std.proofs.Math.Seq.{paste, take_all, take-suc-set, drop-set-lt}
use Rattle.std.proofs.lemmas.List.Edits.{take-paste, drop-paste}
use Rattle.std.proofs.lemmas.List.{take-append-le, drop-append-le}
use Rattle.lists.specs.Lists.{over}
use Rattle.lists.specs.Beginning.{drop-take}

module _ {A : Type 0} (d : List A) (at : ℕ) (s : List A) (n : ℕ) (hd : at + n ≤ length d) (hs : n ≤ length s) where
  whole : length (take at d) ≡ at
  whole = length-take-le at d (omega arith)

  -- what stands before a part that is written stays
  pub before-paste : (m : ℕ) → m ≤ at → take m (paste d at s n) ≡ take m d
  before-paste m h =
      let low : m ≤ at + n = omega arith in
      let inside : m ≤ length (take at d) = omega (arith, whole) in
      sym (take-take m (at + n) (paste d at s n) low)
      ∙ ap (take m) (take-paste d at s n (omega arith) hs)
      ∙ take-append-le m (take at d) (take n s) inside
      ∙ take-take m at d h

  -- a part from place m on that ends where the other begins is longer by it
  pub part-paste : (m : ℕ) → m ≤ at → take (at + n - m) (drop m (paste d at s n)) ≡ take (at - m) (drop m d) ++ take n s
  part-paste m h =
      let inside : m ≤ length (take at d) = omega (arith, whole) in
      sym (drop-take m (at + n) (paste d at s n))
      ∙ ap (drop m) (take-paste d at s n (omega arith) hs)
      ∙ drop-append-le m (take at d) (take n s) inside
      ∙ ap (λ (l : List A). l ++ take n s) (drop-take m at d)

  -- and so does what stands behind it
  pub behind-paste : (m : ℕ) → at + n ≤ m → drop m (paste d at s n) ≡ drop m d
  behind-paste m h =
      let e : at + n + (m - (at + n)) ≡ m = omega arith in
      ap (λ (i : ℕ). drop i (paste d at s n)) (sym e)
      ∙ sym (drop-drop (m - (at + n)) (at + n) (paste d at s n))
      ∙ ap (drop (m - (at + n))) (drop-paste d at s n (omega arith) hs)
      ∙ drop-drop (m - (at + n)) (at + n) d
      ∙ ap (λ (i : ℕ). drop i d) e

-- k rows of an element x and of four elements xs each, after one element; row j is written
module _ {A : Type 0} (out : List A) (k j : ℕ) (x : A) (xs : List A) (more : j < k) (room : 1 + 5 * k ≤ length out) (four : length xs ≡ 4) where
  at : ℕ
  at = 1 + k + 4 * j

  fits : at + 4 ≤ length (set out (1 + j) x)
  unfolding at
  fits = omega (arith, length-set out (1 + j) x)

  unfoldable pub row : List A
  row = paste (set out (1 + j) x) (1 + k + 4 * j) xs 4

  pub row_first : take (1 + (j + 1)) row ≡ take (1 + j) out ++ x ∷ []
  unfolding at row
  row_first =
      let e : 1 + (j + 1) ≡ suc (1 + j) = omega arith in
      let l : 1 + j < length out = omega arith in
      before-paste (set out (1 + j) x) at xs 4 fits (omega arith) (1 + (j + 1)) (omega arith)
      ∙ ap (λ (i : ℕ). take i (set out (1 + j) x)) e ∙ take-suc-set out (1 + j) x l

  pub row-second : take (4 * (j + 1)) (drop (1 + k) row) ≡ take (4 * j) (drop (1 + k) out) ++ xs
  unfolding at row
  row-second =
      let e : 4 * (j + 1) ≡ at + 4 - (1 + k) = omega arith in
      let f : at - (1 + k) ≡ 4 * j = omega arith in
      let b : 1 + j < 1 + k = omega arith in
      let all : take 4 xs ≡ xs = take_all 4 xs (omega arith) in
      ap (λ (i : ℕ). take i (drop (1 + k) row)) e
      ∙ part-paste (set out (1 + j) x) at xs 4 fits (omega arith) (1 + k) (omega arith)
      ∙ rw (f, all, drop-set-lt (1 + k) out (1 + j) x b)

  pub row-rest : drop (1 + 5 * k) row ≡ drop (1 + 5 * k) out
  unfolding at row
  row-rest =
      let b : 1 + j < 1 + 5 * k = omega arith in
      behind-paste (set out (1 + j) x) at xs 4 fits (omega arith) (1 + 5 * k) (omega arith)
      ∙ drop-set-lt (1 + 5 * k) out (1 + j) x b

-- all rows are written
pub rows-over : {A : Type 0} (out before : List A) (k : ℕ) (x : A) (xs ys : List A) → take (1 + k) out ≡ x ∷ xs → take (4 * k) (drop (1 + k) out) ≡ ys
    → 1 + 5 * k ≤ length out → drop (1 + 5 * k) out ≡ drop (1 + 5 * k) before → out ≡ over (x ∷ xs ++ ys) before
rows-over {A} out before k x xs ys first second room rest =
    let a = ap length first in
    let b = ap length second in
    let c = length-take-le (1 + k) out (omega arith) in
    let d = length-take-le (4 * k) (drop (1 + k) out) (omega (arith, length-drop (1 + k) out)) in
    let size : length (x ∷ xs ++ ys) ≡ 1 + 5 * k = omega (arith, length-append (x ∷ xs) ys) in
    let behind : 1 + k + 4 * k ≡ 1 + 5 * k = omega arith in
    let tail : drop (4 * k) (drop (1 + k) out) ≡ drop (1 + 5 * k) before = drop-drop (4 * k) (1 + k) out ∙ ap (λ (n : ℕ). drop n out) behind ∙ rest in
    sym (take-append-drop (1 + k) out)
    ∙ ap (λ (r : List A). take (1 + k) out ++ r) (sym (take-append-drop (4 * k) (drop (1 + k) out)))
    ∙ rw (first, second, tail) (sym (append_assoc (x ∷ xs) ys (drop (1 + 5 * k) before)))
    ∙ ap (λ (n : ℕ). (x ∷ xs ++ ys) ++ drop n before) (sym size)
