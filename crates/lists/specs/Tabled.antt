-- A function's values at i, i + 1, .. as a list: its length, the value at a place, and one part after another.
use Rattle.std.specs.Prelude.{ℕ, zero, suc, ◌+◌, ◌<◌, ◌++◌, map, ◌≡◌, refl, length, get_or}
use Rattle.std.proofs.Common.{ap, ◌∙◌, le_of_suc-le-suc, not-suc-le-zero, arith}
use Rattle.lists.specs.Lists.{up_from}

module _ {A : Type 0} (f : ℕ → A) where
  pub length-tabled : (i n : ℕ) → length (map f (up_from i n)) ≡ n
  length-tabled i zero = refl
  length-tabled i (suc n) = ap suc (length-tabled (suc i) n)

  pub get_or-up_from : (d : A) (i n r : ℕ) → r < n → get_or (map f (up_from i n)) r d ≡ f (i + r)
  get_or-up_from d i zero r h = absurd (not-suc-le-zero h)
  get_or-up_from d i (suc n) zero h = ap f (omega arith)
  get_or-up_from d i (suc n) (suc r) h = get_or-up_from d (suc i) n r (le_of_suc-le-suc h) ∙ ap f (omega arith)

  pub up_from-append : (i m n : ℕ) → map f (up_from i (m + n)) ≡ map f (up_from i m) ++ map f (up_from (i + m) n)
  up_from-append i zero n =
      let a : 0 + n ≡ n = omega arith in
      let b : i + 0 ≡ i = omega arith in
      rw (a, b)
  up_from-append i (suc m) n =
      let a : suc m + n ≡ suc (m + n) = omega arith in
      let b : i + suc m ≡ suc i + m = omega arith in
      rw (a, b, up_from-append (suc i) m n)
