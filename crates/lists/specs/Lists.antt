-- Functions on lists in which the rules are stated. For every element type.
use Rattle.std.specs.Prelude.{ℕ, zero, suc, ◌+◌, min, List, [], ◌∷◌, ◌++◌, map, Bool, true, false, ◌&&◌, ◌||◌, not, leb, eqb, length, drop}

-- where a holds, b must
abbrev pub given : Bool → Bool → Bool
given a b = not a || b

module _ {A : Type 0} where
  -- p holds of every element
  abbrev pub all : (A → Bool) → List A → Bool
  all p [] = true
  all p (x ∷ xs) = p x && all p xs

  -- p holds of some element
  abbrev pub any : (A → Bool) → List A → Bool
  any p [] = false
  any p (x ∷ xs) = p x || any p xs

  abbrev pub is_empty : List A → Bool
  is_empty [] = true
  is_empty (x ∷ xs) = false

  abbrev pub keep_if : Bool → A → List A → List A
  keep_if true x xs = x ∷ xs
  keep_if false x xs = xs

  -- the elements of which p holds, in order
  abbrev pub keep : (A → Bool) → List A → List A
  keep p [] = []
  keep p (x ∷ xs) = keep_if (p x) x (keep p xs)

-- i, i + 1, .., n numbers
abbrev pub up_from : ℕ → ℕ → List ℕ
up_from i zero = []
up_from i (suc n) = i ∷ up_from (suc i) n

abbrev pub one_if : Bool → ℕ
one_if true = 1
one_if false = 0

module _ {A : Type 0} where
  -- of how many elements p holds
  abbrev pub count_if : (A → Bool) → List A → ℕ
  count_if p [] = 0
  count_if p (x ∷ xs) = one_if (p x) + count_if p xs

  -- the sum of f over the elements
  abbrev pub total : (A → ℕ) → List A → ℕ
  total f [] = 0
  total f (x ∷ xs) = f x + total f xs

  -- no element's key is below that of the one before it, and the first's is at least m
  abbrev pub rises_from : ℕ → (A → ℕ) → List A → Bool
  rises_from m key [] = true
  rises_from m key (x ∷ xs) = leb m (key x) && rises_from (key x) key xs

-- p holds of every number below n
abbrev pub all_below : ℕ → (ℕ → Bool) → Bool
all_below zero p = true
all_below (suc n) p = all_below n p && p n

-- n is an element
abbrev pub is_in : ℕ → List ℕ → Bool
is_in n [] = false
is_in n (m ∷ ms) = eqb n m || is_in n ms

-- no number occurs twice
abbrev pub distinct : List ℕ → Bool
distinct [] = true
distinct (m ∷ ms) = not (is_in m ms) && distinct ms

-- the smallest, 0 of none
abbrev pub least : List ℕ → ℕ
least [] = 0
least (m ∷ []) = m
least (m ∷ n ∷ ns) = min m (least (n ∷ ns))

module _ {A B : Type 0} where
  -- the elements of the second list where p holds of the element beside it in the first
  abbrev pub keep_beside : (A → Bool) → List A → List B → List B
  keep_beside p [] ys = []
  keep_beside p (x ∷ xs) [] = []
  keep_beside p (x ∷ xs) (y ∷ ys) = keep_if (p x) y (keep_beside p xs ys)

module _ {A : Type 0} where
  -- the list without the places ps; its first element has the place i
  abbrev pub without : List ℕ → ℕ → List A → List A
  without ps i [] = []
  without ps i (x ∷ xs) = keep_if (not (is_in i ps)) x (without ps (suc i) xs)

  -- the second list with the first over its beginning
  abbrev pub over : List A → List A → List A
  over new old = new ++ drop (length new) old

module _ {A B : Type 0} where
  -- f of each element, one list after another
  abbrev pub each : (A → List B) → List A → List B
  each f [] = []
  each f (x ∷ xs) = f x ++ each f xs

-- every choice of k numbers below n, in order by the first, then by the next, ..
abbrev pub tuples : ℕ → ℕ → List (List ℕ)
tuples n zero = [] ∷ []
tuples n (suc k) = each (λ p. map (λ ps. p ∷ ps) (tuples n k)) (up_from 0 n)
