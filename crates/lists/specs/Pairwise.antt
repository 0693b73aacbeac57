-- A relation between each element of a list and every later one, as in a list that strictly rises.
use Rattle.std.specs.Prelude.{ℕ, zero, suc, ◌<◌, Bool, true, false, List, [], ◌∷◌, ◌++◌, map, refl, length, get_or}
use Rattle.std.proofs.Common.{inl, inr, ⊎_elim, sym, subst, arith}
use Rattle.lists.specs.Lists.{keep_if, keep, up_from, each}
use Rattle.lists.specs.Members.{Among, among-append, among-map, among-keep, get_or-among}
use Rattle.lists.specs.TupleMembers.{among-each, among-up}

module _ {A : Type 0} where
  abbrev pub Pairwise : (A → A → Type 0) → List A → Type 0
  Pairwise R [] = Unit
  Pairwise R (x ∷ xs) = ((y : A) → Among y xs → R x y) × Pairwise R xs

  pub pairwise-weaker : (R S : A → A → Type 0) (xs : List A) → ((x y : A) → Among x xs → Among y xs → R x y → S x y) → Pairwise R xs → Pairwise S xs
  pairwise-weaker R S [] f h = tt
  pairwise-weaker R S (x ∷ xs) f h =
      (λ y m. f x y (inl refl) (inr m) (h.0 y m), pairwise-weaker R S xs (λ y z m n. f y z (inr m) (inr n)) h.1)

  module _ (R : A → A → Type 0) where
    pub pairwise_append : (xs ys : List A) → Pairwise R xs → Pairwise R ys → ((x y : A) → Among x xs → Among y ys → R x y) → Pairwise R (xs ++ ys)
    pairwise_append [] ys h k f = k
    pairwise_append (x ∷ xs) ys h k f = (
      λ y m. ⊎_elim (h.0 y) (f x y (inl refl)) (among-append xs ys y m),
      pairwise_append xs ys h.1 k (λ y z m. f y z (inr m)),
    )

    pub pairwise-keep : (p : A → Bool) (xs : List A) → Pairwise R xs → Pairwise R (keep p xs)
    pairwise-keep p [] h = tt
    pairwise-keep p (x ∷ xs) h = go (p x) (pairwise-keep p xs h.1)
      where
        go : (b : Bool) → Pairwise R (keep p xs) → Pairwise R (keep_if b x (keep p xs))
        go true k = (λ y m. h.0 y (among-keep p xs y m).0, k)
        go false k = k

    -- the elements at two places
    pub pairwise-at : (d : A) (xs : List A) (i j : ℕ) → Pairwise R xs → i < j → j < length xs → R (get_or xs i d) (get_or xs j d)
    pairwise-at d [] i j h l k = absurd (omega arith)
    pairwise-at d (x ∷ xs) i zero h l k = absurd (omega arith)
    pairwise-at d (x ∷ xs) zero (suc j) h l k = h.0 (get_or xs j d) (get_or-among d xs j (omega arith))
    pairwise-at d (x ∷ xs) (suc i) (suc j) h l k = pairwise-at d xs i j h.1 (omega arith) (omega arith)

module _ {A B : Type 0} (R : B → B → Type 0) where
  pub pairwise_map : (f : A → B) (xs : List A) → Pairwise (λ x y. R (f x) (f y)) xs → Pairwise R (map f xs)
  pairwise_map f [] h = tt
  pairwise_map f (x ∷ xs) h =
      (λ y m. let (z, k, e) = among-map f xs y m in subst (R (f x)) (sym e) (h.0 z k), pairwise_map f xs h.1)

  pub pairwise-each : (f : A → List B) (xs : List A) → ((x : A) → Among x xs → Pairwise R (f x))
      → Pairwise (λ x y. (a b : B) → Among a (f x) → Among b (f y) → R a b) xs → Pairwise R (each f xs)
  pairwise-each f [] g h = tt
  pairwise-each f (x ∷ xs) g h =
      pairwise_append R (f x) (each f xs) (g x (inl refl)) (pairwise-each f xs (λ y m. g y (inr m)) h.1)
      (λ a b m n. let (y, i, j) = among-each f xs b n in h.0 y i a b m j)

pub pairwise-up : (i n : ℕ) → Pairwise (λ x y. x < y) (up_from i n)
pairwise-up i zero = tt
pairwise-up i (suc n) = (λ y m. (among-up (suc i) n y m).0, pairwise-up (suc i) n)
