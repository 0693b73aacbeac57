-- List functions of what is appended or mapped, and a property of every element at every place.
use Rattle.std.specs.Prelude.{ℕ, zero, suc, Bool, true, false, not, List, [], ◌∷◌, ◌++◌, map, ◌≡◌, refl, get_or}
use Rattle.std.proofs.Common.{inl, inr}
use Rattle.lists.specs.Lists.{all, any, keep_if, keep, is_in, without}
use Rattle.lists.specs.Members.{Among}

module _ {A : Type 0} where
  pub keep_if-append : (b : Bool) (x : A) (xs ys : List A) → keep_if b x (xs ++ ys) ≡ keep_if b x xs ++ ys
  keep_if-append true x xs ys = refl
  keep_if-append false x xs ys = refl

  pub keep_append : (p : A → Bool) (xs ys : List A) → keep p (xs ++ ys) ≡ keep p xs ++ keep p ys
  keep_append p [] ys = refl
  keep_append p (x ∷ xs) ys = rw (keep_append p xs ys) (keep_if-append (p x) x (keep p xs) (keep p ys))

  -- what is true of every element and of the default is true at every place
  pub get_or-each : (P : A → Type 0) (d : A) (xs : List A) → ((x : A) → Among x xs → P x) → P d → (i : ℕ) → P (get_or xs i d)
  get_or-each P d [] f h i = h
  get_or-each P d (x ∷ xs) f h zero = f x (inl refl)
  get_or-each P d (x ∷ xs) f h (suc i) = get_or-each P d xs (λ y m. f y (inr m)) h i

-- ---- after a map

module _ {A B : Type 0} (f : A → B) where
  pub keep-map : (p : B → Bool) (xs : List A) → keep p (map f xs) ≡ map f (keep (λ x. p (f x)) xs)
  keep-map p [] = refl
  keep-map p (x ∷ xs) = rw (keep-map p xs) (go (p (f x)))
    where
      go : (b : Bool) → keep_if b (f x) (map f (keep (λ x. p (f x)) xs)) ≡ map f (keep_if b x (keep (λ x. p (f x)) xs))
      go true = refl
      go false = refl

  pub all_map : (p : B → Bool) (xs : List A) → all p (map f xs) ≡ all (λ x. p (f x)) xs
  all_map p [] = refl
  all_map p (x ∷ xs) = rw (all_map p xs)

  pub any-map : (p : B → Bool) (xs : List A) → any p (map f xs) ≡ any (λ x. p (f x)) xs
  any-map p [] = refl
  any-map p (x ∷ xs) = rw (any-map p xs)

  pub without-map : (ps : List ℕ) (i : ℕ) (xs : List A) → without ps i (map f xs) ≡ map f (without ps i xs)
  without-map ps i [] = refl
  without-map ps i (x ∷ xs) = rw (without-map ps (suc i) xs) (go (not (is_in i ps)))
    where
      go : (b : Bool) → keep_if b (f x) (map f (without ps (suc i) xs)) ≡ map f (keep_if b x (without ps (suc i) xs))
      go true = refl
      go false = refl
