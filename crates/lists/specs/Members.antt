-- Membership as a type: what `all`, `any`, `keep`, `map`, `++` and `is_in` say of the elements.
use Rattle.std.specs.Prelude.{ℕ, zero, suc, ◌<◌, Bool, true, false, ◌||◌, List, [], ◌∷◌, ◌++◌, map, ◌⊎◌, ◌≡◌, refl, eqb, length, get_or}
use Rattle.std.proofs.Common.{suc-le-suc, inl, inr, sym, ap, ◌∙◌, zero-lt-suc, le_of_suc-le-suc, not-suc-le-zero, eqb-true, eq-eqb}
use Rattle.std.proofs.lemmas.Bool.{false≢true}
use Rattle.lists.specs.Lists.{all, any, keep_if, keep, is_in}
use Rattle.lists.specs.Tests.{or-right-true}
use Rattle.lists.specs.Choices.{and_intro, and_left, and_right}

module _ {A : Type 0} where
  abbrev pub Among : A → List A → Type 0
  Among x [] = ⊥
  Among x (y ∷ ys) = (x ≡ y) ⊎ Among x ys

  module _ (p : A → Bool) where
    pub all-each : (xs : List A) → all p xs ≡ true → (x : A) → Among x xs → p x ≡ true
    all-each [] h x m = absurd m
    all-each (y ∷ ys) h x (inl e) = ap p e ∙ and_left (p y) (all p ys) h
    all-each (y ∷ ys) h x (inr m) = all-each ys (and_right (p y) (all p ys) h) x m

    pub all-intro : (xs : List A) → ((x : A) → Among x xs → p x ≡ true) → all p xs ≡ true
    all-intro [] f = refl
    all-intro (y ∷ ys) f = and_intro (f y (inl refl)) (all-intro ys (λ x m. f x (inr m)))

    pub any_some : (xs : List A) → any p xs ≡ true → (x : A) × Among x xs × (p x ≡ true)
    any_some [] h = absurd (false≢true h)
    any_some (y ∷ ys) h = go (any_some ys) (p y) refl h
      where
        go : (any p ys ≡ true → (x : A) × Among x ys × (p x ≡ true)) → (b : Bool) → p y ≡ b → b || any p ys ≡ true → (x : A) × Among x (y ∷ ys) × (p x ≡ true)
        go ih true e k = (y, inl refl, e)
        go ih false e k = let (x, m, q) = ih k in (x, inr m, q)

    pub any-intro : (xs : List A) (x : A) → Among x xs → p x ≡ true → any p xs ≡ true
    any-intro [] x m e = absurd m
    any-intro (y ∷ ys) x (inl q) e = rw (ap p (sym q) ∙ e)
    any-intro (y ∷ ys) x (inr m) e = or-right-true (p y) (any-intro ys x m e)

    pub among-keep : (xs : List A) (x : A) → Among x (keep p xs) → Among x xs × (p x ≡ true)
    among-keep [] x m = absurd m
    among-keep (y ∷ ys) x m = go (among-keep ys x) (p y) refl m
      where
        go : (Among x (keep p ys) → Among x ys × (p x ≡ true)) → (b : Bool) → p y ≡ b → Among x (keep_if b y (keep p ys)) → Among x (y ∷ ys) × (p x ≡ true)
        go ih true e (inl q) = (inl q, ap p q ∙ e)
        go ih true e (inr k) = let (n, h) = ih k in (inr n, h)
        go ih false e k = let (n, h) = ih k in (inr n, h)

    pub keep-among : (xs : List A) (x : A) → Among x xs → p x ≡ true → Among x (keep p xs)
    keep-among [] x m h = absurd m
    keep-among (y ∷ ys) x (inl q) h = let e : p y ≡ true = ap p (sym q) ∙ h in rw e (inl q)
    keep-among (y ∷ ys) x (inr m) h = go (keep-among ys x m h) (p y)
      where
        go : Among x (keep p ys) → (b : Bool) → Among x (keep_if b y (keep p ys))
        go k true = inr k
        go k false = k

  pub among-left : (xs ys : List A) (x : A) → Among x xs → Among x (xs ++ ys)
  among-left [] ys x m = absurd m
  among-left (y ∷ xs) ys x (inl e) = inl e
  among-left (y ∷ xs) ys x (inr m) = inr (among-left xs ys x m)

  pub among-right : (xs ys : List A) (x : A) → Among x ys → Among x (xs ++ ys)
  among-right [] ys x m = m
  among-right (y ∷ xs) ys x m = inr (among-right xs ys x m)

  pub among-append : (xs ys : List A) (x : A) → Among x (xs ++ ys) → Among x xs ⊎ Among x ys
  among-append [] ys x m = inr m
  among-append (y ∷ xs) ys x (inl e) = inl (inl e)
  among-append (y ∷ xs) ys x (inr m) = go (among-append xs ys x m)
    where
      go : Among x xs ⊎ Among x ys → Among x (y ∷ xs) ⊎ Among x ys
      go (inl k) = inl (inr k)
      go (inr k) = inr k

module _ {A B : Type 0} (f : A → B) where
  pub among-map : (xs : List A) (y : B) → Among y (map f xs) → (x : A) × Among x xs × (y ≡ f x)
  among-map [] y m = absurd m
  among-map (x ∷ xs) y (inl e) = (x, inl refl, e)
  among-map (x ∷ xs) y (inr m) = let (z, k, e) = among-map xs y m in (z, inr k, e)

  pub map-among : (xs : List A) (x : A) → Among x xs → Among (f x) (map f xs)
  map-among [] x m = absurd m
  map-among (y ∷ xs) x (inl e) = inl (ap f e)
  map-among (y ∷ xs) x (inr m) = inr (map-among xs x m)

pub is_in-among : (n : ℕ) (ns : List ℕ) → is_in n ns ≡ true → Among n ns
is_in-among n [] h = absurd (false≢true h)
is_in-among n (m ∷ ms) h = go (is_in-among n ms) (eqb n m) refl h
  where
    go : (is_in n ms ≡ true → Among n ms) → (b : Bool) → eqb n m ≡ b → b || is_in n ms ≡ true → Among n (m ∷ ms)
    go ih true e k = inl (eqb-true n m e)
    go ih false e k = inr (ih k)

pub among-is_in : (n : ℕ) (ns : List ℕ) → Among n ns → is_in n ns ≡ true
among-is_in n [] m = absurd m
among-is_in n (m ∷ ms) (inl e) = rw (eq-eqb n m e)
among-is_in n (m ∷ ms) (inr k) = or-right-true (eqb n m) (among-is_in n ms k)

module _ {A : Type 0} (d : A) where
  pub get_or-among : (xs : List A) (i : ℕ) → i < length xs → Among (get_or xs i d) xs
  get_or-among [] i h = absurd (not-suc-le-zero h)
  get_or-among (x ∷ xs) zero h = inl refl
  get_or-among (x ∷ xs) (suc i) h = inr (get_or-among xs i (le_of_suc-le-suc h))

  pub among-place : (xs : List A) (x : A) → Among x xs → (i : ℕ) × (i < length xs) × (get_or xs i d ≡ x)
  among-place [] x m = absurd m
  among-place (y ∷ ys) x (inl e) = (0, zero-lt-suc (length ys), sym e)
  among-place (y ∷ ys) x (inr m) = let (i, l, e) = among-place ys x m in (suc i, suc-le-suc l, e)
