-- An element of a list and what stands before and behind it.
use Rattle.std.specs.Prelude.{ℕ, zero, suc, ◌<◌, List, [], ◌∷◌, ◌++◌, ◌≡◌, refl, length}
use Rattle.std.proofs.Common.{inl, inr, sym, ap, not-suc-le-zero, arith}
use Rattle.lists.specs.Each.{All}
use Rattle.lists.specs.Members.{Among}

module _ {A : Type 0} where
  abbrev pub Split : List A → A → Type 0
  Split xs x = (us : List A) × (vs : List A) × (xs ≡ us ++ x ∷ vs)

  pub among-split : (xs : List A) (x : A) → Among x xs → Split xs x
  among-split [] x m = absurd m
  among-split (y ∷ xs) x (inl e) = ([], xs, λ j. sym e j ∷ xs)
  among-split (y ∷ xs) x (inr m) = let r = among-split xs x m in (y ∷ r.0, r.1, λ j. y ∷ r.2 j)

  -- the element at a place
  pub place-split : (xs : List A) (j : ℕ) → j < length xs → (x : A) × (us : List A) × (vs : List A) × (xs ≡ us ++ x ∷ vs) × (length us ≡ j)
  place-split [] j h = absurd (not-suc-le-zero h)
  place-split (x ∷ xs) zero h = (x, [], xs, refl, refl)
  place-split (x ∷ xs) (suc j) h = let r = place-split xs j (omega arith) in (r.0, x ∷ r.1, r.2, (λ i. x ∷ r.3 i), ap suc r.4)

  -- what holds of each element where it stands holds of all
  pub All-split : (P : A → Type 0) (xs : List A) → ((us vs : List A) (x : A) → xs ≡ us ++ x ∷ vs → P x) → All P xs
  All-split P [] h = tt
  All-split P (x ∷ xs) h = (h [] xs x refl, All-split P xs (λ us vs y q. h (x ∷ us) vs y (λ i. x ∷ q i)))

  pub All-among : (P : A → Type 0) (xs : List A) (x : A) → All P xs → Among x xs → P x
  All-among P [] x h m = absurd m
  All-among P (y ∷ xs) x h (inl e) = rw e h.0
  All-among P (y ∷ xs) x h (inr m) = All-among P xs x h.1 m

  pub All-every : (P : A → Type 0) (xs : List A) → ((x : A) → Among x xs → P x) → All P xs
  All-every P [] f = tt
  All-every P (x ∷ xs) f = (f x (inl refl), All-every P xs (λ y m. f y (inr m)))
