-- A test of each element of a list and the element beside it in another.
use Rattle.std.specs.Prelude.{Bool, true, false, ◌&&◌, List, [], ◌∷◌, map, ◌≡◌, refl}
use Rattle.lists.specs.Each.{All}

module _ {A B : Type 0} where
  -- p holds of each pair, and none is without the other
  abbrev pub all_beside : (A → B → Bool) → List A → List B → Bool
  all_beside p [] [] = true
  all_beside p [] (y ∷ ys) = false
  all_beside p (x ∷ xs) [] = false
  all_beside p (x ∷ xs) (y ∷ ys) = p x y && all_beside p xs ys

  pub beside_same : (p q : A → B → Bool) {P : A → Type 0} {Q : B → Type 0} → ((x : A) (y : B) → P x → Q y → p x y ≡ q x y) → (xs : List A) (ys : List B)
      → All P xs → All Q ys → all_beside p xs ys ≡ all_beside q xs ys
  beside_same p q f [] [] h k = refl
  beside_same p q f [] (y ∷ ys) h k = refl
  beside_same p q f (x ∷ xs) [] h k = refl
  beside_same p q f (x ∷ xs) (y ∷ ys) h k = rw (f x y h.0 k.0, beside_same p q f xs ys h.1 k.1)

pub beside-map : {A B C : Type 0} (f : A → B) (p : B → C → Bool) (xs : List A) (ys : List C)
    → all_beside p (map f xs) ys ≡ all_beside (λ x. p (f x)) xs ys
beside-map f p [] [] = refl
beside-map f p [] (y ∷ ys) = refl
beside-map f p (x ∷ xs) [] = refl
beside-map f p (x ∷ xs) (y ∷ ys) = rw (beside-map f p xs ys)
