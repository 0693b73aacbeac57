-- The places of a list by their keys are its elements by their keys.
use Rattle.std.specs.Prelude.{ℕ, zero, suc, ◌+◌, ◌<◌, Bool, true, false, ◌≡◌, refl, eqb, length, get_or}
use mathlib.Core.List.{List, [], ◌∷◌, ◌++◌, map, map-append}
use Rattle.std.proofs.Common.{sym, ◌∙◌, zero-add, arith}
use Rattle.std.proofs.Math.Path.{ap}
use Rattle.std.proofs.lemmas.List.{length-map}
use Rattle.lists.specs.Lists.{keep, keep_if}
use Rattle.lists.specs.Each.{All, All-map, All-append}
use Rattle.semantics.specs.Serial.{Act}
use Rattle.cells.specs.Deeds.{Deed, act_of}
use Rattle.serializability.specs.Sort.{key_is, arrange}
use Rattle.serial_laws.specs.Order.{places_of_key, places_from, arranged_by}

module _ {A B : Type 0} (f : A → B) (d : B) (key : A → ℕ) (zs : List B) where
  of-key : (e i : ℕ) (xs : List A) → ((j : ℕ) → get_or zs (i + j) d ≡ get_or (map f xs) j d)
      → map (λ p. get_or zs p d) (places_of_key e i (map key xs)) ≡ map f (keep (λ x. eqb (key x) e) xs)
  of-key e i [] h = refl
  of-key e i (x ∷ xs) h = go (eqb (key x) e) (of-key e (suc i) xs (λ j. ap (λ (n : ℕ). get_or zs n d) (shift j) ∙ h (suc j)))
    where
      shift : (j : ℕ) → suc i + j ≡ i + suc j
      shift j = omega arith

      first : i ≡ i + 0
      first = omega arith

      here : get_or zs i d ≡ f x
      here = ap (λ (n : ℕ). get_or zs n d) first ∙ h 0

      go : (b : Bool) → map (λ p. get_or zs p d) (places_of_key e (suc i) (map key xs)) ≡ map f (keep (λ x. eqb (key x) e) xs)
          → map (λ p. get_or zs p d) (keep_if b i (places_of_key e (suc i) (map key xs))) ≡ map f (keep_if b x (keep (λ x. eqb (key x) e) xs))
      go true ih = λ j. here j ∷ ih j
      go false ih = ih

module _ (d : Act) (ds : List Deed) where
  abbrev keys : List ℕ
  keys = map (λ a. a.key) ds

  abbrev at : ℕ → Act
  at p = get_or (map act_of ds) p d

  from_key : (e n : ℕ) → map at (places_from e n keys) ≡ map act_of (arrange e n ds)
  from_key e zero = refl
  from_key e (suc n) =
      map-append at (places_of_key e 0 keys) (places_from (suc e) n keys)
      ∙ (λ j. of-key act_of d (λ a. a.key) (map act_of ds) e 0 ds (λ i. ap at (zero-add i)) j ++ from_key (suc e) n j)
      ∙ sym (map-append act_of (keep (key_is e) ds) (arrange (suc e) n ds))

  pub arranged-acts : map at (arranged_by keys) ≡ map act_of (arrange 0 (length ds) ds)
  unfolding arranged_by
  arranged-acts = from_key 0 (length keys) ∙ ap (λ (n : ℕ). map act_of (arrange 0 n ds)) (length-map ds (λ a. a.key))

-- ---- these places are below the number of keys

places-below : (e i : ℕ) (xs : List ℕ) → All (λ p. p < i + length xs) (places_of_key e i xs)
places-below e i [] = tt
places-below e i (x ∷ xs) = go (eqb x e) (All-map {P = λ p. p < suc i + length xs} {Q = λ p. p < i + length (x ∷ xs)} (λ p h. omega arith)
    (places_of_key e (suc i) xs) (places-below e (suc i) xs))
  where
    go : (b : Bool) → All (λ p. p < i + length (x ∷ xs)) (places_of_key e (suc i) xs)
        → All (λ p. p < i + length (x ∷ xs)) (keep_if b i (places_of_key e (suc i) xs))
    go true ih = (omega arith, ih)
    go false ih = ih

from-below : (e n : ℕ) (xs : List ℕ) → All (λ p. p < length xs) (places_from e n xs)
from-below e zero xs = tt
from-below e (suc n) xs = All-append (λ p. p < length xs) (places_of_key e 0 xs) (places_from (suc e) n xs)
    (All-map {P = λ p. p < 0 + length xs} {Q = λ p. p < length xs} (λ p h. omega arith) (places_of_key e 0 xs) (places-below e 0 xs))
    (from-below (suc e) n xs)

pub arranged-below : (xs : List ℕ) → All (λ p. p < length xs) (arranged_by xs)
unfolding arranged_by
arranged-below xs = from-below 0 (length xs) xs
