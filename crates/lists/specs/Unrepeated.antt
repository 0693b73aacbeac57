-- Lists of numbers in which none occurs twice: one more at the end, and images of a part.
use Rattle.std.specs.Prelude.{ℕ, Bool, true, false, not, List, [], ◌∷◌, ◌++◌, map, ◌≡◌, refl}
use Rattle.std.proofs.Common.{inl, inr, ⊎_elim, sym, subst}
use Rattle.std.proofs.lemmas.Bool.{not-true}
use Rattle.lists.specs.Lists.{keep_if, keep, is_in, distinct}
use Rattle.lists.specs.Choices.{clash, is_false, and_left, and_right}
use Rattle.lists.specs.Members.{Among, among-append, among-map, map-among, among-keep, is_in-among, among-is_in}

pub distinct_snoc : (ns : List ℕ) (n : ℕ) → distinct ns ≡ true → is_in n ns ≡ false → distinct (ns ++ n ∷ []) ≡ true
distinct_snoc [] n h k = refl
distinct_snoc (m ∷ ms) n h k =
    let a = not-true (is_in m ms) (and_left (not (is_in m ms)) (distinct ms) h) in
    let e : is_in m (ms ++ n ∷ []) ≡ false = is_false (is_in m (ms ++ n ∷ [])) (λ q. ⊎_elim
    (λ l. clash (among-is_in m ms l) a) (⊎_elim (λ l. clash (among-is_in n (m ∷ ms) (inl (sym l))) k) (λ l. l))
    (among-append ms (n ∷ []) m (is_in-among m (ms ++ n ∷ []) q))) in
    rw (
      e,
      distinct_snoc ms n (and_right (not (is_in m ms)) (distinct ms) h)
          (is_false (is_in n ms) (λ q. clash (among-is_in n (m ∷ ms) (inr (is_in-among n ms q))) k)),
    )

module _ {A : Type 0} (f : A → ℕ) (p : A → Bool) where
  pub distinct-map-keep : (xs : List A) → distinct (map f xs) ≡ true → distinct (map f (keep p xs)) ≡ true
  distinct-map-keep [] h = refl
  distinct-map-keep (x ∷ xs) h = go (p x) (distinct-map-keep xs (and_right (not (is_in (f x) (map f xs))) (distinct (map f xs)) h))
    where
      a : is_in (f x) (map f xs) ≡ false
      a = not-true (is_in (f x) (map f xs)) (and_left (not (is_in (f x) (map f xs))) (distinct (map f xs)) h)

      deeper : Among (f x) (map f (keep p xs)) → Among (f x) (map f xs)
      deeper m = let (y, k, e) = among-map f (keep p xs) (f x) m in subst (λ (n : ℕ). Among n (map f xs)) (sym e) (map-among f xs y (among-keep p xs y k).0)

      go : (b : Bool) → distinct (map f (keep p xs)) ≡ true → distinct (map f (keep_if b x (keep p xs))) ≡ true
      go true ih =
          rw (is_false (is_in (f x) (map f (keep p xs))) (λ q. clash (among-is_in (f x) (map f xs) (deeper (is_in-among (f x) (map f (keep p xs)) q))) a)) ih
      go false ih = ih
