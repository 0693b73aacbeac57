-- A list at the front of a longer one that is otherwise filled with one element, as in an array that a loop fills.
use Rattle.std.specs.Prelude.{ℕ, zero, suc, ◌+◌, ◌-◌, ◌≤◌, ◌<◌, ◌≡◌, refl, List, [], ◌∷◌, ◌++◌, map, length, get_or, take, drop, set, replicate}
use Rattle.std.proofs.Common.{sym, ap, ◌∙◌, append_assoc, add-one, arith, length-append, length-take-le, take-suc, take_at}
use Rattle.std.proofs.lemmas.List.{map-append, length-replicate, length-map, replicate-append-replicate, set_at}
use Rattle.std.proofs.Math.Nat.{sub-zero}
use Rattle.std.proofs.Math.Seq.{take-append_seam, take-append-add}
use Rattle.lists.specs.Each.{All}

module _ {A : Type 0} where
  -- xs, then d up to n elements
  abbrev pub padded : ℕ → A → List A → List A
  padded n d xs = xs ++ replicate (n - length xs) d

  pub length-padded : (n : ℕ) (d : A) (xs : List A) → length xs ≤ n → length (padded n d xs) ≡ n
  length-padded n d xs h = omega (arith, length-append xs (replicate (n - length xs) d), length-replicate (n - length xs) d)

  pub padded-none : (n : ℕ) (d : A) → replicate n d ≡ padded n d []
  padded-none n d = rw sub-zero

  -- the next element is written over the first d
  pub padded-more : (n : ℕ) (d : A) (xs : List A) (x : A) → length xs < n → set (padded n d xs) (length xs) x ≡ padded n d (xs ++ (x ∷ []))
  padded-more n d xs x h =
      let l : length (xs ++ (x ∷ [])) ≡ length xs + 1 = length-append xs (x ∷ []) in
      let e : n - length xs ≡ suc (n - (length xs + 1)) = omega arith in
      rw (e, set_at xs d (replicate (n - (length xs + 1)) d) x (length xs) refl, l, append_assoc)

  pub take-padded : (n : ℕ) (d : A) (xs : List A) → take (length xs) (padded n d xs) ≡ xs
  take-padded n d xs = take-append_seam xs (replicate (n - length xs) d)

  -- the same, cut from more than enough
  pub padded-cut : (n : ℕ) (d : A) (xs : List A) → length xs ≤ n → padded n d xs ≡ take n (xs ++ replicate n d)
  padded-cut n d xs h =
      let m = n - length xs in
      let e : length xs + m ≡ n = omega arith in
      let f : m + length xs ≡ n = omega arith in
      let front : take m (replicate n d) ≡ replicate m d =
      ap (λ (k : ℕ). take m (replicate k d)) (sym f)
      ∙ ap (take m) (sym (replicate-append-replicate m (length xs) d))
      ∙ take_at (replicate m d) (replicate (length xs) d) m (length-replicate m d) in
      sym (ap (λ (k : ℕ). take k (xs ++ replicate n d)) (sym e) ∙ take-append-add xs (replicate n d) m ∙ ap (λ (l : List A). xs ++ l) front)

  -- a list of n whose elements from place u on are d, from its first u
  pub cut-back : (d : A) (u n k : ℕ) (l : List A) → n ≤ k → length l ≡ n → All (λ x. x ≡ d) (drop u l) → take n (take u l ++ replicate k d) ≡ l
  cut-back d u zero k [] h e z = refl
  cut-back d u zero k (x ∷ l) h e z = absurd (omega arith)
  cut-back d u (suc n) k [] h e z = absurd (omega arith)
  cut-back d zero (suc n) zero (x ∷ l) h e z = absurd (omega arith)
  cut-back d zero (suc n) (suc k) (x ∷ l) h e z = λ j. sym z.0 j ∷ cut-back d zero n k l (omega arith) (omega arith) z.1 j
  cut-back d (suc u) (suc n) k (x ∷ l) h e z = ap (λ (m : List A). x ∷ m) (cut-back d u n k l (omega arith) (omega arith) z)

  pub get_or-replicate-any : (n i : ℕ) (d : A) → get_or (replicate n d) i d ≡ d
  get_or-replicate-any zero i d = refl
  get_or-replicate-any (suc n) zero d = refl
  get_or-replicate-any (suc n) (suc i) d = get_or-replicate-any n i d

  get_or-followed : (xs : List A) (m i : ℕ) (d : A) → get_or (xs ++ replicate m d) i d ≡ get_or xs i d
  get_or-followed [] m i d = get_or-replicate-any m i d
  get_or-followed (x ∷ xs) m zero d = refl
  get_or-followed (x ∷ xs) m (suc i) d = get_or-followed xs m i d

  -- what is read past the list is d anyway
  pub get_or-padded : (n : ℕ) (d : A) (xs : List A) (i : ℕ) → get_or (padded n d xs) i d ≡ get_or xs i d
  get_or-padded n d xs i = get_or-followed xs (n - length xs) i d

map-replicate : {A B : Type 0} (f : A → B) (n : ℕ) (d : A) → map f (replicate n d) ≡ replicate n (f d)
map-replicate f zero d = refl
map-replicate f (suc n) d = ap (λ l. f d ∷ l) (map-replicate f n d)

pub map-padded : {A B : Type 0} (f : A → B) (n : ℕ) (d : A) (xs : List A) → map f (padded n d xs) ≡ padded n (f d) (map f xs)
map-padded f n d xs = rw (map-append, map-replicate, length-map)

-- a loop that fills the front with f of another list's elements
pub fill-padded : {A B : Type 0} (f : A → B) (xs : List A) (n i : ℕ) (d : B) (x : A) → i < length xs → i < n → {ys : List B}
    → ys ≡ padded n d (map f (take i xs))
    → set ys i (f (get_or xs i x)) ≡ padded n d (map f (take (i + 1) xs))
fill-padded {B = B} f xs n i d x h k e =
    let done = map f (take i xs) in
    let l : length done ≡ i = length-map (take i xs) f ∙ length-take-le i xs (omega arith) in
    let low : length done < n = omega arith in
    let more : map f (take (i + 1) xs) ≡ done ++ (f (get_or xs i x) ∷ []) = rw (add-one, take-suc xs i x h, map-append) in
    ap (λ (l : List B). set l i (f (get_or xs i x))) e
    ∙ ap (λ (j : ℕ). set (padded n d done) j (f (get_or xs i x))) (sym l)
    ∙ padded-more n d done (f (get_or xs i x)) low
    ∙ ap (padded n d) (sym more)
