-- What stands in `each`, `up_from` and `tuples`.
use Rattle.std.specs.Prelude.{ℕ, zero, suc, ◌+◌, ◌≤◌, ◌<◌, List, [], ◌∷◌, map, ◌⊎◌, ◌≡◌, refl, length}
use Rattle.std.proofs.Common.{inl, inr, ⊎_elim, ap, subst, arith}
use Rattle.lists.specs.Lists.{up_from, each, tuples}
use Rattle.lists.specs.Members.{Among, among-left, among-right, among-append, among-map, map-among}
use Rattle.lists.specs.UpFrom.{up-among}

module _ {A B : Type 0} (f : A → List B) where
  pub among-each : (xs : List A) (y : B) → Among y (each f xs) → (x : A) × Among x xs × Among y (f x)
  among-each [] y m = absurd m
  among-each (x ∷ xs) y m = go (among-append (f x) (each f xs) y m) (among-each xs y)
    where
      go : Among y (f x) ⊎ Among y (each f xs) → (Among y (each f xs) → (z : A) × Among z xs × Among y (f z)) → (z : A) × Among z (x ∷ xs) × Among y (f z)
      go (inl k) ih = (x, inl refl, k)
      go (inr k) ih = let (z, i, j) = ih k in (z, inr i, j)

  pub each-among : (xs : List A) (x : A) (y : B) → Among x xs → Among y (f x) → Among y (each f xs)
  each-among [] x y m k = absurd m
  each-among (z ∷ xs) x y (inl e) k = among-left (f z) (each f xs) y (rw (← e) k)
  each-among (z ∷ xs) x y (inr m) k = among-right (f z) (each f xs) y (each-among xs x y m k)

pub among-up : (i n x : ℕ) → Among x (up_from i n) → (i ≤ x) × (x < i + n)
among-up i zero x m = absurd m
among-up i (suc n) x (inl e) = (omega arith, omega arith)
among-up i (suc n) x (inr m) = let (a, b) = among-up (suc i) n x m in (omega arith, omega arith)

-- ---- tuples

pub among-tuples : (n k : ℕ) (ps : List ℕ) → Among ps (tuples n k) → (length ps ≡ k) × ((p : ℕ) → Among p ps → p < n)
among-tuples n zero ps (inl e) = (ap length e, λ p m. absurd (subst (Among p) e m))
among-tuples n zero ps (inr m) = absurd m
among-tuples n (suc k) ps m =
    let (q, a, b) = among-each (λ q. map (λ qs. q ∷ qs) (tuples n k)) (up_from 0 n) ps m in
    let (qs, c, e) = among-map (λ qs. q ∷ qs) (tuples n k) ps b in
    let (l, f) = among-tuples n k qs c in
    let h : q < n = let r = among-up 0 n q a in omega arith in
    rw e (ap suc l, λ p i. ⊎_elim (λ z. omega arith) (f p) i)

pub tuples-among : (n k : ℕ) (ps : List ℕ) → length ps ≡ k → ((p : ℕ) → Among p ps → p < n) → Among ps (tuples n k)
tuples-among n zero [] l f = inl refl
tuples-among n zero (p ∷ ps) l f = absurd (omega arith)
tuples-among n (suc k) [] l f = absurd (omega arith)
tuples-among n (suc k) (p ∷ ps) l f =
    let h = f p (inl refl) in
    each-among (λ q. map (λ qs. q ∷ qs) (tuples n k)) (up_from 0 n) p (p ∷ ps) (up-among 0 n p (omega arith) (omega arith))
    (map-among (λ qs. p ∷ qs) (tuples n k) ps (tuples-among n k ps (omega arith) (λ q m. f q (inr m))))
