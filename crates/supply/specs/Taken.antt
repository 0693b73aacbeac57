-- How many elements have q, of a list without some places and at those places.
use Rattle.std.specs.Prelude.{ℕ, zero, suc, ◌+◌, ◌<◌, Bool, true, false, ◌&&◌, ◌||◌, not, List, [], ◌∷◌, map, ◌≡◌, refl, eqb, length, get_or}
use Rattle.std.proofs.Common.{sym, ap, ◌∙◌, add-zero, zero-add, arith, eqb-true, eq-eqb, ne_eqb}
use Rattle.lists.specs.Lists.{keep_if, one_if, count_if, is_in, distinct, without}
use Rattle.lists.specs.Choices.{by_bool}
use Rattle.lists.specs.Counting.{count_map}
use Rattle.lists.specs.Each.{count_same}
use Rattle.lists.specs.Members.{Among}
use Rattle.lists.specs.Splits.{All-every}
use Rattle.lists.specs.Totals.{count-never, count-sum, count-distinct}

module _ {A : Type 0} (q : A → Bool) where
  -- at place p stands an element that has q; the first has the place i
  abbrev hit : ℕ → List A → ℕ → Bool
  hit i [] p = false
  hit i (x ∷ xs) p = q x && eqb i p || hit (suc i) xs p

  hit-early : (i : ℕ) (xs : List A) (p : ℕ) → p < i → hit i xs p ≡ false
  hit-early i [] p l = refl
  hit-early i (x ∷ xs) p l = rw (ne_eqb i p (λ e. omega arith), hit-early (suc i) xs p (omega arith)) (none (q x))
    where
      none : (b : Bool) → b && false || false ≡ false
      none true = refl
      none false = refl

  hit-more : (i : ℕ) (x : A) (xs : List A) (p : ℕ) → one_if (hit i (x ∷ xs) p) ≡ one_if (q x && eqb i p) + one_if (hit (suc i) xs p)
  hit-more i x xs p = by_bool (eqb i p)
      (λ e. let h = eqb-true i p e in rw (e, hit-early (suc i) xs p (omega arith)) (here (q x)))
      (λ e. rw e (later (q x) (hit (suc i) xs p)))
    where
      here : (b : Bool) → one_if (b && true || false) ≡ one_if (b && true) + 0
      here true = refl
      here false = refl

      later : (b c : Bool) → one_if (b && false || c) ≡ one_if (b && false) + one_if c
      later true c = omega arith
      later false c = omega arith

  hit-here : (d : A) (xs : List A) (i k : ℕ) → k < length xs → hit i xs (i + k) ≡ q (get_or xs k d)
  hit-here d [] i k l = absurd (omega arith)
  hit-here d (x ∷ xs) i zero l = rw (add-zero i, eq-eqb i i refl, hit-early (suc i) xs i (omega arith)) (whole (q x))
    where
      whole : (b : Bool) → b && true || false ≡ b
      whole true = refl
      whole false = refl
  hit-here d (x ∷ xs) i (suc k) l =
      let e : i + suc k ≡ suc i + k = omega arith in
      rw (ne_eqb i (i + suc k) (λ h. omega arith)) (none (q x) (ap (hit (suc i) xs) e ∙ hit-here d xs (suc i) k (omega arith)))
    where
      none : (b : Bool) {c e : Bool} → c ≡ e → b && false || c ≡ e
      none true h = h
      none false h = h

  module _ (ps : List ℕ) (different : distinct ps ≡ true) where
    once : (i : ℕ) (b : Bool) → count_if (λ p. b && eqb i p) ps ≡ one_if (b && is_in i ps)
    once i true = count-distinct i ps different
    once i false = count-never (λ p. false) (λ p. refl) ps

    taken-from : (i : ℕ) (xs : List A) → count_if q (without ps i xs) + count_if (hit i xs) ps ≡ count_if q xs
    taken-from i [] = rw (count-never (λ p. false) (λ p. refl) ps)
    taken-from i (x ∷ xs) =
        go (q x) (is_in i ps) refl (taken-from (suc i) xs) (once i (q x))
        (count-sum (hit i (x ∷ xs)) (λ p. q x && eqb i p) (hit (suc i) xs) (hit-more i x xs) ps)
      where
        go : (b c : Bool) → q x ≡ b → count_if q (without ps (suc i) xs) + count_if (hit (suc i) xs) ps ≡ count_if q xs
            → count_if (λ p. q x && eqb i p) ps ≡ one_if (b && c)
            → count_if (hit i (x ∷ xs)) ps ≡ count_if (λ p. q x && eqb i p) ps + count_if (hit (suc i) xs) ps
            → count_if q (keep_if (not c) x (without ps (suc i) xs)) + count_if (hit i (x ∷ xs)) ps ≡ one_if b + count_if q xs
        go true true e ih one sum = omega arith
        go true false e ih one sum = let h : one_if (q x) ≡ 1 = ap one_if e in omega arith
        go false true e ih one sum = omega arith
        go false false e ih one sum = let h : one_if (q x) ≡ 0 = ap one_if e in omega arith

    pub count-removed : (d : A) (xs : List A) → ((p : ℕ) → Among p ps → p < length xs)
        → count_if q (without ps 0 xs) + count_if q (map (λ p. get_or xs p d) ps) ≡ count_if q xs
    count-removed d xs within =
        let images = count_map (λ p. get_or xs p d) q ps in
        let same = count_same (hit 0 xs) (λ p. q (get_or xs p d)) ps
        (All-every (λ p. hit 0 xs p ≡ q (get_or xs p d)) ps (λ p m. ap (hit 0 xs) (sym (zero-add p)) ∙ hit-here d xs 0 p (within p m))) in
        omega (arith, taken-from 0 xs)
