-- A list without some of its places: what is left of it, and how long it is.
use Rattle.std.specs.Prelude.{ℕ, suc, ◌+◌, ◌≤◌, ◌<◌, Bool, true, false, ◌&&◌, not, List, [], ◌∷◌, ◌++◌, ◌≡◌, refl, leb, ltb, eqb, length, get_or}
use Rattle.std.proofs.Common.{inl, inr, subst, add-zero, arith, eqb-true, leb-true, leb-false, le-leb, lt-ltb, le-ltb}
use Rattle.std.proofs.lemmas.Bool.{eqb-false, lt-leb}
use Rattle.lists.specs.Lists.{any, keep_if, keep, one_if, count_if, is_in, distinct, without}
use Rattle.lists.specs.Choices.{by_bool, is_false, clash, and_intro}
use Rattle.lists.specs.Parts.{keep_if-append}
use Rattle.lists.specs.Counting.{count-all}
use Rattle.lists.specs.Totals.{count-never, count-sum, count-distinct}
use Rattle.lists.specs.Members.{Among, all-intro, any_some, any-intro}

module _ {A : Type 0} where
  pub among-without : (ps : List ℕ) (i : ℕ) (xs : List A) (x : A) → Among x (without ps i xs) → Among x xs
  among-without ps i [] x m = absurd m
  among-without ps i (y ∷ ys) x m = go (among-without ps (suc i) ys x) (not (is_in i ps)) m
    where
      go : (Among x (without ps (suc i) ys) → Among x ys) → (b : Bool) → Among x (keep_if b y (without ps (suc i) ys)) → Among x (y ∷ ys)
      go ih true (inl e) = inl e
      go ih true (inr k) = inr (ih k)
      go ih false k = inr (ih k)

  -- of an element at no removed place, nothing is lost
  pub keep-without : (q : A → Bool) (d : A) (ps : List ℕ) (i : ℕ) (xs : List A)
      → ((k : ℕ) → is_in (i + k) ps ≡ true → q (get_or xs k d) ≡ false) → keep q (without ps i xs) ≡ keep q xs
  keep-without q d ps i [] h = refl
  keep-without q d ps i (y ∷ ys) h =
      go (is_in i ps) refl (keep-without q d ps (suc i) ys (λ k e. h (suc k) (subst (λ (n : ℕ). is_in n ps ≡ true) (omega arith) e)))
    where
      go : (b : Bool) → is_in i ps ≡ b → keep q (without ps (suc i) ys) ≡ keep q ys
          → keep q (keep_if (not b) y (without ps (suc i) ys)) ≡ keep_if (q y) y (keep q ys)
      go true e ih = let r : q y ≡ false = h 0 (subst (λ (n : ℕ). is_in n ps ≡ true) (omega arith) e) in rw r ih
      go false e ih = rw ih

module _ {A : Type 0} where
  -- in two parts
  pub without-append : (ps : List ℕ) (i : ℕ) (xs ys : List A) → without ps i (xs ++ ys) ≡ without ps i xs ++ without ps (i + length xs) ys
  without-append ps i [] ys = rw add-zero
  without-append ps i (x ∷ xs) ys =
      let e : suc i + length xs ≡ i + suc (length xs) = omega arith in
      rw (without-append ps (suc i) xs ys, e) (keep_if-append (not (is_in i ps)) x (without ps (suc i) xs) (without ps (i + suc (length xs)) ys))

  pub without-le : (ps : List ℕ) (i : ℕ) (xs : List A) → length (without ps i xs) ≤ length xs
  without-le ps i [] = omega arith
  without-le ps i (x ∷ xs) = go (not (is_in i ps)) (without-le ps (suc i) xs)
    where
      go : (b : Bool) → length (without ps (suc i) xs) ≤ length xs → length (keep_if b x (without ps (suc i) xs)) ≤ suc (length xs)
      go true h = omega arith
      go false h = omega arith

  pub none-without : (p : A → Bool) (ps : List ℕ) (i : ℕ) (xs : List A) → any p xs ≡ false → any p (without ps i xs) ≡ false
  none-without p ps i xs h = is_false (any p (without ps i xs)) (λ k.
      let (x, m, e) = any_some p (without ps i xs) k in
      clash (any-intro p xs x (among-without ps i xs x m) e) h)

-- ---- length

abbrev inside : ℕ → ℕ → ℕ → Bool
inside i n p = leb i p && ltb p (i + n)

inside-none : (i p : ℕ) → inside i 0 p ≡ false
inside-none i p = by_bool (leb i p) (λ e. let h = leb-true i p e in rw (e, le-ltb p (i + 0) (omega arith))) (λ e. rw e)

inside-suc : (i n p : ℕ) → one_if (inside i (suc n) p) ≡ one_if (eqb i p) + one_if (inside (suc i) n p)
inside-suc i n p =
    by_bool (eqb i p)
    (λ e. let h = eqb-true i p e in rw (e, le-leb i p (omega arith), lt-ltb p (i + suc n) (omega arith), lt-leb (suc i) p (omega arith)))
    (λ e. by_bool (leb i p)
    (λ l. let h = leb-true i p l in let k = eqb-false i p e in let q : i + suc n ≡ suc i + n = omega arith in rw
    (e, l, le-leb (suc i) p (omega arith), q) (omega arith))
    (λ l. let h = leb-false i p l in rw (e, l, lt-leb (suc i) p (omega arith))))

module _ {A : Type 0} where
  count-without : (ps : List ℕ) → distinct ps ≡ true → (i : ℕ) (xs : List A) → length (without ps i xs) + count_if (inside i (length xs)) ps ≡ length xs
  count-without ps h i [] = rw (count-never (inside i 0) (inside-none i) ps)
  count-without ps h i (x ∷ xs) = go (count-without ps h (suc i) xs) (is_in i ps) (count-distinct i ps h)
    where
      go : length (without ps (suc i) xs) + count_if (inside (suc i) (length xs)) ps ≡ length xs → (b : Bool) → count_if (eqb i) ps ≡ one_if b
          → length (keep_if (not b) x (without ps (suc i) xs)) + count_if (inside i (suc (length xs))) ps ≡ suc (length xs)
      go ih true e = let s = count-sum (inside i (suc (length xs))) (eqb i) (inside (suc i) (length xs)) (inside-suc i (length xs)) ps in omega arith
      go ih false e = let s = count-sum (inside i (suc (length xs))) (eqb i) (inside (suc i) (length xs)) (inside-suc i (length xs)) ps in omega arith

  -- different places of a list, removed from it
  pub length_without : (ps : List ℕ) (xs : List A) → distinct ps ≡ true → ((p : ℕ) → Among p ps → p < length xs)
      → length (without ps 0 xs) + length ps ≡ length xs
  length_without ps xs h k =
      let c = count-without ps h 0 xs in
      let a = count-all (inside 0 (length xs)) ps
      (all-intro (inside 0 (length xs)) ps (λ p m. and_intro (le-leb 0 p (omega arith)) (lt-ltb p (0 + length xs) (let l = k p m in omega arith)))) in
      omega arith
