-- How many choices of places there are: for each number wanted as many as there are places with it, less those that the same number has used before.
use Rattle.std.specs.Prelude.{ℕ, zero, suc, ◌+◌, ◌-◌, ◌*◌, ◌≤◌, ◌<◌, Bool, true, false, not, ◌&&◌, ◌||◌, List, [], ◌∷◌, ◌++◌, map, ◌≡◌, refl, eqb, length, get_or}
use Rattle.std.proofs.Math.Bool.{and-true, or-false}
use Rattle.std.proofs.Common.{sym, ap, ◌∙◌, subst, zero-mul, suc-mul, add_comm, arith, eqb-true, eq-eqb, ne_eqb, length-append}
use Rattle.std.proofs.Math.Path.{fun_ext}
use Rattle.std.proofs.lemmas.Bool.{not-true}
use Rattle.std.proofs.lemmas.List.{length-map}
use Rattle.lists.specs.Lists.{keep, is_in, up_from, one_if, count_if, each}
use Rattle.lists.specs.Choices.{by_bool, and_left, and_right}
use Rattle.lists.specs.Tests.{and-right-false}
use Rattle.lists.specs.Each.{All, All-keep, All-map}
use Rattle.lists.specs.Counting.{length-keep}
use Rattle.lists.specs.Totals.{count-sum}
use Rattle.lists.specs.UpFrom.{count-places}
use Rattle.lists.specs.Keys.{times_in, times-append, times-one}
use Rattle.lists.specs.Choosing.{is_free, choices_from}

-- `count` says how many places a number has
abbrev pub ways : (ℕ → ℕ) → List ℕ → List ℕ → ℕ
ways count earlier [] = 1
ways count earlier (t ∷ ts) = (count t - times_in t earlier) * ways count (earlier ++ t ∷ []) ts

-- ---- counts of places

count_past : (b : Bool) (p i n : ℕ) → p < i → count_if (λ x. b && eqb x p) (up_from i n) ≡ 0
count_past b p i zero h = refl
count_past b p i (suc n) h =
    let e = and-right-false b (ne_eqb i p (λ q. omega arith)) in
    let r = count_past b p (suc i) n (omega arith) in
    rw (e, r)

count-here : (b : Bool) (p i n : ℕ) → i ≤ p → p < i + n → count_if (λ x. b && eqb x p) (up_from i n) ≡ one_if b
count-here b p i zero l u = absurd (omega arith)
count-here b p i (suc n) l u = by_bool (eqb i p) first (later (λ h. count-here b p (suc i) n h (omega arith)))
  where
    first : eqb i p ≡ true → one_if (b && eqb i p) + count_if (λ x. b && eqb x p) (up_from (suc i) n) ≡ one_if b
    first e =
        let q = eqb-true i p e in
        let r = count_past b p (suc i) n (omega arith) in
        rw (e, and-true, r) (omega arith)

    later : (suc i ≤ p → count_if (λ x. b && eqb x p) (up_from (suc i) n) ≡ one_if b) → eqb i p ≡ false
        → one_if (b && eqb i p) + count_if (λ x. b && eqb x p) (up_from (suc i) n) ≡ one_if b
    later rec e =
        let ne : i ≡ p → ⊥ = λ q. absurd (true≢ (sym (eq-eqb i p q) ∙ e)) in
        let r = rec (omega arith) in
        rw (and-right-false b e, r) (omega arith)
      where
        true≢ : true ≡ false → ⊥
        true≢ q = absurd (omega (arith, ap one_if q))

is_in-more : (x p : ℕ) (used : List ℕ) → is_in x (used ++ p ∷ []) ≡ is_in x used || eqb x p
is_in-more x p [] = or-false (eqb x p)
is_in-more x p (u ∷ us) = go (eqb x u) (is_in-more x p us)
  where
    go : (b : Bool) → is_in x (us ++ p ∷ []) ≡ is_in x us || eqb x p → b || is_in x (us ++ p ∷ []) ≡ (b || is_in x us) || eqb x p
    go true h = refl
    go false h = h

-- one place more is used: one less where its number is asked for
fits-lower : (ks used : List ℕ) (p t : ℕ) → get_or ks p 0 ≡ t → is_in p used ≡ false → (u x : ℕ)
    → one_if (is_free ks used u x) ≡ one_if (is_free ks (used ++ p ∷ []) u x) + one_if (eqb t u && eqb x p)
fits-lower ks used p t e a u x = by_bool (eqb x p) here other
  where
    here : eqb x p ≡ true → one_if (is_free ks used u x) ≡ one_if (is_free ks (used ++ p ∷ []) u x) + one_if (eqb t u && eqb x p)
    here q =
        let h = eqb-true x p q in
        let m : is_in p (used ++ p ∷ []) ≡ true = is_in-more p p used ∙ rw (a, eq-eqb p p refl) in
        rw (h, m, a, e, eq-eqb p p refl, and-right-false (eqb t u) refl) (omega arith)

    other : eqb x p ≡ false → one_if (is_free ks used u x) ≡ one_if (is_free ks (used ++ p ∷ []) u x) + one_if (eqb t u && eqb x p)
    other q = rw (is_in-more x p used, q, or-false, and-right-false (eqb t u) refl) (omega arith)

-- The places still free for each number t: those with t, less those that the numbers wanted before have used.
pub record Used (ks earlier used : List ℕ) : Type 0 where
  pub free : (t : ℕ) → count_if (is_free ks used t) (up_from 0 (length ks)) + times_in t earlier ≡ times_in t ks

pub used-none : (ks : List ℕ) → Used ks [] []
unfolding times_in
used-none ks = record { free = λ t. omega (arith, none t) }
  where
    none : (t : ℕ) → count_if (is_free ks [] t) (up_from 0 (length ks)) ≡ count_if (λ x. eqb x t) ks
    none t =
        ap (λ (p : ℕ → Bool). count_if p (up_from 0 (length ks))) (fun_ext (λ x. and-true (eqb (get_or ks x 0) t))) ∙ count-places 0 (λ x. eqb x t) ks

pub used-next : (ks earlier used : List ℕ) (t p : ℕ) → p < length ks → is_free ks used t p ≡ true → Used ks earlier used
    → Used ks (earlier ++ t ∷ []) (used ++ p ∷ [])
used-next ks earlier used t p low f h = record { free = free }
  where
    free : (u : ℕ) → count_if (is_free ks (used ++ p ∷ []) u) (up_from 0 (length ks)) + times_in u (earlier ++ t ∷ []) ≡ times_in u ks
    free u =
        let e = eqb-true (get_or ks p 0) t (and_left (eqb (get_or ks p 0) t) (not (is_in p used)) f) in
        let a = not-true (is_in p used) (and_right (eqb (get_or ks p 0) t) (not (is_in p used)) f) in
        let s =
        count-sum (is_free ks used u) (is_free ks (used ++ p ∷ []) u) (λ x. eqb t u && eqb x p) (fits-lower ks used p t e a u) (up_from 0 (length ks)) in
        let c = count-here (eqb t u) p 0 (length ks) (omega arith) (omega arith) in
        omega (arith, s, c, h.free u, times-append u earlier (t ∷ []), times-one u t)

-- lists of one length for each element
each-const : {A B : Type 0} (g : A → List B) (w : ℕ) (xs : List A) → All (λ x. length (g x) ≡ w) xs → length (each g xs) ≡ length xs * w
each-const g w [] a = sym (zero-mul w)
each-const g w (x ∷ xs) a =
    let r = each-const g w xs a.1 in
    rw (length-append, suc-mul, r, a.0) (add_comm _ _)

places-below : (i n : ℕ) → All (λ p. p < i + n) (up_from i n)
places-below i zero = tt
places-below i (suc n) = (omega arith, subst (λ (k : ℕ). All (λ p. p < k) (up_from (suc i) n)) (omega arith) (places-below (suc i) n))

pub choices-ways : (ks : List ℕ) (ts earlier used : List ℕ) → Used ks earlier used → length (choices_from ks used ts) ≡ ways (λ t. times_in t ks) earlier ts
choices-ways ks [] earlier used h = refl
choices-ways ks (t ∷ ts) earlier used h =
    each-const (λ p. map (λ c. p ∷ c) (choices_from ks (used ++ p ∷ []) ts)) (ways (λ t. times_in t ks) (earlier ++ t ∷ []) ts)
    (keep (is_free ks used t) (up_from 0 (length ks)))
    (All-keep _ (is_free ks used t) (up_from 0 (length ks))
    (All-map {P = λ p. p < 0 + length ks} (λ p l f. length-map (choices_from ks (used ++ p ∷ []) ts) (λ c. p ∷ c)
    ∙ choices-ways ks ts (earlier ++ t ∷ []) (used ++ p ∷ []) (used-next ks earlier used t p (omega arith) f h))
    (up_from 0 (length ks)) (places-below 0 (length ks))))
    ∙ ap (λ (k : ℕ). k * ways (λ t. times_in t ks) (earlier ++ t ∷ []) ts) (length-keep (is_free ks used t) (up_from 0 (length ks)) ∙ omega (arith, h.free t))
