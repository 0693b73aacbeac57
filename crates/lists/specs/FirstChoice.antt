-- The first choice of places, told without the list: the first free place decides, for how many choices there are behind a place goes by counts alone.
-- And where too few places have a number there is no choice.
use Rattle.std.specs.Prelude.{ℕ, ◌+◌, ◌-◌, ◌*◌, ◌%◌, ◌≤◌, ◌<◌, Bool, true, false, List, [], ◌∷◌, ◌++◌, map, ◌≡◌, refl, eqb, leb, length, get_or, take}
use Rattle.std.proofs.lemmas.List.{map-append, length-map}
use Rattle.std.proofs.Common.{sym, ap, ◌∙◌, mul-zero, zero-mul, mul-le-mul, arith, eqb-true, eq-eqb, leb-true, leb-false}
use Rattle.std.proofs.Math.Path.{fun_ext}
use Rattle.std.proofs.Math.Seq.{append_snoc}
use Rattle.lists.specs.Lists.{keep, up_from, one_if, count_if, each}
use Rattle.lists.specs.Choices.{by_bool, and_intro}
use Rattle.lists.specs.Tests.{same_test}
use Rattle.lists.specs.Each.{All, All-keep, keep-none}
use Rattle.lists.specs.Counting.{count-weaker, count_map}
use Rattle.lists.specs.UpFrom.{up-each}
use Rattle.lists.specs.Mapped.{map-map, map-take}
use Rattle.lists.specs.Keys.{times_in, times_none, times-append, times-one}
use Rattle.lists.specs.Tuples.{each_from, from_start, from-skip, from-here}
use Rattle.lists.specs.Choosing.{is_free, choices_from, group_base, choices_in, choices_by_group}
use Rattle.lists.specs.Ways.{ways, Used, used-none, used-next, choices-ways}

pub length-nil : {A : Type 0} (xs : List A) → length xs ≡ 0 → xs ≡ []
length-nil [] h = refl
length-nil (x ∷ xs) h = absurd (omega arith)

-- ---- the first free place

-- the choices, with the places used so far in front
abbrev pub choices_after : List ℕ → List ℕ → List ℕ → List (List ℕ)
choices_after ks used ts = map (λ c. used ++ c) (choices_from ks used ts)

pub no_place : (ks used : List ℕ) (t : ℕ) (ts : List ℕ) → ((j : ℕ) → j < length ks → is_free ks used t j ≡ false) → choices_from ks used (t ∷ ts) ≡ []
no_place ks used t ts h =
    let none = up-each (λ j. is_free ks used t j ≡ false) 0 (length ks) (λ j l u. h j (omega arith)) in
    rw (keep-none (is_free ks used t) (up_from 0 (length ks)) none)

-- where the first part is empty only if all is
front-first : {A : Type 0} (xs ys zs : List A) → zs ≡ xs ++ ys → (xs ≡ [] → zs ≡ []) → take 1 zs ≡ take 1 xs
front-first [] ys zs e n = ap (take 1) (n refl)
front-first (x ∷ xs) ys zs e n = ap (take 1) e

module _ (ks earlier used : List ℕ) (t : ℕ) (ts : List ℕ) (p : ℕ) (h : Used ks earlier used) (low : p < length ks)
    (free : is_free ks used t p ≡ true) (first : (j : ℕ) → j < p → is_free ks used t j ≡ false) where
  abbrev behind : ℕ → List (List ℕ)
  behind x = map (λ c. x ∷ c) (choices_from ks (used ++ x ∷ []) ts)

  parts : choices_from ks used (t ∷ ts) ≡ behind p ++ each_from behind (is_free ks used t) (length ks) (p + 1)
  parts =
      sym (from_start behind (is_free ks used t) (length ks))
      ∙ from-skip behind (is_free ks used t) (length ks) 0 p (omega arith) (omega arith) (λ j a b. first j b)
      ∙ from-here behind (is_free ks used t) (length ks) p low free

  -- behind every place there are as many as behind this one
  none-behind : behind p ≡ [] → choices_from ks used (t ∷ ts) ≡ []
  none-behind e =
      let w = choices-ways ks ts (earlier ++ t ∷ []) (used ++ p ∷ []) (used-next ks earlier used t p low free h) in
      let z : ways (λ t. times_in t ks) (earlier ++ t ∷ []) ts ≡ 0 =
      sym w ∙ sym (length-map (choices_from ks (used ++ p ∷ []) ts) (λ c. p ∷ c)) ∙ ap length e in
      length-nil (choices_from ks used (t ∷ ts)) (choices-ways ks (t ∷ ts) earlier used h ∙ rw z (mul-zero _))

  pub first-place : take 1 (choices_after ks used (t ∷ ts)) ≡ take 1 (choices_after ks (used ++ p ∷ []) ts)
  first-place =
      sym (map-take (λ c. used ++ c) 1 (choices_from ks used (t ∷ ts)))
      ∙ ap (map (λ c. used ++ c)) (front-first (behind p) _ (choices_from ks used (t ∷ ts)) parts none-behind)
      ∙ map-take (λ c. used ++ c) 1 (behind p)
      ∙ ap (take 1) (map-map (λ c. used ++ c) (λ c. p ∷ c) (choices_from ks (used ++ p ∷ []) ts)
      ∙ ap (λ (f : List ℕ → List ℕ). map f (choices_from ks (used ++ p ∷ []) ts)) (fun_ext (λ c. sym (append_snoc used p c))))

-- a place alone has used its own key
pub used-first : (ks : List ℕ) (p : ℕ) → p < length ks → Used ks (get_or ks p 0 ∷ []) (p ∷ [])
used-first ks p low = used-next ks [] [] (get_or ks p 0) p low (and_intro (eq-eqb (get_or ks p 0) (get_or ks p 0) refl) refl) (used-none ks)

-- ---- too few places

times-cons : (p t : ℕ) (ts : List ℕ) → times_in p (t ∷ ts) ≡ one_if (eqb t p) + times_in p ts
times-cons p t ts = times-append p (t ∷ []) ts ∙ ap (λ (x : ℕ). x + times_in p ts) (times-one p t)

-- a number is wanted more often than it has places
ways-short : (count : ℕ → ℕ) (p : ℕ) (earlier ts : List ℕ) → times_in p earlier ≤ count p → count p < times_in p earlier + times_in p ts
    → ways count earlier ts ≡ 0
ways-short count p earlier [] l h = absurd (omega (arith, times_none p))
ways-short count p earlier (t ∷ ts) l h =
    by_bool (leb (times_in p (earlier ++ t ∷ [])) (count p))
    (λ e. rw (ways-short count p (earlier ++ t ∷ []) ts (leb-true (times_in p (earlier ++ t ∷ [])) (count p) e) (omega (arith, here, times-cons p t ts)))
    (mul-zero _))
    (λ e. by_bool (eqb t p) (last (leb-false (times_in p (earlier ++ t ∷ [])) (count p) e)) (other (leb-false (times_in p (earlier ++ t ∷ [])) (count p) e)))
  where
    here : times_in p (earlier ++ t ∷ []) ≡ times_in p earlier + one_if (eqb t p)
    here = times-append p earlier (t ∷ []) ∙ ap (λ (x : ℕ). times_in p earlier + x) (times-one p t)

    last : count p < times_in p (earlier ++ t ∷ []) → eqb t p ≡ true → (count t - times_in t earlier) * ways count (earlier ++ t ∷ []) ts ≡ 0
    last k e =
        let q = eqb-true t p e in
        let o : one_if (eqb t p) ≡ 1 = rw e in
        let z : count p - times_in p earlier ≡ 0 = omega (arith, here) in
        rw (q, z) (zero-mul _)

    other : count p < times_in p (earlier ++ t ∷ []) → eqb t p ≡ false → (count t - times_in t earlier) * ways count (earlier ++ t ∷ []) ts ≡ 0
    other k e = let o : one_if (eqb t p) ≡ 0 = rw e in absurd (omega (arith, here))

used-short : (ks earlier used : List ℕ) (p : ℕ) (ts : List ℕ) → Used ks earlier used → times_in p ks < times_in p earlier + times_in p ts
    → choices_from ks used ts ≡ []
used-short ks earlier used p ts h l =
    length-nil (choices_from ks used ts)
    (choices-ways ks ts earlier used h ∙ ways-short (λ t. times_in t ks) p earlier ts (omega (arith, h.free p)) l)

-- numbers that are all raised by b
times-raised : (b p : ℕ) (ts : List ℕ) → times_in (p + b) (map (λ u. u + b) ts) ≡ times_in p ts
unfolding times_in
times-raised b p ts =
    count_map (λ u. u + b) (λ x. eqb x (p + b)) ts
    ∙ ap (λ (f : ℕ → Bool). count_if f ts) (fun_ext (λ x. same_test (eqb (x + b) (p + b)) (eqb x p)
    (λ h. let q = eqb-true (x + b) (p + b) h in eq-eqb x p (omega arith)) (λ h. let q = eqb-true x p h in eq-eqb (x + b) (p + b) (omega arith))))

-- a key has its number, whichever its group
times-on : (p b : ℕ) (ks : List ℕ) → p < 512 → b % 512 ≡ 0 → times_in (p + b) ks ≤ count_if (λ key. eqb (key % 512) p) ks
unfolding times_in
times-on p b ks l m =
    count-weaker (λ x. eqb x (p + b)) (λ x. eqb (x % 512) p) (λ x e. let q = eqb-true x (p + b) e in eq-eqb (x % 512) p (omega arith)) ks

each_none : {A B : Type 0} (f : A → List B) (xs : List A) → All (λ x. f x ≡ []) xs → each f xs ≡ []
each_none f [] h = refl
each_none f (x ∷ xs) h = rw (h.0, each_none f xs h.1)

module _ (ks : List ℕ) (p : ℕ) (low : p < 512) where
  short-in : (t : ℕ) (ts : List ℕ) → count_if (λ key. eqb (key % 512) p) ks < times_in p (t ∷ ts) → (x : ℕ) → x < length ks → get_or ks x 0 % 512 ≡ t
      → choices_in ks t ts x ≡ []
  short-in t ts h x l on =
      let b = group_base ks t x in
      let base : get_or ks x 0 ≡ t + b = omega arith in
      let m : b % 512 ≡ 0 = omega arith in
      let r = times-raised b p (t ∷ ts) in
      let s = times-append (p + b) ((t + b) ∷ []) (map (λ u. u + b) ts) in
      let u : Used ks ((t + b) ∷ []) (x ∷ []) = rw (← base) (used-first ks x l) in
      ap (map (λ c. x ∷ c)) (used-short ks ((t + b) ∷ []) (x ∷ []) (p + b) (map (λ u. u + b) ts) u (omega (arith, times-on p b ks low m)))

  -- Fewer keys have the number p than it is wanted: there is no choice, of any group or within one.
  pub too_few : (ts : List ℕ) → count_if (λ key. eqb (key % 512) p) ks < times_in p ts → (choices_from ks [] ts ≡ []) × (choices_by_group ks ts ≡ [])
  too_few ts h = (anywhere, grouped ts h)
    where
      anywhere : choices_from ks [] ts ≡ []
      anywhere =
          let z : p + 0 ≡ p = omega arith in
          let o = times-on p 0 ks low refl in
          used-short ks [] [] p ts (used-none ks) (omega (arith, rw z at o))

      grouped : (ts : List ℕ) → count_if (λ key. eqb (key % 512) p) ks < times_in p ts → choices_by_group ks ts ≡ []
      grouped [] h = absurd (omega (arith, times_none p))
      grouped (t ∷ ts) h =
          each_none (choices_in ks t ts) (keep (λ x. eqb (get_or ks x 0 % 512) t) (up_from 0 (length ks)))
          (All-keep _ (λ x. eqb (get_or ks x 0 % 512) t) (up_from 0 (length ks))
          (up-each _ 0 (length ks) (λ x l u e. short-in t ts h x (omega arith) (eqb-true (get_or ks x 0 % 512) t e))))

-- ---- by counts of images, of which each key has at least as many

ways-less : (count more : ℕ → ℕ) → ((u : ℕ) → count u ≤ more u) → (earlier ts : List ℕ) → ways count earlier ts ≤ ways more earlier ts
ways-less count more h earlier [] = omega arith
ways-less count more h earlier (t ∷ ts) = mul-le-mul (omega (arith, h t)) (ways-less count more h (earlier ++ t ∷ []) ts)

ways-raised : (count : ℕ → ℕ) (b : ℕ) (earlier ts : List ℕ)
    → ways count (map (λ u. u + b) earlier) (map (λ u. u + b) ts) ≡ ways (λ u. count (u + b)) earlier ts
ways-raised count b earlier [] = refl
ways-raised count b earlier (t ∷ ts) =
    rw (times-raised b t earlier, ← (ways-raised count b (earlier ++ t ∷ []) ts), map-append)

times-image : (f : ℕ → ℕ) (v : ℕ) (ks : List ℕ) → times_in v ks ≤ times_in (f v) (map f ks)
unfolding times_in
times-image f v ks =
    rw (count_map f (λ x. eqb x (f v)) ks)
    (count-weaker (λ x. eqb x v) (λ x. eqb (f x) (f v)) (λ x e. eq-eqb (f x) (f v) (ap f (eqb-true x v e))) ks)

-- there is none that begins with place x, if there is none by the counts of the images
pub image-short : (f : ℕ → ℕ) (ks : List ℕ) (t : ℕ) (ts : List ℕ) (x : ℕ) → x < length ks → t ≤ get_or ks x 0
    → ways (λ u. times_in (f (u + group_base ks t x)) (map f ks)) (t ∷ []) ts ≡ 0 → choices_in ks t ts x ≡ []
image-short f ks t ts x l low z =
    let b = group_base ks t x in
    let base : get_or ks x 0 ≡ t + b = omega arith in
    let u : Used ks ((t + b) ∷ []) (x ∷ []) = rw (← base) (used-first ks x l) in
    let w = choices-ways ks (map (λ u. u + b) ts) ((t + b) ∷ []) (x ∷ []) u in
    let r = ways-raised (λ v. times_in v ks) b (t ∷ []) ts in
    let m = ways-less (λ v. times_in (v + b) ks) (λ v. times_in (f (v + b)) (map f ks)) (λ v. times-image f (v + b) ks) (t ∷ []) ts in
    ap (map (λ c. x ∷ c)) (length-nil (choices_from ks (x ∷ []) (map (λ u. u + b) ts)) (omega (arith, w, r, m, z)))
