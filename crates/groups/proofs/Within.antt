-- The choices of which the first place is p: they are within p's group, and so many.
use Prim.Native.Nat.{ℕ, zero, suc, ◌+◌, ◌-◌, ◌*◌, ◌/◌, ◌%◌, ◌≤◌, ◌<◌}
use mathlib.Core.Path.{◌≡◌, refl, sym, ap, ◌∙◌}
use mathlib.Core.List.{List, [], ◌∷◌, map}
use native.Mathlib.Omega.{arith}
use borrow.Author.Tests.{eqb-true, eq-eqb}
use lib.Dec.{eqb}
use lib.ListN.{length, get_or, take, drop, length-map}
use Rattle.lists.specs.Choices.{and_intro}
use Rattle.lists.specs.Tests.{same_test}
use Rattle.lists.specs.Keys.{times_in}
use Rattle.lists.specs.Choosing.{choices_from, group_base, choices_in, choices_by_group}
use Rattle.lists.specs.Mapped.{map-take}
use Rattle.lists.specs.Tuples.{each_from, from_start}
use Rattle.lists.specs.Pages.{Paged, paged-map}
use Rattle.lists.specs.Ways.{Used, used-none, used-next, choices-ways}
use Rattle.choices.specs.Widths.{widths_of, Widths, widths-are}
use Rattle.choices.specs.Words.{choice_words}
use Rattle.groups.specs.Groups.{CountedFor, left_in}
use Rattle.groups.specs.Left.{second-left, third-left, fourth-left}

-- ---- numbers that are all shifted

abbrev pub shifted : ℕ → List ℕ → List ℕ
shifted b ts = map (λ u. u + b) ts

eqb-shift : (b x y : ℕ) → eqb (x + b) (y + b) ≡ eqb x y
eqb-shift b x y =
    same_test (eqb (x + b) (y + b)) (eqb x y) (λ h. let q = eqb-true (x + b) (y + b) h in eq-eqb x y (omega arith))
    (λ h. let q = eqb-true x y h in eq-eqb (x + b) (y + b) (omega arith))

widths-shift : (b : ℕ) (ts ls : List ℕ) → length ts ≡ 4 → (k : ℕ) → widths_of (shifted b ts) ls k ≡ widths_of ts ls k
unfolding widths_of
widths-shift b [] ls h k = absurd (omega arith)
widths-shift b (x ∷ []) ls h k = absurd (omega arith)
widths-shift b (x ∷ y ∷ []) ls h k = absurd (omega arith)
widths-shift b (x ∷ y ∷ z ∷ []) ls h k = absurd (omega arith)
widths-shift b (x ∷ y ∷ z ∷ w ∷ []) ls h k =
    rw (eqb-shift b x y, eqb-shift b x z, eqb-shift b y z, eqb-shift b x w, eqb-shift b y w, eqb-shift b z w)
widths-shift b (x ∷ y ∷ z ∷ w ∷ v ∷ r) ls h k = absurd (omega arith)

get_or-shift : (b : ℕ) (xs : List ℕ) (j : ℕ) → j < length xs → get_or (shifted b xs) j 0 ≡ get_or xs j 0 + b
get_or-shift b [] j h = absurd (omega arith)
get_or-shift b (x ∷ xs) zero h = refl
get_or-shift b (x ∷ xs) (suc j) h = get_or-shift b xs j (omega arith)

-- ---- one first place

-- the choices from place p on
abbrev pub groups_from : List ℕ → ℕ → List ℕ → ℕ → List (List ℕ)
groups_from ks t ts p = each_from (choices_in ks t ts) (λ p. eqb (get_or ks p 0 % 512) t) (length ks) p

module _ (ks : List ℕ) (t : ℕ) (ts : List ℕ) (k : ℕ) (four : length ts ≡ 3) (some : 1 ≤ k) (most : k ≤ 4) where
  abbrev takes : List ℕ
  takes = t ∷ ts

  abbrev rest : List ℕ
  rest = take (k - 1) ts

  front : (xs : List ℕ) (x : ℕ) → take k (x ∷ xs) ≡ x ∷ take (k - 1) xs
  front xs x = let e : k ≡ suc (k - 1) = omega arith in ap (λ (m : ℕ). take m (x ∷ xs)) e

  pub groups-start : choices_by_group ks (take k takes) ≡ groups_from ks t rest 0
  groups-start = rw (front ts t) (sym (from_start (choices_in ks t rest) (λ p. eqb (get_or ks p 0 % 512) t) (length ks)))

  module _ {counts : List ℕ} (counted : CountedFor ks takes counts) (p : ℕ) (low : p < length ks)
      (below : get_or ks p 0 < 524288) (on : get_or ks p 0 % 512 ≡ t) where
    abbrev key : ℕ
    key = get_or ks p 0

    abbrev b : ℕ
    b = group_base ks t p

    abbrev ls : List ℕ
    ls = left_in counts (key / 512)

    base : t + b ≡ key
    base = omega arith

    group : key / 512 < 1024
    group = omega arith

    in_place : (u j : ℕ) → j < 3 → u ≡ get_or ts j 0 → times_in (key / 512 * 512 + u) ks ≡ times_in (get_or (shifted b ts) j 0) ks
    in_place u j l e =
        let s = get_or-shift b ts j (omega arith) in
        let q : key / 512 * 512 + u ≡ get_or (shifted b ts) j 0 = omega arith in
        ap (λ (x : ℕ). times_in x ks) q

    lefts : (j : ℕ) → 1 ≤ j → j < k → get_or ls j 0 ≡ times_in (get_or (shifted b takes) j 0) ks
    lefts zero l u = absurd (omega arith)
    lefts (suc zero) l u = second-left counted (key / 512) group ∙ in_place _ 0 (omega arith) refl
    lefts (suc (suc zero)) l u = third-left counted (key / 512) group ∙ in_place _ 1 (omega arith) refl
    lefts (suc (suc (suc zero))) l u = fourth-left counted (key / 512) group ∙ in_place _ 2 (omega arith) refl
    lefts (suc (suc (suc (suc j)))) l u = absurd (omega arith)

    abbrev ws : List ℕ
    ws = widths_of takes ls k

    -- what `fill` asks, of the numbers within the group
    pub widths-within : Widths (λ u. times_in u ks) (take k (shifted b takes)) ws
    widths-within =
        let whole : length takes ≡ 4 = omega arith in
        rw (← widths-shift b takes ls whole k) (widths-are (λ u. times_in u ks) (shifted b takes) ls (length-map takes (λ u. u + b) ∙ whole) k some most lefts)

    pub used-within : Used ks ((t + b) ∷ []) (p ∷ [])
    used-within =
        used-next ks [] [] (t + b) p low (and_intro (eq-eqb (get_or ks p 0) (t + b) (sym base)) refl) (used-none ks)

    within : take k (shifted b takes) ≡ (t + b) ∷ shifted b rest
    within = sym (map-take (λ u. u + b) k takes) ∙ ap (shifted b) (front ts t)

    pub rest-within : drop 1 (take k (shifted b takes)) ≡ shifted b rest
    rest-within = ap (drop 1) within

    pub width-within : length (choices_in ks t rest p) ≡ get_or ws 0 0
    width-within =
        let l : 0 < length (take k (shifted b takes)) = rw within (omega arith) in
        length-map (choices_from ks (p ∷ []) (shifted b rest)) (λ c. p ∷ c)
        ∙ choices-ways ks (shifted b rest) ((t + b) ∷ []) (p ∷ []) used-within
        ∙ sym (widths-within.below 0 l ∙ rw within)

    -- what it wrote
    pub paged-within : {head first count at m : ℕ} {before after : List ℕ}
        → Paged (choice_words head (p ∷ 0 ∷ 0 ∷ 0 ∷ []) 1) 5 (choices_from ks (p ∷ []) (drop 1 (take k (shifted b takes)))) first count at before after m
        → Paged (choice_words head (0 ∷ 0 ∷ 0 ∷ 0 ∷ []) 0) 5 (choices_in ks t rest p) first count at before after m
    paged-within {head} {first} {count} {at} {m} {before} {after} w =
        paged-map (λ c. p ∷ c) (choice_words head (0 ∷ 0 ∷ 0 ∷ 0 ∷ []) 0) 5 (choices_from ks (p ∷ []) (shifted b rest)) first count at before after m
        (rw rest-within at w)

-- ---- as the code has the numbers, four in an array
abbrev pub rest_of : List ℕ → ℕ → List ℕ
rest_of takes k = take (k - 1) (drop 1 takes)

abbrev pub no_picks : List ℕ
no_picks = 0 ∷ 0 ∷ 0 ∷ 0 ∷ []

pub record InGroup (ks takes : List ℕ) (k p : ℕ) (ws : List ℕ) : Type 0 where
  pub widths : Widths (λ u. times_in u ks) (take k (shifted (group_base ks (get_or takes 0 0) p) takes)) ws
  pub used : Used ks (take 1 (shifted (group_base ks (get_or takes 0 0) p) takes)) (p ∷ [])
  pub width : length (choices_in ks (get_or takes 0 0) (rest_of takes k) p) ≡ get_or ws 0 0
  pub paged : {head first count at m : ℕ} {before after : List ℕ}
      → Paged (choice_words head (p ∷ 0 ∷ 0 ∷ 0 ∷ []) 1) 5
      (choices_from ks (p ∷ []) (drop 1 (take k (shifted (group_base ks (get_or takes 0 0) p) takes)))) first count at before after m
      → Paged (choice_words head no_picks 0) 5 (choices_in ks (get_or takes 0 0) (rest_of takes k) p) first count at before after m

module _ (ks : List ℕ) (k : ℕ) (some : 1 ≤ k) (most : k ≤ 4) where
  pub in_group : (takes : List ℕ) → length takes ≡ 4 → {counts : List ℕ} → CountedFor ks takes counts
      → (p : ℕ) → p < length ks → get_or ks p 0 < 524288 → get_or ks p 0 % 512 ≡ get_or takes 0 0
      → InGroup ks takes k p (widths_of takes (left_in counts (get_or ks p 0 / 512)) k)
  in_group [] h c p l b o = absurd (omega arith)
  in_group (t ∷ ts) h c p l b o =
      let four : length ts ≡ 3 = omega arith in
      record {
        widths = widths-within ks t ts k four some most c p l b o;
        used = used-within ks t ts k four some most c p l b o;
        width = width-within ks t ts k four some most c p l b o;
        paged = paged-within ks t ts k four some most c p l b o;
      }

  pub groups-start-of : (takes : List ℕ) → length takes ≡ 4 → choices_by_group ks (take k takes) ≡ groups_from ks (get_or takes 0 0) (rest_of takes k) 0
  groups-start-of [] h = absurd (omega arith)
  groups-start-of (t ∷ ts) h = groups-start ks t ts k (omega arith) some most

-- ---- what `shifted` computes

pub shifted_as : (b : ℕ) (ts : List ℕ) → length ts ≡ 4
    → (get_or ts 0 0 + b) ∷ (get_or ts 1 0 + b) ∷ (get_or ts 2 0 + b) ∷ (get_or ts 3 0 + b) ∷ [] ≡ shifted b ts
shifted_as b [] h = absurd (omega arith)
shifted_as b (x ∷ []) h = absurd (omega arith)
shifted_as b (x ∷ y ∷ []) h = absurd (omega arith)
shifted_as b (x ∷ y ∷ z ∷ []) h = absurd (omega arith)
shifted_as b (x ∷ y ∷ z ∷ w ∷ []) h = refl
shifted_as b (x ∷ y ∷ z ∷ w ∷ v ∷ r) h = absurd (omega arith)
