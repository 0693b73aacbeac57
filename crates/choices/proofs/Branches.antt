-- The choices of one level: branch by branch, one for each place that can be picked.
use Prim.Native.Nat.{ℕ, suc, ◌+◌, ◌≤◌, ◌<◌}
use mathlib.Core.Path.{◌≡◌, refl, sym, ap, ◌∙◌, subst}
use mathlib.Core.Bool.{Bool, true, not}
use mathlib.Core.List.{List, [], ◌∷◌, ◌++◌, map}
use native.Mathlib.Nat.{min-le_left}
use native.Mathlib.Numerals.{add-one}
use native.Mathlib.Omega.{arith}
use borrow.Author.Tests.{eq-eqb, ne_eqb}
use lib.ListN.{length, get_or, take, drop, set, length-map, length-take, drop_of_length-le}
use lib.Seq.{sets, length-take-le, get_or-take, take-suc-set, take-suc, take-take}
use Rattle.lists.specs.Tuples.{each_from, from_start, from-skip}
use Rattle.lists.specs.Lists.{is_in}
use Rattle.lists.specs.Prefix.{prefix-tails}
use Rattle.lists.specs.Keys.{times_in}
use Rattle.lists.specs.Choosing.{is_free, choices_from}
use Rattle.lists.specs.Pages.{Paged, paged-map, paged-past, paged-one, paged-same}
use Rattle.lists.specs.Ways.{Used, used-next, choices-ways}
use Rattle.choices.specs.Widths.{Widths}
use Rattle.choices.specs.Words.{choice_words}
use Rattle.choices.specs.Next.{NextKey}

-- the choices that begin with place p, and those that begin with a place from p on
abbrev pub branch : List ℕ → List ℕ → List ℕ → ℕ → List (List ℕ)
branch ks used ts p = map (λ c. p ∷ c) (choices_from ks (used ++ p ∷ []) ts)

abbrev pub branches_from : List ℕ → List ℕ → ℕ → List ℕ → ℕ → List (List ℕ)
branches_from ks used t ts p = each_from (branch ks used ts) (is_free ks used t) (length ks) p

pub branches-start : (ks used : List ℕ) (t : ℕ) (ts us : List ℕ) → us ≡ t ∷ ts → choices_from ks used us ≡ branches_from ks used t ts 0
branches-start ks used t ts us e = rw e (sym (from_start (branch ks used ts) (is_free ks used t) (length ks)))

-- at level i of the code, where the first k of `wanted` are wanted
module _ (ks wanted picks : List ℕ) (k i : ℕ) (few : k ≤ length wanted) (low : i < k) where
  abbrev t : ℕ
  t = get_or wanted i 0

  abbrev rest : List ℕ
  rest = drop (i + 1) (take k wanted)

  pub level : drop i (take k wanted) ≡ t ∷ rest
  level = (prefix-tails 0 wanted k few).more i low

  module _ (u : Used ks (take i wanted) (take i picks)) (p : ℕ) (h : p < length ks) (e : is_free ks (take i picks) t p ≡ true) (four : i < length picks) where
    next-used : Used ks (take i wanted ++ t ∷ []) (take i picks ++ p ∷ [])
    next-used = used-next ks (take i wanted) (take i picks) t p h e u

    more : take (i + 1) wanted ≡ take i wanted ++ t ∷ []
    more = let l : i < length wanted = omega arith in rw add-one (take-suc wanted i 0 l)

    picked : take (i + 1) (set picks i p) ≡ take i picks ++ p ∷ []
    picked = rw add-one (take-suc-set picks i p four)

    pub used-below : Used ks (take (i + 1) wanted) (take (i + 1) (set picks i p))
    used-below = rw (more, picked) next-used

    pub branch-width : {ws : List ℕ} → Widths (λ t. times_in t ks) (take k wanted) ws → length (branch ks (take i picks) rest p) ≡ get_or ws i 0
    branch-width w =
        let within : i < length (take k wanted) = rw (length-take-le k wanted few) low in
        let f : take (suc i) (take k wanted) ≡ take i wanted ++ t ∷ [] =
        take-take (suc i) k wanted low ∙ sym (ap (λ (x : ℕ). take x wanted) (add-one i)) ∙ more in
        let g : drop (suc i) (take k wanted) ≡ rest = ap (λ (x : ℕ). drop x (take k wanted)) (sym (add-one i)) in
        length-map (choices_from ks (take i picks ++ p ∷ []) rest) (λ c. p ∷ c)
        ∙ choices-ways ks rest (take i wanted ++ t ∷ []) (take i picks ++ p ∷ []) next-used
        ∙ sym (w.below i within ∙ rw (f, g))

    -- what a call one level below wrote
    pub branch-paged : {head first count at m : ℕ} {before after : List ℕ}
        → Paged (choice_words head (set picks i p) (i + 1)) 5 (choices_from ks (take (i + 1) (set picks i p)) rest) first count at before after m
        → Paged (choice_words head picks i) 5 (branch ks (take i picks) rest p) first count at before after m
    branch-paged {head} {first} {count} {at} {m} {before} {after} w =
        paged-map (λ c. p ∷ c) (choice_words head picks i) 5 (choices_from ks (take i picks ++ p ∷ []) rest) first count at before after m
        (subst (λ (x : ℕ). Paged (choice_words head (set picks i p) x) 5 (choices_from ks (take i picks ++ p ∷ []) rest) first count at before after m)
        (add-one i) (rw picked at w))

-- no number is wanted any more: the picks are the choice
module _ (ks wanted used : List ℕ) (k i : ℕ) (e : i ≡ k) where
  leaf : choices_from ks used (drop i (take k wanted)) ≡ [] ∷ []
  leaf =
      let short : length (take k wanted) ≤ i = rw length-take (omega (arith, min-le_left k (length wanted))) in
      ap (choices_from ks used) (drop_of_length-le (take k wanted) short)

  module _ (head first at : ℕ) (picks before : List ℕ) where
    pub leaf-past : (count : ℕ) → (first ≡ 0 → ⊥)
        → Paged (choice_words head picks i) 5 (choices_from ks used (drop i (take k wanted))) first count at before before 0
    leaf-past count h =
        paged-same (choice_words head picks i) 5 (sym leaf) (paged-past (choice_words head picks i) 5 ([] ∷ []) first count at before (omega arith))

    pub leaf-one : (count : ℕ) → first ≡ 0 → (count ≡ 0 → ⊥) → {after : List ℕ} → after ≡ sets before at (head ∷ picks)
        → Paged (choice_words head picks i) 5 (choices_from ks used (drop i (take k wanted))) first count at before after 1
    leaf-one count z h w =
        paged-same (choice_words head picks i) 5 (sym leaf) (rw (z, w) (paged-one (choice_words head picks i) 5 [] count at before (omega arith)))

-- a place of the array that has the number wanted is free unless it is picked
pub free-unless : (keys : List ℕ) (n : ℕ) (used : List ℕ) (t p : ℕ) {b : Bool} → p < n → get_or keys p 0 ≡ t → b ≡ is_in p used
    → is_free (take n keys) used t p ≡ not b
free-unless keys n used t p h e i = rw (get_or-take n keys p 0 h, e, eq-eqb t t refl, ← i)

-- the places up to the next that has it have no branch
pub branches-next : (keys : List ℕ) (n : ℕ) (used : List ℕ) (t : ℕ) (ts : List ℕ) {from r : ℕ} → n ≤ length keys → NextKey keys t from n r
    → branches_from (take n keys) used t ts from ≡ branches_from (take n keys) used t ts r
branches-next keys n used t ts {from} {r} l k =
    let long = length-take-le n keys l in
    from-skip (branch (take n keys) used ts) (is_free (take n keys) used t) (length (take n keys)) from r k.low (rw long k.high)
    (λ j a b. rw (get_or-take n keys j 0 (omega (arith, k.high)), ne_eqb (get_or keys j 0) t (k.none j a b)))

-- behind the last number a branch is one choice
module _ (ks wanted used : List ℕ) (k i p : ℕ) (e : i + 1 ≡ k) where
  last-branch : branch ks used (drop (i + 1) (take k wanted)) p ≡ (p ∷ []) ∷ []
  last-branch =
      let short : length (take k wanted) ≤ i + 1 = rw length-take (omega (arith, min-le_left k (length wanted))) in
      ap (λ (ts : List ℕ). branch ks used ts p) (drop_of_length-le (take k wanted) short)

  pub last-length : length (branch ks used (drop (i + 1) (take k wanted)) p) ≡ 1
  last-length = ap length last-branch

  pub last-paged : (head count at : ℕ) (picks before : List ℕ) {skip : ℕ} → skip ≡ 0 → 1 ≤ count → {after : List ℕ} → after ≡ sets before at
      (head ∷ set picks i p)
      → Paged (choice_words head picks i) 5 (branch ks used (drop (i + 1) (take k wanted)) p) skip count at before after 1
  last-paged head count at picks before z h w =
      paged-same (choice_words head picks i) 5 (sym last-branch) (rw (z, w) (paged-one (choice_words head picks i) 5 (p ∷ []) count at before h))
