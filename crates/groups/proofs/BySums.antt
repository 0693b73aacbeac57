-- The choices counted group by group: as many first places in a group as it has keys on the first port, and the same ways behind each.
use Prim.Native.Nat.{ℕ, zero, suc, ◌+◌, ◌*◌, ◌/◌, ◌%◌, ◌≤◌, ◌<◌}
use mathlib.Core.Bool.{true, false}
use mathlib.Core.Path.{◌≡◌, refl, sym, ap, ◌∙◌}
use mathlib.Core.List.{List, [], ◌∷◌}
use native.Mathlib.Nat.{zero-mul, one-mul, add-mul}
use native.Mathlib.Omega.{arith}
use borrow.Author.Tests.{eqb-true, eqb-false, eq-eqb, ne_eqb}
use lib.Dec.{eqb}
use lib.ListN.{length, get_or, take, drop, length-append, drop_of_length-le}
use Rattle.lists.specs.Lists.{one_if}
use Rattle.lists.specs.Choices.{by_bool}
use Rattle.lists.specs.Walk.{drop-step}
use Rattle.lists.specs.Keys.{times_in, times_none, times-one, times-append}
use Rattle.lists.specs.Choosing.{choices_in, choices_by_group}
use Rattle.lists.specs.Tuples.{from_end, from-pass, from-here}
use Rattle.choices.specs.Widths.{widths_of}
use Rattle.groups.specs.Groups.{CountedFor, left_in, ways_in}
use Rattle.groups.specs.Left.{first-left}
use Rattle.groups.proofs.Within.{groups_from, rest_of, in_group, groups-start-of}

-- f of each number below n, added up
abbrev pub sum_up : (ℕ → ℕ) → ℕ → ℕ
sum_up f zero = 0
sum_up f (suc n) = sum_up f n + f n

sum_same : (f h : ℕ → ℕ) (n : ℕ) → ((g : ℕ) → g < n → f g ≡ h g) → sum_up f n ≡ sum_up h n
sum_same f h zero e = refl
sum_same f h (suc n) e = omega (arith, sum_same f h n (λ g l. e g (omega arith)), e n (omega arith))

sum-zero : (f : ℕ → ℕ) (n : ℕ) → ((g : ℕ) → g < n → f g ≡ 0) → sum_up f n ≡ 0
sum-zero f zero e = refl
sum-zero f (suc n) e = omega (arith, sum-zero f n (λ g l. e g (omega arith)), e n (omega arith))

sum-plus : (f h : ℕ → ℕ) (n : ℕ) → sum_up (λ g. f g + h g) n ≡ sum_up f n + sum_up h n
sum-plus f h zero = refl
sum-plus f h (suc n) = omega (arith, sum-plus f h n)

-- ---- of one key
module _ (t : ℕ) (small : t < 512) (W : ℕ → ℕ) where
  abbrev one : ℕ → ℕ → ℕ
  one key g = one_if (eqb key (g * 512 + t)) * W g

  one-not : (key g : ℕ) → (key ≡ g * 512 + t → ⊥) → one key g ≡ 0
  one-not key g n = rw (ne_eqb key (g * 512 + t) n) (zero-mul (W g))

  one-here : (key g : ℕ) → key ≡ g * 512 + t → one key g ≡ W g
  one-here key g e = rw (eq-eqb key (g * 512 + t) e) (one-mul (W g))

  other-port : (key n : ℕ) → (key % 512 ≡ t → ⊥) → sum_up (one key) n ≡ 0
  other-port key n h = sum-zero (one key) n (λ g l. one-not key g (λ e. h (omega arith)))

  this-port : (key n : ℕ) → key % 512 ≡ t → key / 512 < n → sum_up (one key) n ≡ W (key / 512)
  this-port key zero e l = absurd (omega arith)
  this-port key (suc n) e l = by_bool (eqb (key / 512) n) here (later (λ h. this-port key n e h))
    where
      here : eqb (key / 512) n ≡ true → sum_up (one key) n + one key n ≡ W (key / 512)
      here q =
          let j = eqb-true (key / 512) n q in
          let before = sum-zero (one key) n (λ g l. one-not key g (λ e. absurd (omega arith))) in
          let at = one-here key n (omega arith) in
          omega (arith, before, at, ap W j)

      later : (key / 512 < n → sum_up (one key) n ≡ W (key / 512)) → eqb (key / 512) n ≡ false → sum_up (one key) n + one key n ≡ W (key / 512)
      later rec q =
          let d = eqb-false (key / 512) n q in
          let low : key / 512 < n = le-ne l d in
          let at = one-not key n (λ e. d (omega arith)) in
          omega (arith, rec low, at)
        where
          le-ne : key / 512 < suc n → (key / 512 ≡ n → ⊥) → key / 512 < n
          le-ne l d = omega arith

  -- what the keys xs give in each group
  abbrev given_by : List ℕ → ℕ → ℕ
  given_by xs g = times_in (g * 512 + t) xs * W g

  sum-none : (n : ℕ) → sum_up (given_by []) n ≡ 0
  sum-none n = sum-zero (given_by []) n (λ g l. rw (times_none (g * 512 + t)) (zero-mul (W g)))

  sum-cons : (key : ℕ) (xs : List ℕ) (n : ℕ) → sum_up (given_by (key ∷ xs)) n ≡ sum_up (one key) n + sum_up (given_by xs) n
  sum-cons key xs n = sum_same (given_by (key ∷ xs)) (λ g. one key g + given_by xs g) n (λ g l. each g) ∙ sum-plus (one key) (given_by xs) n
    where
      each : (g : ℕ) → given_by (key ∷ xs) g ≡ one key g + given_by xs g
      each g =
          let m : times_in (g * 512 + t) (key ∷ xs) ≡ one_if (eqb key (g * 512 + t)) + times_in (g * 512 + t) xs = times-append (g * 512 + t) (key ∷ []) xs
          ∙ ap (λ (x : ℕ). x + times_in (g * 512 + t) xs) (times-one (g * 512 + t) key) in
          ap (λ (x : ℕ). x * W g) m ∙ add-mul (one_if (eqb key (g * 512 + t))) (times_in (g * 512 + t) xs) (W g)

-- ---- of the choices
module _ (ks : List ℕ) (k : ℕ) (some : 1 ≤ k) (most : k ≤ 4) (takes : List ℕ) (four : length takes ≡ 4) (small : get_or takes 0 0 < 512)
    {counts : List ℕ} (counted : CountedFor ks takes counts) (top : ℕ) (few : top ≤ 1024)
    (below : (i : ℕ) → i < length ks → get_or ks i 0 < 512 * top) where
  abbrev t : ℕ
  t = get_or takes 0 0

  abbrev W : ℕ → ℕ
  W g = get_or (widths_of takes (left_in counts g) k) 0 0

  abbrev behind : ℕ → ℕ
  behind p = length (groups_from ks t (rest_of takes k) p)

  by-places : (d p : ℕ) → p + d ≡ length ks → behind p ≡ sum_up (given_by t small W (drop p ks)) top
  by-places zero p e =
      let past : length ks ≤ p = omega arith in
      ap length (from_end (choices_in ks t (rest_of takes k)) (λ p. eqb (get_or ks p 0 % 512) t) (length ks) p past)
      ∙ sym (ap (λ (xs : List ℕ). sum_up (given_by t small W xs) top) (drop_of_length-le ks past) ∙ sum-none t small W top)
  by-places (suc d) p e = go (by-places d (p + 1) (omega arith))
    where
      low : p < length ks
      low = omega arith

      split : sum_up (given_by t small W (drop p ks)) top ≡ sum_up (one t small W (get_or ks p 0)) top + sum_up (given_by t small W (drop (p + 1) ks)) top
      split = ap (λ (xs : List ℕ). sum_up (given_by t small W xs) top) (drop-step ks p 0 low) ∙ sum-cons t small W (get_or ks p 0) (drop (p + 1) ks) top

      on : behind (p + 1) ≡ sum_up (given_by t small W (drop (p + 1) ks)) top → eqb (get_or ks p 0 % 512) t ≡ true
          → behind p ≡ sum_up (given_by t small W (drop p ks)) top
      on rec q =
          let is = eqb-true (get_or ks p 0 % 512) t q in
          let b = below p low in
          let inside = in_group ks k some most takes four counted p low (omega arith) is in
          let l = ap length (from-here (choices_in ks t (rest_of takes k)) (λ p. eqb (get_or ks p 0 % 512) t) (length ks) p low q)
          ∙ length-append (choices_in ks t (rest_of takes k) p) (groups_from ks t (rest_of takes k) (p + 1)) in
          omega (arith, l, inside.width, this-port t small W (get_or ks p 0) top is (omega arith), split, rec)

      off : behind (p + 1) ≡ sum_up (given_by t small W (drop (p + 1) ks)) top → eqb (get_or ks p 0 % 512) t ≡ false
          → behind p ≡ sum_up (given_by t small W (drop p ks)) top
      off rec q =
          let l = ap length (from-pass (choices_in ks t (rest_of takes k)) (λ p. eqb (get_or ks p 0 % 512) t) (length ks) p low q) in
          omega (arith, l, other-port t small W (get_or ks p 0) top (eqb-false (get_or ks p 0 % 512) t q), split, rec)

      go : behind (p + 1) ≡ sum_up (given_by t small W (drop (p + 1) ks)) top → behind p ≡ sum_up (given_by t small W (drop p ks)) top
      go rec = by_bool (eqb (get_or ks p 0 % 512) t) (on rec) (off rec)

  pub choices-by-sums : sum_up (ways_in takes k counts) top ≡ length (choices_by_group ks (take k takes))
  choices-by-sums =
      sum_same (ways_in takes k counts) (given_by t small W ks) top (λ g l. ap (λ (x : ℕ). x * W g) (first-left counted g (omega arith)))
      ∙ sym (ap length (groups-start-of ks k some most takes four) ∙ by-places (length ks) 0 (omega arith))
