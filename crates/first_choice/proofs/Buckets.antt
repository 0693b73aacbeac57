-- Entries counted by groups modulo 1,024: a group has no more on a port than are counted there.
use Prim.Native.Nat.{ℕ, zero, suc, ◌+◌, ◌*◌, ◌/◌, ◌%◌, ◌≤◌, ◌<◌}
use mathlib.Core.List.{List, [], ◌∷◌, map}
use mathlib.Core.Path.{◌≡◌, refl, sym, ap, ◌∙◌}
use native.Mathlib.Omega.{arith}
use lib.ListN.{length, get_or, take, drop, length-map, get_or-map}
use lib.Seq.{length-take-le}
use Rattle.lists.specs.Keys.{times_in}
use Rattle.lists.specs.Padded.{padded, get_or-padded, take-padded, length-padded}
use Rattle.lists.specs.Choosing.{group_base, choices_in}
use Rattle.lists.specs.FirstChoice.{image-short}
use Rattle.choices.specs.Widths.{widths_of, widths-are}
use Rattle.groups.specs.Groups.{KeysBelow, CountedFor, left_in}
use Rattle.groups.specs.Left.{second-left, third-left, fourth-left}

-- the keys with their groups modulo 1,024
abbrev pub low_keys : List ℕ → List ℕ
low_keys ks = map (λ x. x % 524288) ks

module _ (keys : List ℕ) (n : ℕ) (few : n ≤ 1024) (long : n ≤ length keys) where
  size : length (low_keys (take n keys)) ≡ n
  size = length-map (take n keys) (λ x. x % 524288) ∙ length-take-le n keys long

  below : (xs : List ℕ) (i : ℕ) → get_or (low_keys xs) i 0 < 524288
  below xs i = let e = get_or-map (λ x. x % 524288) xs i 0 in omega arith

  pub lows-below : KeysBelow n (padded 1024 0 (low_keys (take n keys)))
  lows-below = record {
    few = few;
    size = length-padded 1024 0 (low_keys (take n keys)) (omega (arith, size));
    below = λ i l. rw (get_or-padded 1024 0 (low_keys (take n keys)) i) (below (take n keys) i);
  }

  pub lows-first : take n (padded 1024 0 (low_keys (take n keys))) ≡ low_keys (take n keys)
  lows-first =
      ap (λ (m : ℕ). take m (padded 1024 0 (low_keys (take n keys)))) (sym size) ∙ take-padded 1024 0 (low_keys (take n keys))

first-of : (k : ℕ) → 1 ≤ k → (ts : List ℕ) → 1 ≤ length ts → take 1 (take k ts) ≡ get_or ts 0 0 ∷ []
first-of zero l ts h = absurd (omega arith)
first-of (suc k) l [] h = absurd (omega arith)
first-of (suc k) l (t ∷ ts) h = refl

module _ (ks takes : List ℕ) (four : length takes ≡ 4) (k : ℕ) (some : 1 ≤ k) (most : k ≤ 4) (small : (j : ℕ) → get_or takes j 0 < 512)
    {counts : List ℕ} (h : CountedFor (low_keys ks) takes counts) (p : ℕ) (low : p < length ks) (on : get_or ks p 0 % 512 ≡ get_or takes 0 0) where
  abbrev g : ℕ
  g = get_or ks p 0 % 524288 / 512

  abbrev b : ℕ
  b = group_base ks (get_or takes 0 0) p

  -- how many are counted for a number where the group of place p is counted
  abbrev counted : ℕ → ℕ
  counted u = times_in ((u + b) % 524288) (low_keys ks)

  in_table : g < 1024
  in_table = omega arith

  place : (j : ℕ) → times_in (g * 512 + get_or takes j 0) (low_keys ks) ≡ counted (get_or takes j 0)
  place j =
      let s = small j in
      let e : g * 512 + get_or takes j 0 ≡ (get_or takes j 0 + b) % 524288 = omega arith in
      ap (λ (v : ℕ). times_in v (low_keys ks)) e

  lefts : (j : ℕ) → 1 ≤ j → j < k → get_or (left_in counts g) j 0 ≡ counted (get_or takes j 0)
  lefts zero l u = absurd (omega arith)
  lefts (suc zero) l u = second-left h g in_table ∙ place 1
  lefts (suc (suc zero)) l u = third-left h g in_table ∙ place 2
  lefts (suc (suc (suc zero))) l u = fourth-left h g in_table ∙ place 3
  lefts (suc (suc (suc (suc j)))) l u = absurd (omega arith)

  -- what the counts rule out
  pub ruled_out : get_or (widths_of takes (left_in counts g) k) 0 0 ≡ 0 → choices_in ks (get_or takes 0 0) (drop 1 (take k takes)) p ≡ []
  ruled_out z =
      let within : 0 < length (take k takes) = rw (length-take-le k takes (omega arith)) (omega arith) in
      let w = (widths-are counted takes (left_in counts g) four k some most lefts).below 0 within in
      image-short (λ x. x % 524288) ks (get_or takes 0 0) (drop 1 (take k takes)) p low (omega arith)
      (sym (w ∙ rw (first-of k some takes (omega arith))) ∙ z)
