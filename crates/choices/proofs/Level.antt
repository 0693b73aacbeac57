-- The loop over the places of one level: the choices are paged branch by branch.
use Prim.Native.Nat.{ℕ, ◌+◌, ◌-◌, ◌*◌, ◌≤◌, ◌<◌}
use mathlib.Core.Path.{◌≡◌, ap, ◌∙◌}
use mathlib.Core.Bool.{Bool, true, false, not}
use mathlib.Core.List.{List, ◌∷◌, ◌++◌}
use native.Mathlib.Omega.{arith}
use lib.ListN.{length, get_or, take, drop, set}
use lib.Seq.{sets, length-take-le}
use Rattle.lists.specs.Lists.{is_in}
use Rattle.lists.specs.Keys.{times_in}
use Rattle.lists.specs.Choosing.{is_free, choices_from}
use Rattle.lists.specs.Tuples.{from_end, from-pass, from-here}
use Rattle.lists.specs.Pages.{Paged, Paging, paging-start, paging-pass, paging-skip, paging-more, paging-end, paging-full}
use Rattle.lists.specs.Ways.{Used}
use Rattle.choices.specs.Widths.{Widths}
use Rattle.choices.specs.Words.{choice_words, five-words}
use Rattle.choices.specs.Next.{NextKey}
use Rattle.choices.proofs.Branches.{branch, branches_from, branches-start, branches-next, level, free-unless}
use Rattle.choices.proofs.Branches.{used-below, branch-width, branch-paged, last-length, last-paged}

-- the ith of the first k numbers wanted is looked for among the first n keys, after the picks so far
pub record Level (keys wanted widths picks : List ℕ) (n k i : ℕ) : Type 0 where
  pub long : n ≤ length keys
  pub enough : k ≤ length wanted
  pub low : i < k
  pub four : length picks ≡ 4
  pub inside : i < length picks
  pub used : Used (take n keys) (take i wanted) (take i picks)
  pub below : Widths (λ t. times_in t (take n keys)) (take k wanted) widths

-- The loop stands at the place p, which has the number wanted: the branches before it are looked at.
pub record Stands (keys wanted picks : List ℕ) (n k i head first count at : ℕ) (before : List ℕ) (skip done p : ℕ) (after : List ℕ) : Type 0 where
  pub within : p ≤ n
  pub here : p < n → get_or keys p 0 ≡ get_or wanted i 0
  pub paging : Paging (choice_words head picks i) 5 (choices_from (take n keys) (take i picks) (drop i (take k wanted)))
      (branches_from (take n keys) (take i picks) (get_or wanted i 0) (drop (i + 1) (take k wanted)) p) first count skip done at before after

module _ {keys wanted widths picks : List ℕ} {n k i : ℕ} (v : Level keys wanted widths picks n k i) (head first count at : ℕ) (before : List ℕ) where
  abbrev ks : List ℕ
  ks = take n keys

  abbrev gone : List ℕ
  gone = take i picks

  abbrev t : ℕ
  t = get_or wanted i 0

  abbrev ts : List ℕ
  ts = drop (i + 1) (take k wanted)

  abbrev words : List ℕ → List ℕ
  words = choice_words head picks i

  abbrev At : ℕ → ℕ → ℕ → List ℕ → Type 0
  At skip done p after = Stands keys wanted picks n k i head first count at before skip done p after

  abbrev Rest : ℕ → ℕ → ℕ → List ℕ → Type 0
  Rest skip done p after = Paging words 5 (choices_from ks gone (drop i (take k wanted))) (branches_from ks gone t ts p) first count skip done at before after

  five : (c : List ℕ) → length (words c) ≡ 5
  five = five-words head picks i v.four

  -- on to the next place that has the number
  onward : {skip done from q : ℕ} {after : List ℕ} → Rest skip done from after → NextKey keys t from n q → At skip done q after
  onward r m = record { within = m.high; here = m.here; paging = paging-pass words 5 five r (branches-next keys n gone t ts v.long m) }

  pub level-start : {q : ℕ} → NextKey keys t 0 n q → At first 0 q before
  level-start m =
      onward (paging-pass words 5 five (paging-start words 5 (choices_from ks gone (drop i (take k wanted))) first count at before)
      (branches-start ks gone t ts (drop i (take k wanted)) (level ks wanted picks k i v.enough v.low))) m

  module _ {skip done p : ℕ} {now' : List ℕ} (s : At skip done p now') where
    pub level-full : done ≡ count → Paged words 5 (choices_from ks gone (drop i (take k wanted))) first count at before now' done
    level-full = paging-full words 5 five s.paging

    pub level-end : n ≤ p → Paged words 5 (choices_from ks gone (drop i (take k wanted))) first count at before now' done
    level-end h =
        paging-end words 5 five s.paging (from_end (branch ks gone ts) (is_free ks gone t) (length ks) p (rw (length-take-le n keys v.long) h))

    module _ (h : p < n) {b : Bool} (e : b ≡ is_in p gone) where
      place : p < length ks
      place = rw (length-take-le n keys v.long) h

      free : is_free ks gone t p ≡ not b
      free = free-unless keys n gone t p h (s.here h) e

      pub level-picked : b ≡ true → {q : ℕ} → NextKey keys t (p + 1) n q → At skip done q now'
      level-picked f =
          onward (paging-pass words 5 five s.paging (from-pass (branch ks gone ts) (is_free ks gone t) (length ks) p place (free ∙ ap not f)))

      module _ (f : b ≡ false) where
        open-place : is_free ks gone t p ≡ true
        open-place = free ∙ ap not f

        here-first : branches_from ks gone t ts p ≡ branch ks gone ts p ++ branches_from ks gone t ts (p + 1)
        here-first = from-here (branch ks gone ts) (is_free ks gone t) (length ks) p place open-place

        width : length (branch ks gone ts p) ≡ get_or widths i 0
        width = branch-width ks wanted picks k i v.enough v.low v.used p place open-place v.inside v.below

        pub level-skipped : get_or widths i 0 ≤ skip → {q : ℕ} → NextKey keys t (p + 1) n q → At (skip - get_or widths i 0) done q now'
        level-skipped l = onward (rw (← width) (paging-skip words 5 five s.paging (branch ks gone ts p) _ here-first (rw width l)))

        pub below-used : Used ks (take (i + 1) wanted) (take (i + 1) (set picks i p))
        below-used = used-below ks wanted picks k i v.enough v.low v.used p place open-place v.inside

        module _ (l : skip < get_or widths i 0) {after : List ℕ} where
          -- what a call one level below wrote
          pub level-below : {m : ℕ}
              → Paged (choice_words head (set picks i p) (i + 1)) 5 (choices_from ks (take (i + 1) (set picks i p)) ts) skip (count - done) (at + 5 * done)
              now' after m
              → {q : ℕ} → NextKey keys t (p + 1) n q → At 0 (done + m) q after
          level-below w =
              let r = paging-more words 5 five s.paging (branch ks gone ts p) _ _ _ here-first
              (branch-paged ks wanted picks k i v.enough v.low v.used p place open-place v.inside w) in
              let z : skip - length (branch ks gone ts p) ≡ 0 = omega (arith, width, l) in
              onward (rw z at r)

          -- behind the last number: one choice, which has been written
          pub level-last : i + 1 ≡ k → 1 ≤ count - done → after ≡ sets now' (at + 5 * done) (head ∷ set picks i p)
              → {q : ℕ} → NextKey keys t (p + 1) n q → At skip (done + 1) q after
          level-last j room w =
              let one = last-length ks wanted gone k i p j in
              let z : skip ≡ 0 = omega (arith, width, one, l) in
              let r = paging-more words 5 five s.paging (branch ks gone ts p) _ _ _ here-first
              (last-paged ks wanted gone k i p j head (count - done) (at + 5 * done) picks now' z room w) in
              let y : skip - length (branch ks gone ts p) ≡ skip = omega (arith, z, one) in
              onward (rw y at r)

-- as the code is handed it
pub level-at : {keys wanted widths picks : List ℕ} {n k i : ℕ} → (i ≤ k) × (k ≤ 4) × (n ≤ 1024) × (length keys ≡ 1024)
    → Widths (λ t. times_in t (take n keys)) (take k wanted) widths × Used (take n keys) (take i wanted) (take i picks)
    → length wanted ≡ 4 → length picks ≡ 4 → (i ≡ k → ⊥) → Level keys wanted widths picks n k i
level-at p u w f more = record {
  long = omega (arith, p.2, p.3);
  enough = omega (arith, p.1, w);
  low = omega (arith, p.0, more);
  four = f;
  inside = omega (arith, p.0, p.1, f, more);
  used = u.1;
  below = u.0;
}
