-- The places on the first port one after another: the choices that begin with each are within its group.
use Prim.Native.Nat.{ℕ, zero, suc, ◌+◌, ◌%◌, ◌≤◌, ◌<◌}
use mathlib.Core.Bool.{Bool, true, false, true≢false, false≢true}
use mathlib.Core.List.{List, [], ◌∷◌, ◌++◌, map}
use mathlib.Core.Path.{◌≡◌, refl, sym, ap, ◌∙◌}
use native.Mathlib.Omega.{arith}
use lib.Dec.{eqb}
use lib.ListN.{length, get_or, take, drop}
use Rattle.lists.specs.Choosing.{group_base, choices_in, choices_by_group}
use Rattle.lists.specs.Tuples.{from_start, from-skip, from-here, from_end}
use Rattle.lists.specs.Mapped.{map-take}
use Rattle.lists.specs.FirstChoice.{choices_after, used-first}
use Rattle.lists.specs.Ways.{Used}
use Rattle.first_choice.specs.declared.Choice.{Choice}
use Rattle.seek.specs.Seek.{fits_at, NextFit, next-same}
use Rattle.first_choice.specs.Choice.{first_choice, begin_from, GroupKeys}

-- ---- the choices that begin with a place

-- the numbers wanted behind it, as the code has them: all four raised, and the first k of them looked at
raised-rest : (b k : ℕ) (takes : List ℕ) → drop 1 (take k (map (λ u. u + b) takes)) ≡ map (λ u. u + b) (drop 1 (take k takes))
raised-rest b zero takes = refl
raised-rest b (suc k) [] = refl
raised-rest b (suc k) (t ∷ takes) = sym (map-take (λ u. u + b) k takes)

module _ (ks takes : List ℕ) (k p : ℕ) (some : 1 ≤ length takes) (low : p < length ks) (on : get_or ks p 0 % 512 ≡ get_or takes 0 0) where
  abbrev b : ℕ
  b = group_base ks (get_or takes 0 0) p

  first-raised : (ts : List ℕ) → 1 ≤ length ts → take 1 (map (λ u. u + b) ts) ≡ (get_or ts 0 0 + b) ∷ []
  first-raised [] l = absurd (omega arith)
  first-raised (t ∷ ts) l = refl

  pub within-used : Used ks (take 1 (map (λ u. u + b) takes)) (p ∷ [])
  within-used =
      let base : get_or takes 0 0 + b ≡ get_or ks p 0 = omega arith in
      rw (first-raised takes some, base) (used-first ks p low)

  pub within-choices : choices_after ks (p ∷ []) (drop 1 (take k (map (λ u. u + b) takes))) ≡ choices_in ks (get_or takes 0 0) (drop 1 (take k takes)) p
  within-choices = rw (raised-rest b k takes)

-- ---- the loop

-- the first of one part, and of what is behind it
first_found : (cs ds : List (List ℕ)) → (first_choice cs).found ≡ true → first_choice cs ≡ first_choice (cs ++ ds)
first_found [] ds h = absurd (false≢true h)
first_found (c ∷ cs) ds h = refl

first-missed : (cs ds : List (List ℕ)) → (first_choice cs).found ≡ false → first_choice ds ≡ first_choice (cs ++ ds)
first-missed [] ds h = refl
first-missed (c ∷ cs) ds h = absurd (true≢false h)

-- The loop stands at place p, where a message fits on the first port: what begins there or later has the first choice of the goal.
pub record Standing (os ws stopped takes : List ℕ) (n k : ℕ) (ks : List ℕ) (goal : Choice) (p : ℕ) : Type 0 where
  pub within : p ≤ n
  pub on : p < n → fits_at os ws 0 65535 stopped (get_or takes 0 0) p ≡ true
  pub first : first_choice (begin_from ks (get_or takes 0 0) (drop 1 (take k takes)) p) ≡ goal

module _ {os ws stopped takes : List ℕ} {n k : ℕ} {ks : List ℕ} (h : GroupKeys os ws stopped takes n k ks) where
  abbrev t : ℕ
  t = get_or takes 0 0

  abbrev ts : List ℕ
  ts = drop 1 (take k takes)

  abbrev fit : ℕ → Bool
  fit = fits_at os ws 0 65535 stopped t

  abbrev is_on : ℕ → Bool
  is_on x = eqb (get_or ks x 0 % 512) t

  onward : {goal : Choice} {from q : ℕ} → first_choice (begin_from ks t ts from) ≡ goal → NextFit fit from n q
      → Standing os ws stopped takes n k ks goal q
  onward {goal} {from} {q} e m =
      let s = next-same h.first m in
      record {
        within = m.high;
        on = m.here;
        first = ap first_choice (sym (from-skip (choices_in ks t ts) is_on (length ks) from q m.low (rw h.size m.high) s.none)) ∙ e;
      }

  pub standing-start : {from q : ℕ} → NextFit fit from n q → Standing os ws stopped takes n k ks (first_choice (begin_from ks t ts from)) q
  standing-start m = onward refl m

  module _ {goal : Choice} {p : ℕ} (s : Standing os ws stopped takes n k ks goal p) where
    pub standing-end : n ≤ p → record { found = false; picks = 0 ∷ 0 ∷ 0 ∷ 0 ∷ [] } ≡ goal
    standing-end l = ap first_choice (sym (from_end (choices_in ks t ts) is_on (length ks) p (rw h.size l))) ∙ s.first

    module _ (low : p < n) {r : Choice} (e : r ≡ first_choice (choices_in ks t ts p)) where
      parts : begin_from ks t ts p ≡ choices_in ks t ts p ++ begin_from ks t ts (p + 1)
      parts = from-here (choices_in ks t ts) is_on (length ks) p (rw h.size low) (h.first p low ∙ s.on low)

      pub standing-found : r.found ≡ true → r ≡ goal
      standing-found f =
          e ∙ first_found (choices_in ks t ts p) (begin_from ks t ts (p + 1)) (sym (ap (λ (x : Choice). x.found) e) ∙ f)
          ∙ ap first_choice (sym parts) ∙ s.first

      pub standing-next : r.found ≡ false → {q : ℕ} → NextFit fit (p + 1) n q → Standing os ws stopped takes n k ks goal q
      standing-next f m =
          onward (first-missed (choices_in ks t ts p) (begin_from ks t ts (p + 1)) (sym (ap (λ (x : Choice). x.found) e) ∙ f)
          ∙ ap first_choice (sym parts) ∙ s.first) m

pub by-group : (ks : List ℕ) (k : ℕ) → 1 ≤ k → (takes : List ℕ) → 1 ≤ length takes
    → begin_from ks (get_or takes 0 0) (drop 1 (take k takes)) 0 ≡ choices_by_group ks (take k takes)
by-group ks zero l takes h = absurd (omega arith)
by-group ks (suc k) l [] h = absurd (omega arith)
by-group ks (suc k) l (t ∷ takes) h = from_start (choices_in ks t (take k takes)) (λ x. eqb (get_or ks x 0 % 512) t) (length ks)
