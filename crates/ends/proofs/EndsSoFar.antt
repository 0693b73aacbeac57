-- The loop over the ids: the ends of those before place i are counted, and those of them on the page are written.
use Prim.Native.Nat.{ℕ, ◌+◌, ◌-◌, ◌*◌, ◌≤◌, ◌<◌}
use mathlib.Core.Bool.{Bool, true, false, ◌&&◌}
use mathlib.Core.List.{List, [], ◌∷◌, ◌++◌}
use mathlib.Core.Path.{◌≡◌, refl, sym, ap, ◌∙◌}
use native.Mathlib.Nat.{sub-zero}
use native.Mathlib.Omega.{arith}
use borrow.Author.Tests.{leb-true, leb-false}
use lib.Dec.{leb}
use lib.ListN.{length, get_or, take, drop, length-append}
use Rattle.lists.specs.Lists.{keep, keep_if, one_if}
use Rattle.lists.specs.Counting.{count-le, length-keep}
use Rattle.lists.specs.Parts.{keep_if-append}
use Rattle.lists.specs.Prefix.{prefix-tails}
use Rattle.lists.specs.Pages.{page, page-past, Paged, paged-le, paged-length, paged-page, Paging, paging-start, paging-more, paging-end}
use Rattle.choices.specs.Parts.{PartAs}
use Rattle.ends.specs.Listed.{end_words}

-- An id's end is due where the id is listed and as many as are passed over are listed before it: then it is next on the page.
due-page : (v first len count : ℕ) (hit : Bool) → page 0 count (keep_if (hit && leb first len) v []) ≡ page (first - len) count (keep_if hit v [])
due-page v first len count hit = go hit (leb first len) refl
  where
    none : (k : ℕ) → page {A = ℕ} k count [] ≡ []
    none k = page-past k count [] (omega arith)

    go : (h b : Bool) → leb first len ≡ b → page 0 count (keep_if (h && b) v []) ≡ page (first - len) count (keep_if h v [])
    go false b e = none 0 ∙ sym (none (first - len))
    go true false e = let l = leb-false first len e in none 0 ∙ sym (page-past (first - len) count (v ∷ []) (omega arith))
    go true true e =
        let l = leb-true first len e in
        let z : first - len ≡ 0 = omega arith in
        rw z

-- Before place i of the first m ids `len` are listed, and of their ends so many are written.
pub record EndsSoFar (p : ℕ → Bool) (kind : ℕ) (ids : List ℕ) (m first count at : ℕ) (before after : List ℕ) (len written i : ℕ) : Type 0 where
  pub within : i ≤ m
  pub few : len ≤ i
  pub counted : len + length (keep p (drop i (take m ids))) ≡ length (keep p (take m ids))
  pub paging : Paging (end_words kind) 5 (keep p (take m ids)) (keep p (drop i (take m ids))) first count (first - len) written at before after

module _ (p : ℕ → Bool) (kind : ℕ) (ids : List ℕ) (m first count at : ℕ) (before : List ℕ) where
  pub ends-start : EndsSoFar p kind ids m first count at before before 0 0 0
  ends-start = record {
    within = omega arith;
    few = omega arith;
    counted = omega arith;
    paging = rw (sub-zero first) (paging-start (end_words kind) 5 (keep p (take m ids)) first count at before);
  }

module _ {p : ℕ → Bool} {kind : ℕ} {ids : List ℕ} {m first count at : ℕ} {before after : List ℕ} {len written i : ℕ}
    (l : EndsSoFar p kind ids m first count at before after len written i) where
  pub ends-few : written ≤ count
  ends-few = paged-le (end_words kind) 5 l.paging.paged

  pub ends-room : at + 5 * count ≤ length before → at + 5 * written + 5 * (count - written) ≤ length after
  ends-room h = omega (arith, ends-few, paged-length (end_words kind) 5 l.paging.paged)

  module _ (enough : m ≤ length ids) where
    pub ends_next : i < m → {hit : Bool} → hit ≡ p (get_or ids i 0) → {next : List ℕ} {n : ℕ}
        → Paged (end_words kind) 5 (keep_if (hit && leb first len) (get_or ids i 0) []) 0 (count - written) (at + 5 * written) after next n
        → {k : ℕ} → k ≡ one_if hit → EndsSoFar p kind ids m first count at before next (len + k) (written + n) (i + 1)
    ends_next h {hit} e {next} {n} w {k} b =
        let v = get_or ids i 0 in
        let rest = keep p (drop (i + 1) (take m ids)) in
        let ahead : keep p (drop i (take m ids)) ≡ keep_if hit v [] ++ rest =
        ap (keep p) ((prefix-tails 0 ids m enough).more i h) ∙ rw (← e) (keep_if-append hit v [] rest) in
        let one = length-keep (λ _. hit) (v ∷ []) in
        let skip : first - len - length (keep_if hit v []) ≡ first - (len + k) = omega arith in
        record {
          within = omega arith;
          few = omega (arith, l.few, count-le (λ _. hit) (v ∷ []));
          counted = omega (arith, l.counted, ap length ahead, length-append (keep_if hit v []) rest);
          paging = rw skip at (paging-more (end_words kind) 5 (λ v. refl) l.paging (keep_if hit v []) rest n next ahead
              (paged-page (end_words kind) 5 (due-page v first len (count - written) hit) w));
        }

    pub ends-done : m ≤ i → m ≤ 1024
        → PartAs (end_words kind) (keep p (take m ids)) first count at before after (record { length = len; written = written }) × (len ≤ 1024)
    ends-done h small =
        let none : keep p (drop i (take m ids)) ≡ [] = ap (keep p) ((prefix-tails 0 ids m enough).none i h) in (
          record { total = omega (arith, l.counted, ap length none); paged = paging-end (end_words kind) 5 (λ v. refl) l.paging none },
          omega (arith, l.few, l.within),
        )
