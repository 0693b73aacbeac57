-- What is said of a part of the list of open moves.
use Rattle.std.specs.Prelude.{ℕ, ◌+◌, ◌-◌, ◌*◌, ◌≡◌, List, ◌++◌, map, length}
use Rattle.std.proofs.Common.{sym, ◌∙◌, arith, length-append}
use Rattle.std.proofs.lemmas.List.{length-map}
use Rattle.lists.specs.Pages.{Paged, paged-map, paged-append}
use Rattle.choices.specs.declared.Part.{Part}

-- r tells the length of xs, and how many of the page's elements were written.
pub record PartAs {A : Type 0} (words : A → List ℕ) (xs : List A) (first count at : ℕ) (before after : List ℕ) (r : Part) : Type 0 where
  pub total : r.length ≡ length xs
  pub paged : Paged words 5 xs first count at before after r.written

pub part_same : {A : Type 0} {words : A → List ℕ} {xs ys : List A} {first count at : ℕ} {before after : List ℕ} {r : Part} → xs ≡ ys
    → PartAs words xs first count at before after r → PartAs words ys first count at before after r
part_same e h = rw e at h

-- elements by way of others
pub part-map : {A B : Type 0} (f : A → B) (words : B → List ℕ) {xs : List A} {first count at : ℕ} {before after : List ℕ} {r : Part}
    → PartAs (λ x. words (f x)) xs first count at before after r → PartAs words (map f xs) first count at before after r
part-map f words {xs} {first} {count} {at} {before} {after} {r} h = record {
  total = h.total ∙ sym (length-map xs f);
  paged = paged-map f words 5 xs first count at before after r.written h.paged;
}

-- one part behind another
pub part-append : {A : Type 0} (words : A → List ℕ) → ((x : A) → length (words x) ≡ 5) → (xs ys : List A)
    → {first count at : ℕ} {before middle after : List ℕ} (p q : Part)
    → PartAs words xs first count at before middle p → PartAs words ys (first - p.length) (count - p.written) (at + 5 * p.written) middle after q
    → PartAs words (xs ++ ys) first count at before after (record { length = p.length + q.length; written = p.written + q.written })
part-append words five xs ys {first} {count} {at} {before} {middle} {after} p q h k = record {
  total = omega (arith, h.total, k.total, length-append xs ys);
  paged = paged-append words 5 five xs ys first count at before middle after p.written q.written h.paged (rw (← h.total) k.paged);
}
