-- A page of a list: the part from a place on, at most so many elements; and its words, written part by part of the list.
use Rattle.std.specs.Prelude.{ℕ, zero, suc, ◌+◌, ◌-◌, ◌*◌, ◌≤◌, ◌≡◌, refl, List, [], ◌∷◌, ◌++◌, map, length, take, drop, set}
use Rattle.std.proofs.Common.{sym, ap, ◌∙◌, subst, append_assoc, append-nil, add-zero, arith, length-append, length-take, drop_of_length-le}
use Rattle.std.proofs.Math.Nat.{sub-zero, min-le_left}
use Rattle.std.proofs.lemmas.List.{length-map}
use Rattle.std.proofs.lemmas.List.Edits.{sets}
use Rattle.std.proofs.Math.Seq.{length-sets, take-nil, drop-nil}
use Rattle.lists.specs.Lists.{each}
use Rattle.lists.specs.Fronts.{take-map}

module _ {A : Type 0} where
  abbrev pub page : ℕ → ℕ → List A → List A
  page first count xs = take count (drop first xs)

  -- of two lists, one after the other: what the first leaves of the place and of the count is for the second
  pub page-append : (first count : ℕ) (xs ys : List A)
      → page first count (xs ++ ys) ≡ page first count xs ++ page (first - length xs) (count - length (page first count xs)) ys
  page-append first count [] ys = rw (drop-nil, take-nil, sub-zero, sub-zero)
  page-append (suc first) count (x ∷ xs) ys =
      let e : suc first - suc (length xs) ≡ first - length xs = omega arith in
      rw e (page-append first count xs ys)
  page-append zero zero (x ∷ xs) ys = refl
  page-append zero (suc count) (x ∷ xs) ys =
      let e : 0 - suc (length xs) ≡ 0 - length xs = omega arith in
      let f : suc count - suc (length (take count xs)) ≡ count - length (take count xs) = omega arith in
      rw (e, f) (ap (λ (l : List A). x ∷ l) (page-append zero count xs ys))

  pub page-past : (first count : ℕ) (xs : List A) → length xs ≤ first → page first count xs ≡ []
  page-past first count xs h = rw (drop_of_length-le xs h) (take-nil count)

  pub page-le : (first count : ℕ) (xs : List A) → length (page first count xs) ≤ count
  page-le first count xs = rw length-take (min-le_left count _)

  pub sets-sets : (l : List A) (i : ℕ) (xs ys : List A) → sets (sets l i xs) (i + length xs) ys ≡ sets l i (xs ++ ys)
  sets-sets l i [] ys = rw add-zero
  sets-sets l i (x ∷ xs) ys =
      let e : i + suc (length xs) ≡ suc i + length xs = omega arith in
      rw e (sets-sets (set l i x) (suc i) xs ys)

module _ {A B : Type 0} where
  pub each_append : (f : A → List B) (xs ys : List A) → each f (xs ++ ys) ≡ each f xs ++ each f ys
  each_append f [] ys = refl
  each_append f (x ∷ xs) ys = rw (each_append f xs ys, append_assoc)

  pub each-length : (f : A → List B) (w : ℕ) → ((x : A) → length (f x) ≡ w) → (xs : List A) → length (each f xs) ≡ w * length xs
  each-length f w h [] = omega arith
  each-length f w h (x ∷ xs) =
      let r = each-length f w h xs in
      let e = h x in
      rw length-append (omega arith)

  pub each_map : {C : Type 0} (g : B → List C) (f : A → B) (xs : List A) → each g (map f xs) ≡ each (λ x. g (f x)) xs
  each_map g f [] = refl
  each_map g f (x ∷ xs) = rw (each_map g f xs)

  drop-map : (f : A → B) (n : ℕ) (xs : List A) → drop n (map f xs) ≡ map f (drop n xs)
  drop-map f zero xs = refl
  drop-map f (suc n) [] = refl
  drop-map f (suc n) (x ∷ xs) = drop-map f n xs

  pub page-map : (f : A → B) (first count : ℕ) (xs : List A) → page first count (map f xs) ≡ map f (page first count xs)
  page-map f first count xs = ap (take count) (drop-map f first xs) ∙ take-map f count (drop first xs)

-- ---- pages in words, w for each element
module _ {A : Type 0} (words : A → List ℕ) (w : ℕ) where
  -- the page's words are written over `before` from the place at on, and it has `written` elements
  pub record Paged (xs : List A) (first count at : ℕ) (before after : List ℕ) (written : ℕ) : Type 0 where
    pub number : written ≡ length (page first count xs)
    pub contents : after ≡ sets before at (each words (page first count xs))

  -- The list is looked at part by part: rest is still to come, with `skip` of it before the page; done elements are written.
  pub record Paging (xs rest : List A) (first count skip done at : ℕ) (before after : List ℕ) : Type 0 where
    pub seen : List A
    pub whole : xs ≡ seen ++ rest
    pub left : skip ≡ first - length seen
    pub paged : Paged seen first count at before after done

  pub paged-none : (first count at : ℕ) (before : List ℕ) → Paged [] first count at before before 0
  paged-none first count at before =
      let e : page {A = A} first count [] ≡ [] = page-past first count [] (omega arith) in
      record { number = rw e; contents = rw e }

  pub paged-past : (xs : List A) (first count at : ℕ) (before : List ℕ) → length xs ≤ first → Paged xs first count at before before 0
  paged-past xs first count at before h = let e = page-past first count xs h in record { number = rw e; contents = rw e }

  -- one element, at the place of the page's beginning
  pub paged-one : (x : A) (count at : ℕ) (before : List ℕ) → 1 ≤ count → Paged (x ∷ []) 0 count at before (sets before at (words x)) 1
  paged-one x zero at before h = absurd (omega arith)
  paged-one x (suc count) at before h =
      let e : page 0 (suc count) (x ∷ []) ≡ x ∷ [] = ap (λ (l : List A). x ∷ l) (take-nil count) in
      record { number = sym (ap length e); contents = ap (sets before at) (sym (ap (each words) e ∙ append-nil (words x))) }

  pub paged-empty : (xs : List A) (first at : ℕ) (before : List ℕ) → Paged xs first 0 at before before 0
  paged-empty xs first at before = record { number = refl; contents = refl }

  pub paged-le : {xs : List A} {first count at : ℕ} {before after : List ℕ} {n : ℕ} → Paged xs first count at before after n → n ≤ count
  paged-le {xs} {first} {count} p = rw p.number (page-le first count xs)

  pub paged-length : {xs : List A} {first count at : ℕ} {before after : List ℕ} {n : ℕ} → Paged xs first count at before after n → length after ≡ length before
  paged-length {xs} {first} {count} {at} {before} p = ap length p.contents ∙ length-sets before at (each words (page first count xs))

  pub paged-same : {xs ys : List A} {first count at : ℕ} {before after : List ℕ} {n : ℕ} → xs ≡ ys → Paged xs first count at before after n
      → Paged ys first count at before after n
  paged-same e p = rw e at p

  -- what is said of a page is said of another list's page that is the same
  pub paged-page : {xs ys : List A} {first start count at : ℕ} {before after : List ℕ} {n : ℕ} → page first count xs ≡ page start count ys
      → Paged xs first count at before after n → Paged ys start count at before after n
  paged-page {at = at} {before = before} e p =
      record { number = p.number ∙ ap length e; contents = p.contents ∙ ap (λ (l : List A). sets before at (each words l)) e }

  pub paging-start : (xs : List A) (first count at : ℕ) (before : List ℕ) → Paging xs xs first count first 0 at before before
  paging-start xs first count at before =
      record { seen = []; whole = refl; left = sym (sub-zero first); paged = paged-none first count at before }

  module _ (each-w : (x : A) → length (words x) ≡ w) where
    pub paged-append : (xs ys : List A) (first count at : ℕ) (before middle after : List ℕ) (m n : ℕ) → Paged xs first count at before middle m
        → Paged ys (first - length xs) (count - m) (at + w * m) middle after n → Paged (xs ++ ys) first count at before after (m + n)
    paged-append xs ys first count at before middle after m n p q =
        let e : page first count (xs ++ ys) ≡ page first count xs ++ page (first - length xs) (count - m) ys =
        page-append first count xs ys ∙ rw p.number in
        let k : w * m ≡ length (each words (page first count xs)) = rw p.number (sym (each-length words w each-w (page first count xs))) in
        record {
          number = omega (arith, p.number, q.number, ap length e, length-append (page first count xs) (page (first - length xs) (count - m) ys));
          contents = q.contents
              ∙ ap (λ (x : ℕ). sets middle (at + x) (each words (page (first - length xs) (count - m) ys))) k
              ∙ ap (λ (l : List ℕ). sets l (at + length (each words (page first count xs))) (each words (page (first - length xs) (count - m) ys)))
              p.contents
              ∙ sets-sets before at (each words (page first count xs)) (each words (page (first - length xs) (count - m) ys))
              ∙ ap (sets before at) (sym (each_append words (page first count xs) (page (first - length xs) (count - m) ys)) ∙ ap (each words) (sym e));
        }

    module _ {xs rest : List A} {first count skip done at : ℕ} {before now' : List ℕ} (l : Paging xs rest first count skip done at before now') where
      -- a part, of which what belongs to the page has been written
      pub paging-more : (a b : List A) (n : ℕ) (after : List ℕ) → rest ≡ a ++ b → Paged a skip (count - done) (at + w * done) now' after n
          → Paging xs b first count (skip - length a) (done + n) at before after
      paging-more a b n after e p = record {
        seen = l.seen ++ a;
        whole = l.whole ∙ ap (λ (r : List A). l.seen ++ r) e ∙ sym (append_assoc l.seen a b);
        left = omega (arith, l.left, length-append l.seen a);
        paged = paged-append l.seen a first count at before now' after done n l.paged
            (subst (λ (k : ℕ). Paged a k (count - done) (at + w * done) now' after n) l.left p);
      }

      -- a part before the page
      pub paging-skip : (a b : List A) → rest ≡ a ++ b → length a ≤ skip → Paging xs b first count (skip - length a) done at before now'
      paging-skip a b e h =
          subst (λ (k : ℕ). Paging xs b first count (skip - length a) k at before now') (add-zero done)
          (paging-more a b 0 now' e (paged-past a skip (count - done) (at + w * done) now' h))

      pub paging-pass : {b : List A} → rest ≡ b → Paging xs b first count skip done at before now'
      paging-pass e = rw e at l

      -- nothing is left of the list, ..
      pub paging-end : rest ≡ [] → Paged xs first count at before now' done
      paging-end e = paged-same (sym (l.whole ∙ rw e (append-nil l.seen))) l.paged

      -- .. or of the page
      pub paging-full : done ≡ count → Paged xs first count at before now' done
      paging-full e =
          let z : count - done ≡ 0 = omega arith in
          let p = paging-more rest [] 0 now' (sym (append-nil rest)) (rw z (paged-empty rest skip (at + w * done) now')) in
          paged-same (sym (p.whole ∙ append-nil p.seen)) (subst (λ (k : ℕ). Paged p.seen first count at before now' k) (add-zero done) p.paged)

-- elements by way of others
pub paged-map : {A B : Type 0} (f : A → B) (words : B → List ℕ) (w : ℕ) (xs : List A) (first count at : ℕ) (before after : List ℕ) (n : ℕ)
    → Paged (λ x. words (f x)) w xs first count at before after n → Paged words w (map f xs) first count at before after n
paged-map f words w xs first count at before after n p =
    let e : page first count (map f xs) ≡ map f (page first count xs) = page-map f first count xs in
    record {
      number = p.number ∙ sym (ap length e ∙ length-map (page first count xs) f);
      contents = p.contents ∙ ap (sets before at) (sym (ap (each words) e ∙ each_map words f (page first count xs)));
    }
