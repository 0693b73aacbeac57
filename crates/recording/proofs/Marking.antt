-- The loops over the member marks of a transaction.
use Prim.Native.Nat.{ℕ, suc, ◌+◌, ◌-◌, ◌≤◌, ◌<◌}
use mathlib.Core.Bool.{Bool, true, false, ◌&&◌, ◌||◌, cond}
use mathlib.Core.List.{List, [], ◌∷◌, ◌++◌, map-append}
use mathlib.Core.Logic.{◌⊎◌, ⊎_elim}
use mathlib.Core.Path.{◌≡◌, refl, sym, ap, subst, ◌∙◌}
use native.Mathlib.Omega.{arith}
use borrow.Author.Tests.{eqb-true, eqb-false, ne_eqb}
use lib.Dec.{eqb}
use lib.ListN.{length, get_or, set, length-set}
use lib.Seq.{get_or-set_same, get_or-set_other}
use Rattle.lists.specs.Lists.{keep}
use Rattle.lists.specs.Choices.{by_bool}
use Rattle.lists.specs.Tests.{and-right-false}
use Rattle.lists.specs.Each.{keep-none}
use Rattle.lists.specs.Parts.{keep_append}
use Rattle.lists.specs.Found.{any_append}
use Rattle.lists.specs.Rows.{rows, rows_none, rows_append, rows-each}
use Rattle.semantics.specs.Words.{item_kind}
use Rattle.semantics.specs.State.{Origin, Entry}
use Rattle.words.specs.Origin.{maker_in}
use Rattle.state.specs.Working.{row_of}
use Rattle.words.specs.Search.{in_chunk}
use Rattle.recording.specs.Marks.{is_mark_of, marks_of, any_made_at, NotedAt, RowsNoted}
use Rattle.words.specs.Search.{chunk-lacks}

-- the test as the code has it
is-mark : (k o id : ℕ) (b : Bool) → eqb k 3 && eqb o id ≡ b → eqb k 3 && (eqb o id || false) ≡ b
is-mark k o id b h = go (eqb o id) h
  where
    go : (c : Bool) → eqb k 3 && c ≡ b → eqb k 3 && (c || false) ≡ b
    go true h = h
    go false h = h

module _ (place maker : ℕ) (before : List ℕ) (size : length before ≡ 1024) where
  abbrev origin : Origin
  origin = record { maker = maker; index = 0 }

  pub noted-none : (maker ≡ 0) ⊎ (1024 < maker) → NotedAt place (origin ∷ []) before before
  noted-none h = record { size = size; each = λ p l. rw (ne_eqb maker (suc p) (λ e. ⊎_elim (λ z. omega arith) (λ u. omega arith) h)) }

  pub noted_one : 1 ≤ maker → maker ≤ 1024 → NotedAt place (origin ∷ []) before (set before (maker - 1) place)
  noted_one low high = record { size = length-set before (maker - 1) place ∙ size; each = λ p l. by_bool (eqb maker (suc p)) (same p l) (other p l) }
    where
      same : (p : ℕ) → p < 1024 → eqb maker (suc p) ≡ true
          → get_or (set before (maker - 1) place) p 0 ≡ cond (eqb maker (suc p) || false) place (get_or before p 0)
      same p l h =
          let e : p ≡ maker - 1 = omega (arith, eqb-true maker (suc p) h) in
          rw (h, e) (get_or-set_same before (maker - 1) place 0 (omega arith))

      other : (p : ℕ) → p < 1024 → eqb maker (suc p) ≡ false → get_or (set before (maker - 1) place) p 0 ≡ cond (eqb maker (suc p) || false) place
          (get_or before p 0)
      other p l h = rw h (get_or-set_other before (maker - 1) p place 0 (λ e. eqb-false maker (suc p) h (omega arith)))

-- ---- rows after rows

pub nothing-noted : (place : ℕ) {before : List ℕ} → length before ≡ 1024 → NotedAt place [] before before
nothing-noted place size = record { size = size; each = λ p l. refl }

-- what is noted last counts
noted-append : {place : ℕ} (xs ys : List Origin) {a b c : List ℕ} → NotedAt place xs a b → NotedAt place ys b c → NotedAt place (xs ++ ys) a c
noted-append {place} xs ys h k = record {
  size = k.size;
  each = λ p l. k.each p l ∙ rw (h.each p l, any_append (λ o. eqb o.maker (suc p)) xs ys) (order (any_made_at p xs) (any_made_at p ys) _);
}
  where
    order : (b c : Bool) (x : ℕ) → cond c place (cond b place x) ≡ cond (b || c) place x
    order true true x = refl
    order true false x = refl
    order false c x = refl

marks-append : (id : ℕ) (xs ys : List Entry) → marks_of id (xs ++ ys) ≡ marks_of id xs ++ marks_of id ys
marks-append id xs ys = rw (keep_append (is_mark_of id) xs ys) (map-append (λ e. e.origin) (keep (is_mark_of id) xs) (keep (is_mark_of id) ys))

module _ (f : ℕ → Entry) (id place : ℕ) where
  pub rows-noted : (from i stop : ℕ) → from ≤ i → i ≤ stop → {a b c : List ℕ} → RowsNoted f id place from i a b → RowsNoted f id place i stop b c
      → RowsNoted f id place from stop a c
  rows-noted from i stop low high {a} {b} {c} h k =
      let count : stop - from ≡ (i - from) + (stop - i) = omega arith in
      let at : from + (i - from) ≡ i = omega arith in
      let all : marks_of id (rows f from (stop - from)) ≡ marks_of id (rows f from (i - from)) ++ marks_of id (rows f i (stop - i)) =
      ap (λ (n : ℕ). marks_of id (rows f from n)) count
      ∙ ap (marks_of id) (rows_append f from (i - from) (stop - i))
      ∙ marks-append id (rows f from (i - from)) (rows f (from + (i - from)) (stop - i))
      ∙ ap (λ (j : ℕ). marks_of id (rows f from (i - from)) ++ marks_of id (rows f j (stop - i))) at in
      subst (λ (os : List Origin). NotedAt place os a c) (sym all) (noted-append (marks_of id (rows f from (i - from))) (marks_of id (rows f i (stop - i))) h k)

  pub no_rows : (from : ℕ) {a : List ℕ} → length a ≡ 1024 → RowsNoted f id place from from a a
  no_rows from {a} size =
      let e : from - from ≡ 0 = omega arith in
      rw (e, rows_none f from) (nothing-noted place size)

-- ---- one row

module _ (os ws gs : List ℕ) (id place i : ℕ) where
  pub row-noted : {maker : ℕ} → maker ≡ cond (eqb (item_kind (get_or ws i 0)) 3 && eqb (get_or os i 0) id) (maker_in (get_or gs i 0)) 0
      → {a b : List ℕ} → NotedAt place (record { maker = maker; index = 0 } ∷ []) a b → RowsNoted (row_of os ws gs) id place i (i + 1) a b
  unfolding rows
  row-noted {maker} is {a} {b} h =
      let one : i + 1 - i ≡ 1 = omega arith in
      rw one (record { size = h.size; each = λ p l. h.each p l ∙ ap (λ (c : Bool). cond c place (get_or a p 0)) (made p) })
    where
      made : (p : ℕ) → eqb maker (suc p) || false ≡ any_made_at p (marks_of id (row_of os ws gs i ∷ []))
      made p = by_bool (eqb (item_kind (get_or ws i 0)) 3 && eqb (get_or os i 0) id)
          (λ h. let q : is_mark_of id (row_of os ws gs i) ≡ true = is-mark (item_kind (get_or ws i 0)) (get_or os i 0) id true h in rw (q, is, h))
          (λ h. let q : is_mark_of id (row_of os ws gs i) ≡ false = is-mark (item_kind (get_or ws i 0)) (get_or os i 0) id false h in
          rw (q, is, h, ne_eqb 0 (suc p) (λ e. omega arith)))

-- ---- a chunk in which id owns nothing

pub chunk-unnoted : (os ws gs : List ℕ) (id place from stop : ℕ) → from ≤ stop → stop ≤ from + 32 → in_chunk os from id ≡ false → {a : List ℕ} → length a ≡ 1024
    → RowsNoted (row_of os ws gs) id place from stop a a
chunk-unnoted os ws gs id place from stop low high lacks size =
    rw (keep-none (is_mark_of id) (rows (row_of os ws gs) from (stop - from)) (rows-each (λ e. is_mark_of id e ≡ false) (row_of os ws gs) from (stop - from)
    (λ k l u. is-mark (item_kind (get_or ws k 0)) (get_or os k 0) id false
    (and-right-false (eqb (item_kind (get_or ws k 0)) 3) (ne_eqb (get_or os k 0) id (chunk-lacks os from id lacks k l (omega arith)))))))
    (nothing-noted place size)
