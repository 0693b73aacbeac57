-- What a turn of the pass over the entries does to the sets of their marks.
use Prim.Native.Nat.{ℕ}
use mathlib.Core.Path.{◌≡◌, refl, sym, ap, ◌∙◌}
use mathlib.Core.Bool.{Bool, true, false, not, ◌&&◌, ◌||◌, and_self, and-true, or-false, false≢true}
use mathlib.Core.List.{List, [], ◌∷◌}
use native.Mathlib.Omega.{arith}
use lib.Dec.{eqb}
use lib.ListN.{length, replicate}
use borrow.Author.Tests.{eqb-true, ne_eqb, not-true, not-false}
use Rattle.lists.specs.Lists.{all, any, distinct}
use Rattle.lists.specs.Tests.{and_both, false-and, and-right-false, true-or, eqb_swap}
use Rattle.lists.specs.Choices.{by_bool, and_left, and_intro}
use Rattle.lists.specs.Seen.{all-ext, unseen, unseen-ext, unseen-distinct}
use Rattle.semantics.specs.State.{Entry, is_message, is_member_mark, is_own_mark, mark_values, entry_ok, owner_ok, entries_of, next_of, owners_of, items_of, state_of, entries_ok}
use Rattle.wellformed.specs.States.{all-owners}
use Rattle.semantics.specs.declared.Sizes.{Sizes}
use Rattle.idset.specs.IdSet.{has, Inserted, empty}
use Rattle.state_check.specs.Check.{message_fits, other_fits, mark_fits, new_mark, Entered, Entering, OwnMarks, AllEntered}
use Rattle.state.specs.Parts.{Column}
use Rattle.state_check.proofs.ByKind.{by_kind}

-- ---- an entry entered

module _ {e : Entry} {met own : List ℕ} where
  entered-other : is_member_mark e ≡ false → length met ≡ 1024 → length own ≡ 1024 → Entered e met own met own
  entered-other k m o = record { met-size = m; own-size = o; marks = λ u. rw k; owns = λ u. rw k }

  module _ {met' : List ℕ} (k : is_member_mark e ≡ true) (put : Inserted e.value met met') where
    -- a mark in another transaction
    pub entered-mark : (e.value ≡ e.owner → ⊥) → length own ≡ 1024 → Entered e met own met' own
    entered-mark n o = record {
      met-size = put.size;
      own-size = o;
      marks = λ u. rw k (put.holds u);
      owns = λ u. ap (λ b. b || has own u) (sym (apart u));
    }
      where
        apart : (u : ℕ) → is_own_mark u e ≡ false
        apart u =
            by_bool (eqb e.value u)
            (λ q. let r : eqb e.owner u ≡ false = ne_eqb e.owner u (λ h. n (eqb-true e.value u q ∙ sym h)) in rw (k, q, r))
            (λ q. rw (k, q))

    -- the own mark of a transaction
    pub entered-own : {own' : List ℕ} → e.value ≡ e.owner → Inserted e.value own own' → Entered e met own met' own'
    entered-own q more = record {
      met-size = put.size;
      own-size = more.size;
      marks = λ u. rw k (put.holds u);
      owns = λ u. more.holds u ∙ ap (λ b. b || has own u) (sym (its u));
    }
      where
        its : (u : ℕ) → is_own_mark u e ≡ eqb u e.value
        its u = rw (k, ← q) (and_self (eqb e.value u) ∙ eqb_swap e.value u)

  pub entering : {fits : Bool} {met' own' : List ℕ} → fits ≡ true → new_mark met e ≡ true → Entered e met own met' own' → Entering true fits e met own met' own'
  entering f n t = record { answer = sym (and_intro f n); sets = λ q. t }

  pub unfit : {fits : Bool} {met' own' : List ℕ} → fits ≡ false → Entering false fits e met own met' own'
  unfit h = record { answer = sym (false-and (new_mark met e) h); sets = λ q. absurd (false≢true q) }

  pub not_new : {fits : Bool} {met' own' : List ℕ} → new_mark met e ≡ false → Entering false fits e met own met' own'
  not_new {fits} h = record { answer = sym (and-right-false fits h); sets = λ q. absurd (false≢true q) }

-- ---- .. by its kind

-- a mark is new where it is not in the set
pub new-mark : (met : List ℕ) (e : Entry) → is_member_mark e ≡ true → new_mark met e ≡ not (has met e.value)
unfolding new_mark
new-mark met e k = rw k

new-other : (met : List ℕ) (e : Entry) → is_member_mark e ≡ false → new_mark met e ≡ true
unfolding new_mark
new-other met e k = rw k

module _ (z : Sizes) (next : ℕ) (e : Entry) {met own : List ℕ} where
  pub enter-message : message_fits z e ≡ true → length met ≡ 1024 → length own ≡ 1024 → Entering true (entry_ok z next e) e met own met own
  unfolding message_fits
  enter-message h m o =
      let kind = eqb-true e.kind 0 (and_left (is_message e) _ h) in
      let k : is_member_mark e ≡ false = ne_eqb e.kind 3 (λ q. omega arith) in
      entering (by_kind z next e ∙ true-or _ h) (new-other met e k) (entered-other k m o)

  module _ (h : message_fits z e ≡ false) where
    pub enter-mark : {r : Bool} {met' own' : List ℕ} → is_member_mark e ≡ true → Entering r (mark_fits next e) e met own met' own'
        → Entering r (entry_ok z next e) e met own met' own'
    enter-mark k t =
        let same : entry_ok z next e ≡ mark_fits next e = by_kind z next e ∙ rw (h, k) in
        record { answer = rw same t.answer; sets = t.sets }

    pub enter-other : {r : Bool} → is_member_mark e ≡ false → r ≡ other_fits z e → length met ≡ 1024 → length own ≡ 1024
        → Entering r (entry_ok z next e) e met own met own
    enter-other k f m o =
        let same : entry_ok z next e ≡ other_fits z e = by_kind z next e ∙ rw (h, k) in
        record { answer = f ∙ rw (same, new-other met e k) (sym (and-true (other_fits z e))); sets = λ q. entered-other k m o }

-- ---- the marks differ

-- the marks of es differ from one another and from those met
unfoldable pub fresh : List ℕ → List Entry → Bool
fresh met es = unseen (has met) (mark_values es)

module _ (met : List ℕ) (e : Entry) (es : List Entry) where
  fresh-again : new_mark met e ≡ false → fresh met (e ∷ es) ≡ false
  unfolding fresh new_mark
  fresh-again h = let (k, m) = and_both (is_member_mark e) (has met e.value) (not-false _ h) in rw (k, m)

  fresh-next : {own met' own' : List ℕ} → new_mark met e ≡ true → Entered e met own met' own' → fresh met (e ∷ es) ≡ fresh met' es
  unfolding fresh new_mark
  fresh-next h t =
      by_bool (is_member_mark e)
      (λ k. let m : has met e.value ≡ false = not-true _ (rw k at h) in rw (k, m) (unseen-ext (λ u. sym (rw k at (t.marks u))) (mark_values es)))
      (λ k. rw k (unseen-ext (λ u. sym (rw k at (t.marks u))) (mark_values es)))

-- ---- each entry by itself, and the marks

module _ (z : Sizes) (next : ℕ) where
  unfoldable pub fine : List ℕ → List Entry → Bool
  fine met es = all (entry_ok z next) es && fresh met es

  pub fine-all : (es : List Entry) → fine (replicate 1024 0) es ≡ all (entry_ok z next) es && distinct (mark_values es)
  unfolding fine fresh
  fine-all es = ap (λ b. all (entry_ok z next) es && b) (unseen-ext empty (mark_values es) ∙ unseen-distinct (mark_values es))

  pub fine-none : (met : List ℕ) → fine met [] ≡ true
  unfolding fine fresh
  fine-none met = refl

  module _ (met : List ℕ) (e : Entry) (es : List Entry) where
    pub fine-fails : entry_ok z next e && new_mark met e ≡ false → fine met (e ∷ es) ≡ false
    unfolding fine
    fine-fails h =
        by_bool (entry_ok z next e)
        (λ k. and-right-false (all (entry_ok z next) (e ∷ es)) (fresh-again met e es (rw k at h)))
        (λ k. rw k)

    pub fine-next : {own met' own' : List ℕ} → entry_ok z next e && new_mark met e ≡ true → Entered e met own met' own' → fine met (e ∷ es) ≡ fine met' es
    unfolding fine
    fine-next h t = let (k, n) = and_both (entry_ok z next e) (new_mark met e) h in rw (k, fresh-next met e es n t)

-- ---- transactions that own their own mark

-- u is in the set or among the own marks of es
unfoldable pub owns : ℕ → List ℕ → List Entry → Bool
owns u own es = has own u || any (is_own_mark u) es

pub owns-start : {own : List ℕ} → OwnMarks own [] → (u : ℕ) (es : List Entry) → owns u own es ≡ (eqb u 0 || any (is_own_mark u) es)
unfolding owns
owns-start h u es = ap (λ b. b || any (is_own_mark u) es) (h.holds u ∙ or-false (eqb u 0))

pub owns_none : (u : ℕ) (own : List ℕ) → owns u own [] ≡ has own u
unfolding owns
owns_none u own = or-false (has own u)

or-left-swap : (a b c : Bool) → a || (b || c) ≡ b || a || c
or-left-swap true true c = refl
or-left-swap true false c = refl
or-left-swap false true c = refl
or-left-swap false false c = refl

pub owns-next : {e : Entry} {met own met' own' : List ℕ} → Entered e met own met' own' → (u : ℕ) (es : List Entry) → owns u own (e ∷ es) ≡ owns u own' es
unfolding owns
owns-next {e} {own = own} t u es = rw (t.owns u) (or-left-swap (has own u) (is_own_mark u e) (any (is_own_mark u) es))

-- only 0 is in the set
pub none-own : {own : List ℕ} → Inserted 0 (replicate 1024 0) own → OwnMarks own []
none-own put = record { size = put.size; holds = λ u. rw (put.holds u, empty u) }

-- ---- the two passes decide what 01 asks of all entries

module _ {z : Sizes} {s os ws own : List ℕ} {r : Bool} (o : Column os (owners_of s) s) (w : Column ws (items_of s) s)
    (t : AllEntered r z (next_of s) (entries_of 0 os ws) own) where
  columns : entries_of 0 os ws ≡ entries_of 0 (owners_of s) (items_of s)
  columns = rw (o.value, w.value)

  pub first-fails : r ≡ false → false ≡ entries_ok z (state_of s)
  unfolding entries_ok state_of
  first-fails q = sym (rw (← columns) (false-and _ (sym t.answer ∙ q)))

  pub second-decides : r ≡ true → all (has own) os ≡ entries_ok z (state_of s)
  unfolding entries_ok state_of
  second-decides q =
      let es = entries_of 0 os ws in
      let size : length os ≡ length ws = o.size ∙ sym w.size in
      let owners : all (has own) os ≡ all (owner_ok es) es = sym (all-owners (has own) 0 os ws size) ∙ all-ext (λ e. (t.set q).holds e.owner) es in
      rw (← columns) (owners ∙ sym (rw (sym t.answer ∙ q)))
