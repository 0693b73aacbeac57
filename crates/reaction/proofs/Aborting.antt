-- Whether a pick is in a transaction that has an abort mark (18).
use Prim.Native.Nat.{ℕ, ◌≤◌}
use mathlib.Core.Bool.{Bool, true, false, ◌&&◌, not}
use mathlib.Core.List.{List, [], ◌∷◌}
use mathlib.Core.Path.{◌≡◌, refl, sym, ap, ◌∙◌}
use native.Mathlib.Omega.{arith}
use borrow.Author.Tests.{eq-eqb, ne_eqb}
use lib.ListN.{length, get_or}
use Rattle.lists.specs.Lists.{all, any, is_in}
use Rattle.lists.specs.Tests.{or-right-true}
use Rattle.lists.specs.Choices.{is_false, clash, and_right}
use Rattle.lists.specs.Members.{Among, all-each, all-intro, any_some, any-intro, is_in-among, among-is_in}
use Rattle.lists.specs.Counting.{any-weaker}
use Rattle.lists.specs.Found.{none_rows, any-keep}
use Rattle.semantics.specs.State.{State, is_abort_mark, owned}
use Rattle.semantics.specs.Move.{is_zero, may_abort, owners_fit, takes_part}
use Rattle.wellformed.specs.Picks.{fit-zero}
use Rattle.state.specs.declared.Extent.{Extent}
use Rattle.state.specs.Working.{row_of}
use Rattle.state.specs.Lent.{state_from}
use Rattle.state.specs.Arrays.{UnmarkedTo}
use Rattle.reaction.specs.Four.{four-places}

-- what a global rule picks is in no transaction
pub global-part : (s : State) (class : ℕ) (os : List ℕ) → owners_fit class os ≡ true → class ≡ 0 → all (takes_part s) os ≡ true
global-part s class os fit c = all-intro (takes_part s) os (λ o m. rw (eq-eqb o 0 (fit-zero class os fit c o m)))

part_free : (s : State) (o : ℕ) → may_abort o s ≡ false → takes_part s o ≡ true
part_free s o h = or-right-true (is_zero o) (ap not h)

-- where no abort mark stands, every transaction takes part
pub unmarked-part : (os ws gs : List ℕ) (at : Extent) {u : ℕ} → UnmarkedTo ws u → at.len ≤ u → (ids : List ℕ)
    → all (takes_part (state_from os ws gs at)) ids ≡ true
unmarked-part os ws gs at none l ids =
    let s = state_from os ws gs at in
    let clear : any is_abort_mark s.entries ≡ false = none_rows is_abort_mark (row_of os ws gs) 0 at.len (λ k a b. none k (omega arith)) in
    all-intro (takes_part s) ids (λ o m. part_free s o (sym (any-keep is_abort_mark (owned o) s.entries)
    ∙ any-weaker (λ e. owned o e && is_abort_mark e) is_abort_mark (λ e k. and_right (owned o e) (is_abort_mark e) k) s.entries clear))

-- picks in the transactions of the four ids
module _ (s : State) (os : List ℕ) (inside : (o : ℕ) → Among o os → 1 ≤ o) where
  pub inner-part : (four : List ℕ) → length four ≡ 4 → ((x : ℕ) → is_in x four ≡ is_in x os)
      → any (λ o. may_abort o s) (get_or four 0 0 ∷ get_or four 1 0 ∷ get_or four 2 0 ∷ get_or four 3 0 ∷ []) ≡ not (all (takes_part s) os)
  inner-part four l same = ap (any (λ o. may_abort o s)) (sym (four-places four l)) ∙ go (any (λ o. may_abort o s) four) refl
    where
      asks : any (λ o. may_abort o s) four ≡ true → all (takes_part s) os ≡ true → ⊥
      asks h k =
          let (o, m, a) = any_some (λ o. may_abort o s) four h in
          let m = is_in-among o os (sym (same o) ∙ among-is_in o four m) in
          let z : is_zero o ≡ false = ne_eqb o 0 (λ q. let l = inside o m in omega arith) in
          clash (all-each (takes_part s) os k o m) (rw (z, a))

      free : any (λ o. may_abort o s) four ≡ false → (o : ℕ) → Among o os → takes_part s o ≡ true
      free h o m = part_free s o (is_false (may_abort o s)
          (λ a. clash (any-intro (λ o. may_abort o s) four o (is_in-among o four (same o ∙ among-is_in o os m)) a) h))

      go : (b : Bool) → any (λ o. may_abort o s) four ≡ b → b ≡ not (all (takes_part s) os)
      go true h = ap not (sym (is_false (all (takes_part s) os) (asks h)))
      go false h = ap not (sym (all-intro (takes_part s) os (free h)))
