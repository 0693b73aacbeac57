-- What the parts of the state check say to each other.
use Rattle.std.specs.Prelude.{ℕ, ◌≡◌, Bool, true, cond, not, ◌&&◌, ◌||◌, List, eqb, leb, ltb, length}
use Rattle.lists.specs.Lists.{all, any, distinct}
use Rattle.semantics.specs.State.{Entry, is_message, is_compensation, is_abort_mark, is_member_mark, is_own_mark, owned, mark_values, entry_ok}
use Rattle.semantics.specs.Table.{port_count}
use Rattle.semantics.specs.declared.Sizes.{Sizes}
use Rattle.idset.specs.IdSet.{has}

-- ---- one entry by itself, by its kind

module _ (z : Sizes) (e : Entry) where
  -- a message on a port that its owner may use
  unfoldable pub message_fits : Bool
  message_fits = is_message e && ltb e.port (cond (owned 0 e) z.globals (port_count z))

  -- a compensation or an abort mark
  unfoldable pub other_fits : Bool
  other_fits = not (owned 0 e) && (is_compensation e && ltb e.port z.globals || is_abort_mark e && eqb e.port 0 && eqb e.value 0)

-- a member mark, apart from its kind
unfoldable pub mark_fits : ℕ → Entry → Bool
mark_fits next e = eqb e.port 0 && leb 1 e.owner && leb e.owner e.value && ltb e.value next

-- ---- sets of marks

-- e is no mark that was met
unfoldable pub new_mark : List ℕ → Entry → Bool
new_mark met e = not (is_member_mark e && has met e.value)

-- the sets of the marks met and of the own marks, after e
pub record Entered (e : Entry) (met own met' own' : List ℕ) : Type 0 where
  pub met-size : length met' ≡ 1024
  pub own-size : length own' ≡ 1024
  pub marks : (u : ℕ) → has met' u ≡ (is_member_mark e && eqb u e.value || has met u)
  pub owns : (u : ℕ) → has own' u ≡ (is_own_mark u e || has own u)

-- r says that e, which by itself fits or not, is entered
pub record Entering (r fits : Bool) (e : Entry) (met own met' own' : List ℕ) : Type 0 where
  pub answer : r ≡ (fits && new_mark met e)
  pub sets : r ≡ true → Entered e met own met' own'

-- the set of 0 and of the transactions of which es has the own mark
pub record OwnMarks (set : List ℕ) (es : List Entry) : Type 0 where
  pub size : length set ≡ 1024
  pub holds : (u : ℕ) → has set u ≡ (eqb u 0 || any (is_own_mark u) es)

-- r says that each of es fits and that the marks differ
pub record AllEntered (r : Bool) (z : Sizes) (next : ℕ) (es : List Entry) (own : List ℕ) : Type 0 where
  pub answer : r ≡ (all (entry_ok z next) es && distinct (mark_values es))
  pub set : r ≡ true → OwnMarks own es
