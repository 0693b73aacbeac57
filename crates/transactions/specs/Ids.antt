-- The ids of open transactions in order: what the functions say of them, and what their callers use.
use Rattle.std.specs.Prelude.{ℕ, ◌-◌, ◌≤◌, ◌<◌, ◌≡◌, Bool, true, List, [], ◌++◌, length, get_or, take}
use Rattle.std.proofs.Common.{sym, ap, ◌∙◌, arith, get_or-take, length-take-le}
use Rattle.lists.specs.Lists.{any, keep, keep_if, up_from, count_if}
use Rattle.lists.specs.Counting.{count-weaker}
use Rattle.lists.specs.Members.{among-place, keep-among}
use Rattle.lists.specs.UpFrom.{up-among, keys-few}
use Rattle.lists.specs.Ascending.{Ascending, PlaceIn, ascending-front, keep-ascending}
use Rattle.semantics.specs.State.{Entry, owned}
use Rattle.idset.specs.IdSet.{has}
use Rattle.transactions.specs.Sets.{TransactionSets}

-- r numbers are in ids: the first n of those before, and v where b holds
pub record AddedIf (b : Bool) (v n : ℕ) (before ids : List ℕ) (r : ℕ) : Type 0 where
  pub size : length ids ≡ 1024
  pub fits : r ≤ 1024
  pub list : take r ids ≡ take n before ++ keep_if b v []

-- the first m of ids are the numbers from 1 on and below next of which p holds
pub record IdsBelow (next : ℕ) (p : ℕ → Bool) (ids : List ℕ) (m : ℕ) : Type 0 where
  pub size : length ids ≡ 1024
  pub fits : m ≤ 1024
  pub list : take m ids ≡ keep p (up_from 1 (next - 1))

module _ {next : ℕ} {p : ℕ → Bool} {ids : List ℕ} {m : ℕ} (h : IdsBelow next p ids m) where
  -- how many there are
  pub ids-count : m ≡ length (keep p (up_from 1 (next - 1)))
  ids-count = let l : m ≤ length ids = omega (arith, h.size, h.fits) in sym (length-take-le m ids l) ∙ ap length h.list

  pub ids-ascend : Ascending ids m
  ids-ascend = ascending-front ids m (rw (h.list, ids-count) (keep-ascending p 1 (next - 1)))

  pub ids-place : (v : ℕ) → 1 ≤ v → v < next → p v ≡ true → PlaceIn ids v 0 m
  ids-place v l k e =
      let (i, b, q) = among-place 0 (keep p (up_from 1 (next - 1))) v (keep-among p (up_from 1 (next - 1)) v (up-among 1 (next - 1) v l (omega arith)) e) in
      let c : i < m = omega (arith, ids-count) in
      record {
        place = i;
        low = omega arith;
        high = omega arith;
        here = sym (get_or-take m ids i 0 c) ∙ ap (λ (xs : List ℕ). get_or xs i 0) h.list ∙ q;
      }

-- no more transactions than entries
pub owners-few : (es : List Entry) (i n : ℕ) → count_if (λ v. any (owned v) es) (up_from i n) ≤ length es
owners-few es i n = keys-few (λ e. e.owner) es i n

pub present-few : {globals : ℕ} {es : List Entry} {present blocked aborting : List ℕ} → TransactionSets globals es present blocked aborting
    → (i n : ℕ) → count_if (has present) (up_from i n) ≤ length es
present-few {es = es} {present = present} sets i n =
    omega (arith, count-weaker (has present) (λ v. any (owned v) es) (λ v e. sym (sets.present-are v) ∙ e) (up_from i n), owners-few es i n)
