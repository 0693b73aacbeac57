-- The tests of what a transaction owns, and the verdict by what they found.
use Prim.Native.Nat.{ℕ, zero, suc, ◌+◌, ◌≤◌, ◌<◌}
use mathlib.Core.Path.{◌≡◌, refl, ap, ◌∙◌}
use mathlib.Core.Bool.{Bool, true, false, ◌&&◌, ◌||◌, not, cond}
use native.Mathlib.Numerals.{add-one}
use native.Mathlib.Omega.{arith}
use lib.Dec.{eqb, ltb, leb}
use borrow.Author.Tests.{ltb-true, ltb-false, lt-leb, le-leb, not-true}
use Rattle.lists.specs.Lists.{any, all_below}
use Rattle.lists.specs.Tests.{and_both}
use Rattle.lists.specs.Found.{Finding, finding-start, finding-next, finding-done, any-keep, all-neither}
use Rattle.lists.specs.Rows.{rows, rows_from, rows-tails}
use Rattle.semantics.specs.State.{Entry, State, is_message, is_abort_mark, owned}
use Rattle.semantics.specs.Move.{unless, both}
use Rattle.semantics.specs.declared.Refusal.TheVariants.{NoTransaction, EndNotAllowed}
use Rattle.ending.specs.End.{Surveyed, end_verdict}
use Rattle.ending.specs.declared.survey.Survey.{Survey}

-- a message on no global port
abbrev inside : ℕ → Entry → Bool
inside globals e = is_message e && leb globals e.port

-- the survey's loop before row i
pub record Surveying (id globals : ℕ) (row : ℕ → Entry) (n : ℕ) (o a m : Bool) (i : ℕ) : Type 0 where
  pub open-so-far : Finding (owned id) (rows_from row n) n o i (any (owned id) (rows row 0 n))
  pub aborting-so-far : Finding (λ e. owned id e && is_abort_mark e) (rows_from row n) n a i (any (λ e. owned id e && is_abort_mark e) (rows row 0 n))
  pub inside-so-far : Finding (λ e. owned id e && inside globals e) (rows_from row n) n m i (any (λ e. owned id e && inside globals e) (rows row 0 n))

surveying-start : (id globals : ℕ) (row : ℕ → Entry) (n : ℕ) → Surveying id globals row n false false false 0
surveying-start id globals row n = record {
  open-so-far = finding-start _ row n;
  aborting-so-far = finding-start _ row n;
  inside-so-far = finding-start _ row n;
}

module _ {id globals : ℕ} {row : ℕ → Entry} {n : ℕ} {o a m : Bool} {i : ℕ} (s : Surveying id globals row n o a m i) where
  pub surveying-next : i < n
      → Surveying id globals row n (o || owned id (row i)) (a || owned id (row i) && is_abort_mark (row i))
      (m || owned id (row i) && inside globals (row i)) (i + 1)
  surveying-next l = record {
    open-so-far = finding-next (rows-tails row n) s.open-so-far l;
    aborting-so-far = finding-next (rows-tails row n) s.aborting-so-far l;
    inside-so-far = finding-next (rows-tails row n) s.inside-so-far l;
  }

  pub surveying-done : n ≤ i → (next : ℕ) → Surveyed (record { «open» = o; aborting = a; inside = m })
      (record { next = next; entries = rows row 0 n }) id globals
  surveying-done l next = record {
    open_is = finding-done (rows-tails row n) s.open-so-far l;
    aborting-is = finding-done (rows-tails row n) s.aborting-so-far l ∙ any-keep is_abort_mark (owned id) (rows row 0 n);
    inside_is = finding-done (rows-tails row n) s.inside-so-far l ∙ any-keep (inside globals) (owned id) (rows row 0 n);
  }

-- the loop may begin at the first entry owned
pub surveying-from : (id globals : ℕ) (row : ℕ → Entry) (n i : ℕ) → i ≤ n → all_below i (λ k. not (owned id (row k))) ≡ true
    → Surveying id globals row n false false false i
surveying-from id globals row n zero l none = surveying-start id globals row n
surveying-from id globals row n (suc i) l none =
    let (a, b) = and_both (all_below i (λ k. not (owned id (row k)))) (not (owned id (row i))) none in
    let before = surveying-from id globals row n i (omega arith) a in
    rw (← add-one i) (rw (not-true (owned id (row i)) b) at (surveying-next before (omega arith)))

-- ---- the verdicts by what was found

-- either not a message, or on a global port
on-global : (globals : ℕ) (e : Entry) → not (is_message e) || ltb e.port globals ≡ not (inside globals e)
on-global globals e = go (is_message e) (ltb e.port globals) refl
  where
    go : (a b : Bool) → ltb e.port globals ≡ b → not a || b ≡ not (a && leb globals e.port)
    go true true h = rw (lt-leb globals e.port (ltb-true e.port globals h))
    go true false h = rw (le-leb globals e.port (ltb-false e.port globals h))
    go false b h = refl

pub end-found : {r : Survey} {s : State} {id globals : ℕ} → Surveyed r s id globals → (kind : ℕ)
    → both (unless (ltb 0 id && r.open) NoTransaction) (unless (cond (eqb kind 1) (not (r.aborting || r.inside)) r.aborting) EndNotAllowed)
    ≡ end_verdict kind globals id s
unfolding end_verdict
end-found {id = id} {globals = globals} f kind =
    rw (f.open_is, f.aborting-is, f.inside_is, all-neither is_abort_mark (inside globals) _ (λ e. ap (λ b. not (is_abort_mark e) && b) (on-global globals e)) _)
