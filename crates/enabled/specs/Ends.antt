-- The commits and aborts that are open in a state: of the transactions that own something, those of which the end's own rule holds.
use Rattle.std.specs.Prelude.{ℕ, ◌-◌, ◌≤◌, Bool, true, false, ◌&&◌, map, ◌≡◌, refl, length}
use Rattle.std.proofs.Common.{ap, ◌∙◌, arith, le-leb, lt-ltb}
use Rattle.lists.specs.Lists.{any, keep, up_from}
use Rattle.lists.specs.Each.{keep_same}
use Rattle.lists.specs.Parts.{keep-map}
use Rattle.lists.specs.UpFrom.{up-each}
use Rattle.semantics.specs.Table.{Table}
use Rattle.semantics.specs.State.{State, owned}
use Rattle.semantics.specs.Move.{Move, commit, abort, unless, both, is_open, may_commit, may_abort, allowed, applied, move_verdict}
use Rattle.semantics.specs.Enabled.{is_allowed}
use Rattle.semantics.specs.declared.Refusal.TheVariants.{NoTransaction, EndNotAllowed, TooManyEntries}
use Rattle.wellformed.specs.Length.{length-commit, length-abort}
use Rattle.enabled.specs.Candidates.{all_ids}

-- 9, 10 and 12, of which 12 never counts
three-tests : (a b : Bool) {c : Bool} → c ≡ true
    → is_allowed (both (both (unless a NoTransaction) (unless b EndNotAllowed)) (unless c TooManyEntries)) ≡ a && b
three-tests true true e = rw e
three-tests true false e = refl
three-tests false b e = refl

module _ (ceiling : ℕ) (T : Table) (S : State) (few : length S.entries ≤ ceiling) where
  abbrev is_listed : Move → Bool
  is_listed m = is_allowed (move_verdict ceiling T S m)

  -- no transaction has the id 0
  commit-listed : (b : ℕ) → 1 ≤ b → is_listed (commit b) ≡ any (owned b) S.entries && may_commit T b S
  unfolding move_verdict allowed
  commit-listed b l =
      let k = length-commit T 0 S b in
      three-tests (is_open b S) (may_commit T b S) (le-leb (length (applied T 0 S (commit b)).entries) ceiling (omega arith)) ∙ rw (lt-ltb 0 b l)

  abort-listed : (b : ℕ) → 1 ≤ b → is_listed (abort b) ≡ any (owned b) S.entries && may_abort b S
  unfolding move_verdict allowed
  abort-listed b l =
      let k = length-abort T 0 S b in
      three-tests (is_open b S) (may_abort b S) (le-leb (length (applied T 0 S (abort b)).entries) ceiling (omega arith)) ∙ rw (lt-ltb 0 b l)

  ends_open : (end : ℕ → Move) (may : ℕ → Bool) → ((b : ℕ) → 1 ≤ b → is_listed (end b) ≡ any (owned b) S.entries && may b)
      → keep is_listed (map end (all_ids T S)) ≡ map end (keep (λ b. any (owned b) S.entries && may b) (all_ids T S))
  ends_open end may h =
      keep-map end is_listed (all_ids T S)
      ∙ ap (map end) (keep_same (λ b. is_listed (end b)) (λ b. any (owned b) S.entries && may b) (all_ids T S)
      (up-each (λ b. is_listed (end b) ≡ any (owned b) S.entries && may b) 1 (S.next - 1) (λ b l k. h b l)))

  pub commits-open : keep (λ m. is_allowed (move_verdict ceiling T S m)) (map commit (up_from 1 (S.next - 1)))
      ≡ map commit (keep (λ b. any (owned b) S.entries && may_commit T b S) (up_from 1 (S.next - 1)))
  commits-open = ends_open commit (λ b. may_commit T b S) commit-listed

  pub aborts-open : keep (λ m. is_allowed (move_verdict ceiling T S m)) (map abort (up_from 1 (S.next - 1)))
      ≡ map abort (keep (λ b. any (owned b) S.entries && may_abort b S) (up_from 1 (S.next - 1)))
  aborts-open = ends_open abort (λ b. may_abort b S) abort-listed
