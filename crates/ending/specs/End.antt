-- What the functions of a transaction's end say.
use Rattle.std.specs.Prelude.{ℕ, ◌≤◌, ◌≡◌, true, ◌&&◌, ◌||◌, not, cond, List, eqb, ltb, leb, get_or}
use Rattle.lists.specs.Lists.{all, any, all_below}
use Rattle.semantics.specs.State.{State, is_message, is_abort_mark, owned}
use Rattle.semantics.specs.Move.{unless, both, is_open, entries_in, may_abort}
use Rattle.semantics.specs.declared.Verdict.{Verdict}
use Rattle.semantics.specs.declared.Refusal.TheVariants.{NoTransaction, EndNotAllowed}
use Rattle.ending.specs.declared.survey.Survey.{Survey}

-- the transaction owns nothing before place i of n
pub record NoneBefore (os : List ℕ) (id n i : ℕ) : Type 0 where
  pub within : i ≤ n
  pub none : all_below i (λ k. not (eqb (get_or os k 0) id)) ≡ true

pub record Surveyed (r : Survey) (s : State) (id globals : ℕ) : Type 0 where
  pub open_is : r.open ≡ any (owned id) s.entries
  pub aborting-is : r.aborting ≡ any is_abort_mark (entries_in id s)
  pub inside_is : r.inside ≡ any (λ e. is_message e && leb globals e.port) (entries_in id s)

-- 9, 10 of a commit (kind 1) or an abort
unfoldable pub end_verdict : ℕ → ℕ → ℕ → State → Verdict
end_verdict kind globals b s =
    both (unless (is_open b s) NoTransaction)
    (unless (cond (eqb kind 1) (all (λ e. not (is_abort_mark e) && (not (is_message e) || ltb e.port globals)) (entries_in b s)) (may_abort b s)) EndNotAllowed)
