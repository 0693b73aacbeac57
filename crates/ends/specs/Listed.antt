-- A page of ends: what is said of it, and that it is one of the open commits or of the open aborts.
use Rattle.std.specs.Prelude.{ℕ, ◌-◌, ◌≤◌, Bool, true, false, ◌&&◌, not, cond, List, [], ◌∷◌, map, ◌≡◌, length, take}
use Rattle.std.proofs.Common.{sym, ap, ◌∙◌}
use Rattle.lists.specs.Lists.{any, keep, up_from}
use Rattle.lists.specs.Each.{keep_same, keep-both}
use Rattle.lists.specs.UpFrom.{up-each}
use Rattle.semantics.specs.Words.{head_word}
use Rattle.semantics.specs.Table.{Table}
use Rattle.semantics.specs.State.{State, owned}
use Rattle.semantics.specs.Move.{Move, commit, abort, may_commit, may_abort, move_verdict}
use Rattle.semantics.specs.Enabled.{is_allowed}
use Rattle.enabled.specs.Ends.{commits-open, aborts-open}
use Rattle.idset.specs.IdSet.{has}
use Rattle.transactions.specs.Sets.{TransactionSets, commit-unblocked, abort-marked}
use Rattle.transactions.specs.Ids.{IdsBelow}

-- v is in the set where that is wanted, and else it is not
abbrev pub agrees : Bool → List ℕ → ℕ → Bool
agrees wanted set v = cond wanted (has set v) (not (has set v))

-- the end of v, kind 1 a commit and 2 an abort
abbrev pub end_words : ℕ → ℕ → List ℕ
end_words kind v = head_word kind v ∷ 0 ∷ 0 ∷ 0 ∷ 0 ∷ []

-- ---- for callers

module _ (ceiling : ℕ) (T : Table) (S : State) (room : length S.entries ≤ ceiling) {globals : ℕ} (port : globals ≡ T.sizes.globals)
    {present blocked aborting ids : List ℕ} {m : ℕ} (sets : TransactionSets globals S.entries present blocked aborting)
    (listed : IdsBelow S.next (has present) ids m) where
  -- the open ones among the ends of all ids given out
  abbrev open_ends : (ℕ → Move) → List Move
  open_ends end = keep (λ x. is_allowed (move_verdict ceiling T S x)) (map end (up_from 1 (S.next - 1)))

  kept : (end : ℕ → Move) (may p : ℕ → Bool) → ((v : ℕ) → may v ≡ p v)
      → open_ends end ≡ map end (keep (λ v. any (owned v) S.entries && may v) (up_from 1 (S.next - 1)))
      → open_ends end ≡ map end (keep p (take m ids))
  kept end may p h e =
      let all = up_from 1 (S.next - 1) in
      e ∙ ap (map end) (keep_same (λ v. any (owned v) S.entries && may v) (λ v. has present v && p v) all
      (up-each (λ v. any (owned v) S.entries && may v ≡ has present v && p v) 1 (S.next - 1) (λ v _ _. rw (h v, sets.present-are v)))
      ∙ sym (keep-both (has present) p all) ∙ ap (keep p) (sym listed.list))

  pub commits-kept : open_ends commit ≡ map commit (keep (agrees false blocked) (take m ids))
  commits-kept = kept commit (λ v. may_commit T v S) (agrees false blocked) (λ v. commit-unblocked T v S ∙ rw (sets.blocked-are v, port))
      (commits-open ceiling T S room)

  pub aborts-kept : open_ends abort ≡ map abort (keep (agrees true aborting) (take m ids))
  aborts-kept = kept abort (λ v. may_abort v S) (agrees true aborting) (λ v. abort-marked v S ∙ sym (sets.aborting-are v)) (aborts-open ceiling T S room)
