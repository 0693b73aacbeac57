-- For callers: the code's count of an accepted move is the definition's. Whether it begins is told by the next id, which a begin alone raises.
use Prim.Native.Nat.{ℕ, suc, ◌+◌}
use Rattle.std.specs.Prelude.{Bool, false, not, cond, List, ◌≡◌, eqb, get_or, take, drop}
use Rattle.std.proofs.Math.Bool.{true}
use Rattle.std.proofs.Math.Path.{refl}
use Rattle.std.proofs.Common.{ap, arith, eq-eqb, ne_eqb}
use Rattle.std.proofs.Math.Nat.{add-zero}
use Rattle.lists.specs.Lists.{one_if}
use Rattle.semantics.specs.Words.{head_kind, head_number}
use Rattle.semantics.specs.Table.{Table, rule_at, begins}
use Rattle.semantics.specs.State.{State}
use Rattle.semantics.specs.Move.{Move, react, commit, abort, picks_used, move_of, reacted, ended, applied}
use Rattle.semantics.specs.Members.{members_ended}
use Rattle.semantics.specs.Tally.{tallied}
use Rattle.semantics.specs.declared.Tally.{Tally}
use Rattle.tally.specs.Counted.{counted, moved_on}

module _ (t : Table) (i : ℕ) (s : State) (y : Tally) where
  -- whether a move raises the next id
  abbrev raises : Move → Bool
  raises m = not (eqb s.next (applied t i s m).next)

  none : (b : Bool) → cond {A = ℕ} b 0 0 ≡ 0
  none true = refl
  none false = refl

  by_kind : (b₀ b₁ : Bool) (n : ℕ) (ps : List ℕ) (m : Move) → m ≡ cond b₀ (react n ps) (cond b₁ (commit n) (abort n))
      → counted y (cond (raises m) 1 0) (cond b₁ (members_ended s m) 0) (cond (not b₁) (members_ended s m) 0) ≡ tallied t s m y
  unfolding applied reacted ended
  by_kind true b₁ n ps m e = rw (e, none b₁, none (not b₁), add-zero y.committed, add-zero y.aborted) (ap begun (by-begin (begins (rule_at t n))))
    where
      begun : ℕ → Tally
      begun k = record { moves = y.moves + 1; begun = y.begun + k; committed = y.committed; aborted = y.aborted }

      by-begin : (b : Bool) → cond (not (eqb s.next (cond b (suc s.next) s.next))) 1 0 ≡ one_if b
      by-begin true = rw (ne_eqb s.next (suc s.next) (λ h. omega arith))
      by-begin false = rw (eq-eqb s.next s.next refl)
  by_kind false true n ps m e = rw (e, eq-eqb s.next s.next refl, add-zero y.begun, add-zero y.aborted)
  by_kind false false n ps m e = rw (e, eq-eqb s.next s.next refl, add-zero y.begun, add-zero y.committed)

  pub moved-tallied : (w : List ℕ) → moved_on y (head_kind (get_or w 0 0)) (raises (move_of t w)) (members_ended s (move_of t w)) ≡ tallied t s (move_of t w) y
  unfolding move_of
  moved-tallied w =
      by_kind (eqb (head_kind (get_or w 0 0)) 0) (eqb (head_kind (get_or w 0 0)) 1) (head_number (get_or w 0 0)) (take (picks_used t (get_or w 0 0)) (drop 1 w))
      (move_of t w) refl
