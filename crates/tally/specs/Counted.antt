-- A tally after one move more, by what the move begins and ends.
use Rattle.std.specs.Prelude.{ℕ, ◌+◌, ◌<◌, ◌^◌, Bool, cond, not, eqb}
use Rattle.semantics.specs.declared.Tally.{Tally}

-- one move more, which begins, commits and aborts so many members
abbrev pub counted : Tally → ℕ → ℕ → ℕ → Tally
counted y begun committed aborted = record {
  moves = y.moves + 1;
  begun = y.begun + begun;
  committed = y.committed + committed;
  aborted = y.aborted + aborted;
}

-- A move of this kind that ends so many members: kind 1 is a commit, and of the others, as `move_of` has them, only an abort ends any.
abbrev pub moved_on : Tally → ℕ → Bool → ℕ → Tally
moved_on y kind begins members = counted y (cond begins 1 0) (cond (eqb kind 1) members 0) (cond (not (eqb kind 1)) members 0)

-- so many more can be counted
pub record Room (y : Tally) (b c a : ℕ) : Type 0 where
  pub moves : y.moves + 1 < 2 ^ 32
  pub begun : y.begun + b < 2 ^ 32
  pub committed : y.committed + c < 2 ^ 32
  pub aborted : y.aborted + a < 2 ^ 32

-- a begin, and members of a commit or of an abort
abbrev pub MoveRoom : Tally → ℕ → Type 0
MoveRoom y members = Room y 1 members members
