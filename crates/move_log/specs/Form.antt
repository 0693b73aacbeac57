-- What a log in order gives: its count, its length, and a place in it.
use Rattle.std.specs.Prelude.{ℕ, ◌+◌, ◌*◌, ◌≤◌, ◌<◌, ◌≡◌, true, ◌&&◌, List, leb, eqb, length}
use Rattle.std.proofs.Common.{leb-true, eqb-true}
use Rattle.lists.specs.Tests.{and_both}
use Rattle.semantics.specs.Log.{move_count, log_sizes_ok}

pub record LogSized (l : List ℕ) : Type 0 where
  pub few : move_count l ≤ 1024
  pub whole : length l ≡ 1 + 5 * move_count l

pub log-sized : (l : List ℕ) → log_sizes_ok l ≡ true → LogSized l
unfolding log_sizes_ok
log-sized l h =
    let (some, rest) = and_both (leb 1 (length l)) (leb (move_count l) 1024 && eqb (length l) (1 + 5 * move_count l)) h in
    let (few, whole) = and_both (leb (move_count l) 1024) (eqb (length l) (1 + 5 * move_count l)) rest in
    record { few = leb-true (move_count l) 1024 few; whole = eqb-true (length l) (1 + 5 * move_count l) whole }

-- a move stands at place i of a log in order
pub record Place (l : List ℕ) (i : ℕ) : Type 0 where
  pub sizes : LogSized l
  pub within : i < move_count l
