-- The member marks of a transaction in lent columns: what the functions that read them say.
use Rattle.std.specs.Prelude.{ℕ, suc, ◌-◌, ◌≤◌, ◌<◌, ◌≡◌, Bool, true, false, ◌&&◌, cond, List, [], ◌∷◌, eqb, length, get_or}
use Rattle.lists.specs.Lists.{any, is_empty, is_in, keep}
use Rattle.lists.specs.Rows.{rows}
use Rattle.semantics.specs.State.{Origin, Entry, is_member_mark}
use Rattle.semantics.specs.Serial.{origins_of, same_origin}
use Rattle.words.specs.Origin.{origin_of}
use Rattle.state.specs.Arrays.{Arrays}

-- three columns of which the first n places are in use
pub record Lent (os ws gs : List ℕ) (n : ℕ) : Type 0 where
  pub arrays : Arrays os ws gs
  pub fits : n ≤ 1024

abbrev pub is_mark_of : ℕ → Entry → Bool
is_mark_of id e = is_member_mark e && is_in e.owner (id ∷ [])

-- `marks_in (id ∷ [])` of the entries
abbrev pub marks_of : ℕ → List Entry → List Origin
marks_of id es = origins_of (keep (is_mark_of id) es)

-- w is the word of one of these origins, 0 of none
pub record OneOf (w : ℕ) (os : List Origin) : Type 0 where
  pub some : is_empty os ≡ false → any (same_origin (origin_of w)) os ≡ true
  pub none : is_empty os ≡ true → w ≡ 0

-- one of these origins is of the move at place p
abbrev pub any_made_at : ℕ → List Origin → Bool
any_made_at p os = any (λ o. eqb o.maker (suc p)) os

-- the places where moves of these origins stand have the new word, the others keep theirs
pub record NotedAt (place : ℕ) (os : List Origin) (before after : List ℕ) : Type 0 where
  pub size : length after ≡ 1024
  pub each : (p : ℕ) → p < 1024 → get_or after p 0 ≡ cond (any_made_at p os) place (get_or before p 0)

-- .. those of the member marks of id in the rows from `from` to `stop`
abbrev pub RowsNoted : (ℕ → Entry) → ℕ → ℕ → ℕ → ℕ → List ℕ → List ℕ → Type 0
RowsNoted f id place from stop before after = NotedAt place (marks_of id (rows f from (stop - from))) before after
