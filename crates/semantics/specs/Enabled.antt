-- 02, M-100: every move that is open in a state, in order, and a page of them.
use Rattle.std.specs.Prelude.{ℕ, ◌-◌, min, Bool, true, false, List, ◌∷◌, ◌++◌, map, length, take, drop}
use Rattle.lists.specs.Lists.{keep, up_from, each, tuples}
use Rattle.semantics.specs.Table.{Table, rule_at, consumed}
use Rattle.semantics.specs.State.{State}
use Rattle.semantics.specs.Move.{Move, react, commit, abort, move_verdict}
use Rattle.semantics.specs.Log.{head_of, four_picks}
use Rattle.semantics.specs.declared.Verdict.{Verdict}
use Rattle.semantics.specs.declared.Verdict.TheVariants.{Allowed, Denied}

-- ---- the list

-- a reaction by rule r for every choice of places below n, one for each of its consumes
abbrev pub reactions_of : Table → ℕ → ℕ → List Move
reactions_of t n r = map (react r) (tuples n (length (consumed (rule_at t r))))

-- What could be open, in the order of heads and then of picks: every reaction on the state's entries by every rule, then a commit and then an abort of
-- every id that has been given out.
abbrev pub candidates : Table → State → List Move
candidates t s =
    each (reactions_of t (length s.entries)) (up_from 0 (length t.rules))
    ++ map commit (up_from 1 (s.next - 1))
    ++ map abort (up_from 1 (s.next - 1))

abbrev pub is_allowed : Verdict → Bool
is_allowed Allowed = true
is_allowed (Denied r) = false

-- the open moves: those of them that would be made
unfoldable pub enabled : ℕ → Table → State → List Move
enabled ceiling t s = keep (λ m. is_allowed (move_verdict ceiling t s m)) (candidates t s)

-- ---- a page

-- a move as five words
abbrev pub move_words : Move → List ℕ
move_words m = head_of m ∷ four_picks m

-- A page has at most 256 moves: a larger count is read as that.
abbrev pub page_count : ℕ → ℕ
page_count count = min count 256

-- the moves from the place first on, and as many as the count says where there are so many
abbrev pub page_of : ℕ → ℕ → List Move → List Move
page_of first count ms = take (page_count count) (drop first ms)
