-- 02, M-115: what a move would leave, told before it is made; and M-120: how many member marks it would remove.
use Rattle.std.specs.Prelude.{ℕ, cond, List, eqb, length}
use Rattle.lists.specs.Lists.{least}
use Rattle.semantics.specs.Table.{Table, Rule, rule_at, begins}
use Rattle.semantics.specs.State.{State}
use Rattle.semantics.specs.Move.{Move, react, commit, abort, move_of, owners_at, Stepped, to, refused, step_words}
use Rattle.semantics.specs.Members.{members_ended}
use Rattle.semantics.specs.declared.Previewed.{Previewed}
use Rattle.semantics.specs.declared.Previewed.TheVariants.{Accepted, Rejected}

-- The transaction that a reaction concerns: the one that its rule begins, which gets the next id; without a begin none (0) for a global rule, and else
-- the one that it is in, after a merge the smallest of those merged.
abbrev pub reaction_concerns : Rule → State → List ℕ → ℕ
reaction_concerns r s ps = cond (begins r) s.next (cond (eqb r.class 0) 0 (least (owners_at s ps)))

-- An end concerns the transaction that it ends.
abbrev pub concerned : Table → State → Move → ℕ
concerned t s (react r ps) = reaction_concerns (rule_at t r) s ps
concerned t s (commit b) = b
concerned t s (abort b) = b

-- Entries and next id are those of the state that the move leaves, the members those that it ends; a refused move has no figures.
abbrev pub foreseen_in : ℕ → ℕ → Stepped → Previewed
foreseen_in id members (to s) = Accepted (record { entries = length s.entries; next = s.next; id = id; members = members })
foreseen_in id members (refused r) = Rejected r

-- a move in words on a state: 5, then 7 to 12 and 18
unfoldable pub previewed : ℕ → Table → State → List ℕ → Previewed
previewed ceiling t s m = foreseen_in (concerned t s (move_of t m)) (members_ended s (move_of t m)) (step_words ceiling t 1 s m)
