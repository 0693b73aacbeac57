-- The log's acts as the arrays of the first pass hold them, and the replay of the second pass.
use Rattle.std.specs.Prelude.{ℕ, suc, ◌-◌, ◌*◌, ◌≡◌, Bool, true, false, ◌&&◌, cond, List, [], ◌∷◌, map, eqb, length, get_or, take, drop}
use Rattle.lists.specs.Lists.{any, is_empty}
use Rattle.semantics.specs.Table.{Table}
use Rattle.semantics.specs.State.{Origin, State}
use Rattle.semantics.specs.Move.{Move, react, commit, abort, allowed, move_ok, move_of, entry_at}
use Rattle.semantics.specs.Log.{move_at, head_of, four_picks}
use Rattle.semantics.specs.Serial.{Act, after, is_end, is_inner, same_origin, place_of, again, fits}
use Rattle.semantics.specs.declared.Verdict.TheVariants.{Allowed}
use Rattle.words.specs.Origin.{Maker, maker_in, origin_of}

-- o is the origin of a member concerned
abbrev pub concerns : Act → Origin → Bool
concerns a o = any (same_origin o) a.members

-- the members concerned were begun in the log
abbrev pub Begun : Act → Type 0
Begun a = (o : Origin) → concerns a o ≡ true → Maker o.maker

-- ---- the first pass

-- One act at its place: origins has four words for each move, members one, the origin of a member mark concerned, 0 for none.
pub record Recorded (t : Table) (l origins members : List ℕ) (a : Act) : Type 0 where
  pub move : a.move ≡ move_of t (move_at l a.place)
  pub picks : a.picks ≡ map origin_of (take (length a.picks) (drop (4 * a.place) origins))
  pub some : is_empty a.members ≡ false → concerns a (origin_of (get_or members a.place 0)) ≡ true
  pub none : is_empty a.members ≡ true → get_or members a.place 0 ≡ 0

-- a ends the member begun at place p
abbrev pub ends_begun : ℕ → Act → Bool
ends_begun p a = is_end a.move && any (λ o. eqb o.maker (suc p)) a.members

-- the place of the last act that does, e if none does
abbrev pub end_after : ℕ → ℕ → List Act → ℕ
end_after p e [] = e
end_after p e (a ∷ rest) = end_after p (cond (ends_begun p a) a.place e) rest

-- the key of an act: its own place, or the place of the end of its member
abbrev pub key_by : List Act → ℕ → Act → ℕ
key_by all member a = cond (is_inner a) (end_after (maker_in member - 1) 0 all) a.place

-- ---- the second pass

abbrev pub id_of : Move → ℕ
id_of (react r ps) = 0
id_of (commit b) = b
id_of (abort b) = b

abbrev pub words_of_move : Move → List ℕ
words_of_move m = head_of m ∷ four_picks m

-- one act again in the state c: its words are in order, it is allowed, and a commit or abort has the id that owns the marks of its members
pub record ActsAgain (t : Table) (c : State) (a : Act) : Type 0 where
  pub form : move_ok t (words_of_move (again c a a.move)) ≡ true
  pub words : move_of t (words_of_move (again c a a.move)) ≡ again c a a.move
  pub allows : allowed t c (again c a a.move) ≡ Allowed
  pub owner : is_end a.move ≡ true → (o : Origin) → concerns a o ≡ true → (entry_at c.entries (place_of c.entries o)).owner ≡ id_of (again c a a.move)
  pub present : is_end a.move ≡ true → is_empty a.members ≡ false

abbrev pub Replays : Table → State → List Act → Type 0
Replays t c [] = Unit
Replays t c (a ∷ rest) = ActsAgain t c a × Replays t (after t (suc a.place) c (again c a a.move)) rest

-- every state of the replay, the first included, has at most so many entries
abbrev pub replay_fits : ℕ → Table → State → List Act → Bool
replay_fits ceiling t c [] = fits ceiling c
replay_fits ceiling t c (a ∷ rest) = fits ceiling c && replay_fits ceiling t (after t (suc a.place) c (again c a a.move)) rest
