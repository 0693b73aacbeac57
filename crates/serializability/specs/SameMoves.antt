-- The j-th move of the serial log is the log's move of the j-th place of the order, again.
use Rattle.std.specs.Prelude.{◌≡◌, refl, true, length, get_or}
use Rattle.std.proofs.Math.Path.{ap, subst}
use Rattle.std.proofs.Common.{◌∙◌, not-suc-le-zero, arith}
use Rattle.std.proofs.lemmas.Bool.{false≢true}
use mathlib.Core.List.{List, [], ◌∷◌, map}
use Prim.Native.Nat.{ℕ, zero, suc, ◌+◌, ◌<◌}
use Rattle.lists.specs.Lists.{up_from}
use Rattle.lists.specs.Choices.{by_bool}
use Rattle.lists.specs.Each.{All, All-map}
use Rattle.semantics.specs.Table.{Table}
use Rattle.semantics.specs.State.{Origin, State}
use Rattle.semantics.specs.Move.{Move, react, commit, abort}
use Rattle.semantics.specs.Serial.{Act, members_of, after, is_begin, again, replayed}
use Rattle.serializability.specs.Statement.{state_before, SameMove, reaction, committed, aborted, no_move, move_in, log_state}
use Rattle.cells.specs.Origins.{is_in_o}
use Rattle.cells.specs.ByOrigin.{Uniq}
use Rattle.cells.specs.Deeds.{Deed, handled, act_of}
use Rattle.serializability.specs.Keys.{deeds}
use Rattle.cells.specs.Replay.{Again, reacts, commits, aborts, Agains}
use Rattle.serializability.specs.Keys.{deeds}

pub again-same : (s c : State) (os : List Origin) {m m' : Move} → Again c os m m' → os ≡ handled s m → SameMove s c m m'
unfolding handled
again-same s c os (reacts r ps ps' h) q = reaction r ps ps' (h ∙ q)
again-same s c os (commits b b' h k) q = committed b b' (record { members = λ o. h o ∙ ap (is_in_o o) q; smallest = k })
again-same s c os (aborts b b' h k) q = aborted b b' (record { members = λ o. h o ∙ ap (is_in_o o) q; smallest = k })

-- a is the move at place n of a log whose first move has the place i
pub record PlacedAt (t : Table) (i : ℕ) (s : State) (ms : List Move) (a : Deed) (n : ℕ) : Type 0 where
  pub move : a.move ≡ get_or ms n no_move
  pub picks : a.picks ≡ handled (state_before t (up_from i (length ms)) s ms n) a.move
  pub members : a.members ≡ members_of t a.place (state_before t (up_from i (length ms)) s ms n) a.move

-- a is the log's move at its place
abbrev pub Placed : Table → State → List Move → Deed → Type 0
Placed t s ms a = PlacedAt t 0 s ms a a.place

deeds-placed : (t : Table) (i : ℕ) (s : State) (ms : List Move)
    → All (λ a. (n : ℕ) × (a.place ≡ i + n) × PlacedAt t i s ms a n) (deeds t i s ms)
unfolding deeds state_before
deeds-placed t i s [] = tt
deeds-placed t i s (m ∷ ms) = (
  (0, omega arith, record { move = refl; picks = refl; members = refl }),
  All-map {P = λ a. (n : ℕ) × (a.place ≡ suc i + n) × PlacedAt t (suc i) (after t (suc i) s m) ms a n}
      {Q = λ a. (n : ℕ) × (a.place ≡ i + n) × PlacedAt t i s (m ∷ ms) a n}
      (λ a h. (suc h.0, (let w = h.1 in omega arith), record { move = h.2.move; picks = h.2.picks; members = h.2.members }))
      (deeds t (suc i) (after t (suc i) s m) ms) (deeds-placed t (suc i) (after t (suc i) s m) ms),
)

pub all_placed : (t : Table) (s : State) (ms : List Move) → All (Placed t s ms) (deeds t 0 s ms)
all_placed t s ms = All-map {P = λ a. (n : ℕ) × (a.place ≡ 0 + n) × PlacedAt t 0 s ms a n} {Q = Placed t s ms}
    (λ a h. let w : h.0 ≡ a.place = (let v = h.1 in omega arith) in subst (PlacedAt t 0 s ms a) w h.2) (deeds t 0 s ms) (deeds-placed t 0 s ms)

-- ---- the j-th of the moves ds, made again from c

module _ (t : Table) (s : State) (ms : List Move) where
  abbrev places_in : List Deed → List ℕ
  places_in ds = map (λ a. a.place) ds

  abbrev again_in : State → List Deed → List Move
  again_in c ds = replayed t c (map act_of ds)

  abbrev after_first : State → Deed → State
  after_first c a = after t (suc a.place) c (again c (act_of a) a.move)

  pub same-moves : (ds : List Deed) (c : State) → Agains t c ds → All (Placed t s ms) ds → (j : ℕ) → j < length ds
      → SameMove (log_state t s ms (get_or (places_in ds) j 0)) (state_before t (places_in ds) c (again_in c ds) j) (move_in ms (get_or (places_in ds) j 0))
      (move_in (again_in c ds) j)
  unfolding replayed state_before
  same-moves [] c A P j h = absurd (not-suc-le-zero h)
  same-moves (a ∷ ds) c A P zero h =
      subst (λ (m : Move). SameMove (log_state t s ms a.place) c m (again c (act_of a) a.move)) P.0.move
      (again-same (log_state t s ms a.place) c a.picks A.1.same P.0.picks)
  same-moves (a ∷ ds) c A P (suc j) h = same-moves ds (after_first c a) A.2 P.1 j (omega arith)

  -- a begin has one member, that of its place, wherever it is made
  begun-member : (i : ℕ) (x c : State) (a : Act) (m : Move) → is_begin t m ≡ true → members_of t i c (again c a m) ≡ members_of t i x m
  unfolding again
  begun-member i x c a (react r ps) b = rw b
  begun-member i x c a (commit v) b = absurd (false≢true b)
  begun-member i x c a (abort v) b = absurd (false≢true b)

  pub same-members : (ds : List Deed) (c : State) → Agains t c ds → All (Placed t s ms) ds → (j : ℕ) → j < length ds → (o : Origin)
      → is_in_o o (members_of t (get_or (places_in ds) j 0) (state_before t (places_in ds) c (again_in c ds) j) (move_in (again_in c ds) j))
      ≡ is_in_o o (members_of t (get_or (places_in ds) j 0) (log_state t s ms (get_or (places_in ds) j 0)) (move_in ms (get_or (places_in ds) j 0)))
  unfolding replayed state_before
  same-members [] c A P j h o = absurd (not-suc-le-zero h)
  same-members (a ∷ ds) c A P zero h o =
      subst (λ (m : Move). is_in_o o (members_of t a.place c (again c (act_of a) a.move)) ≡ is_in_o o (members_of t a.place (log_state t s ms a.place) m))
      P.0.move
      (by_bool (is_begin t a.move) (λ b. ap (is_in_o o) (begun-member a.place (log_state t s ms a.place) c (act_of a) a.move b))
      (λ b. A.1.members b o ∙ ap (is_in_o o) P.0.members))
  same-members (a ∷ ds) c A P (suc j) h o = same-members ds (after_first c a) A.2 P.1 j (omega arith) o

pub serial-uniq : (t : Table) (ds : List Deed) (c : State) → Agains t c ds → (j : ℕ) → j < length ds
    → Uniq (state_before t (map (λ a. a.place) ds) c (replayed t c (map act_of ds)) j).entries
unfolding replayed state_before
serial-uniq t [] c A j h = absurd (not-suc-le-zero h)
serial-uniq t (a ∷ ds) c A zero h = A.0
serial-uniq t (a ∷ ds) c A (suc j) h = serial-uniq t ds (after t (suc a.place) c (again c (act_of a) a.move)) A.2 j (omega arith)
