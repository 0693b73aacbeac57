-- Demand 3 on decoded moves: of every log accepted from a state without open transactions, and ending in one.
use Rattle.std.specs.Prelude.{◌≡◌, Bool, true, false, not, ◌&&◌, ◌||◌, ℕ, suc, ◌≤◌, ◌<◌, get_or}
use Rattle.std.proofs.Math.Path.{refl, sym, ap, subst}
use Rattle.std.proofs.Common.{◌∙◌}
use mathlib.Core.List.{List, [], ◌∷◌, ◌++◌, map}
use native.Mathlib.Omega.{arith}
use Rattle.std.proofs.Math.ListN.{length}
use Rattle.std.proofs.lemmas.List.{length-map}
use Rattle.lists.specs.Lists.{any, keep, count_if, up_from}
use Rattle.lists.specs.Parts.{any-map}
use Rattle.lists.specs.Counting.{count_map}
use Rattle.lists.specs.Each.{All, All-unmap, map-split}
use Rattle.semantics.specs.Table.{Table}
use Rattle.semantics.specs.State.{Origin, Entry, State, owned, state_words}
use Rattle.semantics.specs.Move.{Move, applied}
use Rattle.semantics.specs.Serial.{Act, begins_emit, any_open, same_origin, members_of, after, acts, is_end, is_inner, belongs_to, ordered, again, replayed, serial, along, is_begin}
use Rattle.serializability.specs.Statement.{Accepted, order_of, places_of, state_before, SameMove, has_origin, no_move, move_in, place_at, log_state, serial_state, is_made_inside, ends_member_of, is_global, Serial}
use Rattle.cells.specs.ByOrigin.{Uniq}
use Rattle.cells.specs.Rules.{Shaped}
use Rattle.cells.specs.Shapes.{table-shaped}
use Rattle.cells.specs.Deeds.{Deed, act_of}
use Rattle.serializability.specs.Keys.{deeds, acts-deeds, deeds-length, deeds-places}
use Rattle.cells.specs.Moves.{after-allowed}
use Rattle.cells.specs.Simulation.{view, Good}
use Rattle.serializability.specs.SameKey.{LogRuns, runs, pairs}
use Rattle.cells.specs.Steps.{NoneOpen}
use Rattle.serializability.specs.LogOnCells.{log-runs}
use Rattle.serializability.specs.Sort.{isort, sort-runs, count-isort, All-isort}
use Rattle.serializability.specs.Ordered.{block-there, outer-order}
use Rattle.serializability.specs.Blocks.{order-sorted}
use Rattle.serializability.specs.OneBlock.{one-block-of}
use Rattle.serializability.specs.BegunBefore.{begun_in, begun-before-of}
use Rattle.cells.specs.Replay.{again-known, Goes, Ends, replay-runs}
use Rattle.serializability.specs.SameMoves.{Placed, all_placed, same-moves, same-members, serial-uniq}
use Rattle.serializability.specs.InnerMoves.{inner-is}
use Rattle.cells.specs.Origins.{is_in_o}
use Rattle.serializability.specs.States.{origin-once, log-uniq, along-same}
use Rattle.wellformed.specs.Rules.{TableRight}
use Rattle.wellformed.specs.Entries.{Sound}
use Rattle.wellformed.specs.Preservation.{RuleKnown, applied-keeps}
use Rattle.wellformed.specs.Bare.{bare, bare_state, words_same, allowed_same, applied-same}
use Rattle.cells.specs.Start.{Start, uniq-numbered, closed-messages, closed-view, kind-start, good_start, rel-start}
use Rattle.cells.specs.SameCells.{end-closed, messages-same}

-- ---- the end

pub sound-runs : (t : Table) → TableRight t → (i : ℕ) (s : State) (ms : List Move) (e : State) → Accepted t i s ms e → Sound t.sizes s → All (RuleKnown t) ms
    → Sound t.sizes e
sound-runs t right i s [] e h sound known = subst (Sound t.sizes) h sound
sound-runs t right i s (m ∷ ms) e h sound known = sound-runs t right (suc i) (applied t (suc i) s m) ms e h.1
    (applied-keeps right sound (suc i) m known.0 h.0)
    known.1

-- ---- the serial log is a run, with its own places for makers

goes-accepted : (t : Table) (xs : List Act) (i : ℕ) (s c c' : State) → bare_state s ≡ bare_state c → Goes t c xs c'
    → (e : State) × Accepted t i s (replayed t c xs) e × (bare_state e ≡ bare_state c')
unfolding replayed
goes-accepted t [] i s c c' b h = (s, refl, b ∙ ap bare_state h)
goes-accepted t (a ∷ xs) i s c c' b h =
    let m = again c a a.move in
    let n = applied-same s c b t (suc i) (suc a.place) m ∙ ap bare_state (sym (after-allowed t (suc a.place) c m h.0)) in
    let r = goes-accepted t xs (suc i) (applied t (suc i) s m) (after t (suc a.place) c m) c' n h.1 in
    (r.0, (allowed_same s c b t m ∙ h.0, r.1), r.2)

-- one move for each act
pub replayed-length : (t : Table) (c : State) (xs : List Act) → length (replayed t c xs) ≡ length xs
unfolding replayed
replayed-length t c [] = refl
replayed-length t c (a ∷ xs) = ap suc (replayed-length t (after t (suc a.place) c (again c a a.move)) xs)

count-bare : (p : Entry → Bool) → ((x : Entry) → p (bare x) ≡ p x) → (l : List Entry) → count_if p (map bare l) ≡ count_if p l
count-bare p h [] = refl
count-bare p h (x ∷ l) = rw (h x, count-bare p h l)

pub deeds-known : (t : Table) (i : ℕ) (s : State) (ms : List Move) → All (RuleKnown t) ms → All (λ a. RuleKnown t a.move) (deeds t i s ms)
unfolding deeds
deeds-known t i s [] h = tt
deeds-known t i s (m ∷ ms) h = (h.0, deeds-known t (suc i) (after t (suc i) s m) ms h.1)

replayed-known : (t : Table) (c : State) (xs : List Act) → All (λ a. RuleKnown t a.move) xs → All (RuleKnown t) (replayed t c xs)
unfolding replayed
replayed-known t c [] h = tt
replayed-known t c (a ∷ xs) h = (again-known t c a a.move h.0, replayed-known t (after t (suc a.place) c (again c a a.move)) xs h.1)

-- ---- the theorem

module _ (t : Table) (right : TableRight t) (ne : begins_emit t ≡ false) (s : State) (S : Start t.sizes s) (ms : List Move) (known : All (RuleKnown t) ms)
    (e : State)
    (run : Accepted t 0 s ms e) (cl : any_open e ≡ false) where
  pub sd : Shaped t
  sd = table-shaped t right ne

  unfoldable pub ds : List Deed
  ds = deeds t 0 s ms

  pub g : Good 0 (view s)
  g = good_start t.sizes s S

  pub ran : LogRuns t 0 (view s) ds (view e) × Uniq e.entries
  unfolding ds
  ran = log-runs t sd 0 s ms e (uniq-numbered 0 s.entries S.numbered) g run

  pub shut : NoneOpen (view e)
  shut = closed-view e cl

  acts-are : acts t 0 s ms ≡ map act_of ds
  unfolding ds
  acts-are = acts-deeds t 0 s ms

  order_is : order_of t s ms ≡ map act_of (isort ds)
  order_is = ap (ordered []) acts-are ∙ order-sorted t sd (view e) ds (view s) g ran.0 shut

  serial-is : serial t s ms ≡ replayed t s (map act_of (isort ds))
  unfolding serial
  serial-is = ap (replayed t s) order_is

  places-are : places_of t s ms ≡ map (λ a. a.place) (isort ds)
  places-are = ap (map (λ a. a.place)) order_is ∙ places (isort ds)
    where
      places : (xs : List Deed) → map (λ a. a.place) (map act_of xs) ≡ map (λ a. a.place) xs
      places [] = refl
      places (x ∷ xs) = λ j. x.place ∷ places xs j

  placed-log : All (Placed t s ms) ds
  unfolding ds
  placed-log = all_placed t s ms

  known-log : All (λ a. RuleKnown t a.move) ds
  unfolding ds
  known-log = deeds-known t 0 s ms known

  pub again-runs : Ends t s (isort ds) (view e)
  again-runs = replay-runs t right sd (isort ds) s (view s) (view e) (λ v. v) (rel-start t.sizes s S) S.sound
      (All-isort (λ a. RuleKnown t a.move) ds known-log)
      (sort-runs t (view e) ds (view s) (pairs t sd (view e) 0 (view s) ds g ran.0) (runs t 0 (view s) ds (view e) ran.0))

  -- the serial log's rules are the table's
  pub serial-known : All (RuleKnown t) (serial t s ms)
  serial-known = subst (All (RuleKnown t)) (sym serial-is) (replayed-known t s (map act_of (isort ds))
      (All-unmap act_of (λ a. RuleKnown t a.move) (isort ds) (All-isort (λ a. RuleKnown t a.move) ds known-log)))

  accepted : (z : State) × Accepted t 0 s (replayed t s (map act_of (isort ds))) z × (bare_state z ≡ bare_state again-runs.state)
  accepted = goes-accepted t (map act_of (isort ds)) 0 s s again-runs.state refl again-runs.all_go

  sorted-length : length (isort ds) ≡ length ms
  unfolding ds
  sorted-length = go
    where
      go : length (isort (deeds t 0 s ms)) ≡ length ms
      go = counts (isort (deeds t 0 s ms)) ∙ count-isort (λ _. true) (deeds t 0 s ms) ∙ sym (counts (deeds t 0 s ms)) ∙ deeds-length t 0 s ms
        where
          counts : (xs : List Deed) → length xs ≡ count_if (λ _. true) xs
          counts [] = refl
          counts (x ∷ xs) = let h = counts xs in omega arith

  pub once : (p : ℕ → Bool) → count_if p (places_of t s ms) ≡ count_if p (up_from 0 (length ms))
  unfolding ds
  once p = ap (count_if p) places-are ∙ count_map (λ a. a.place) p (isort (deeds t 0 s ms)) ∙ count-isort (λ a. p a.place) (deeds t 0 s ms)
      ∙ sym (count_map (λ a. a.place) p (deeds t 0 s ms)) ∙ ap (count_if p) (deeds-places t 0 s ms)

  pub one_block : (xs ys : List Act) (x : Act) → acts t 0 s ms ≡ xs ++ x ∷ ys → is_inner x ≡ true
      → (count_if (ends_member_of x) (acts t 0 s ms) ≡ 1) × (count_if (ends_member_of x) ys ≡ 1)
  one_block xs ys x q h = go (map-split act_of ds xs ys x (sym acts-are ∙ q))
    where
      go : (us : List Deed) × (u : Deed) × (vs : List Deed) × (ds ≡ us ++ u ∷ vs) × (map act_of us ≡ xs) × (act_of u ≡ x) × (map act_of vs ≡ ys)
          → (count_if (ends_member_of x) (acts t 0 s ms) ≡ 1) × (count_if (ends_member_of x) ys ≡ 1)
      go (us, u, vs, p, a, b, c) =
          let r = one-block-of t sd (view e) us (view s) u vs g (subst (λ (l : List Deed). LogRuns t 0 (view s) l (view e)) p ran.0) shut
          (subst (λ (y : Act). is_inner y ≡ true) (sym b) h) in (
            ap (λ (y : Act). count_if (ends_member_of y) (acts t 0 s ms)) (sym b) ∙ ap (count_if (ends_member_of (act_of u))) acts-are
                ∙ count_map act_of (ends_member_of (act_of u)) ds
                ∙ ap (count_if (λ a. ends_member_of (act_of u) (act_of a))) p ∙ r.0,
            ap (λ (y : Act). count_if (ends_member_of y) ys) (sym b) ∙ ap (count_if (ends_member_of (act_of u))) (sym c)
                ∙ count_map act_of (ends_member_of (act_of u)) vs
                ∙ r.1,
          )

  pub begun-before : (xs ys : List Act) (a : Act) → acts t 0 s ms ≡ xs ++ a ∷ ys → is_end a.move ≡ true
      → (o : Origin) → any (same_origin o) a.members ≡ true → any (λ x. is_begin t x.move && any (same_origin o) x.members) xs ≡ true
  begun-before xs ys a q h o m = go (map-split act_of ds xs ys a (sym acts-are ∙ q))
    where
      same : (us : List Deed) → any (λ x. is_begin t x.move && any (same_origin o) x.members) (map act_of us) ≡ begun_in t o us
      same [] = refl
      same (u ∷ us) = rw (same us)

      go : (us : List Deed) × (u : Deed) × (vs : List Deed) × (ds ≡ us ++ u ∷ vs) × (map act_of us ≡ xs) × (act_of u ≡ a) × (map act_of vs ≡ ys)
          → any (λ x. is_begin t x.move && any (same_origin o) x.members) xs ≡ true
      go (us, u, vs, p, x, b, c) =
          ap (any (λ x. is_begin t x.move && any (same_origin o) x.members)) (sym x) ∙ same us
          ∙ begun-before-of t sd us (view s) (view e) u vs g (λ o c k z. let w = kind-start t.sizes s S o c k in omega arith)
          (subst (λ (l : List Deed). LogRuns t 0 (view s) l (view e)) p ran.0)
          (subst (λ (y : Act). is_end y.move ≡ true) (sym b) h) o (subst (λ (y : Act). any (same_origin o) y.members ≡ true) (sym b) m)

  same_at : (j : ℕ) → j < length ms
      → SameMove (state_before t (up_from 0 (length ms)) s ms (get_or (places_of t s ms) j 0)) (state_before t (places_of t s ms) s (serial t s ms) j)
      (get_or ms (get_or (places_of t s ms) j 0) no_move) (get_or (serial t s ms) j no_move)
  same_at j h =
      subst (λ (ps : List ℕ). SameMove (state_before t (up_from 0 (length ms)) s ms (get_or ps j 0)) (state_before t ps s (serial t s ms) j)
      (get_or ms (get_or ps j 0) no_move)
      (get_or (serial t s ms) j no_move)) (sym places-are)
      (subst (λ (l : List Move). SameMove (state_before t (up_from 0 (length ms)) s ms (get_or (map (λ a. a.place) (isort ds)) j 0))
      (state_before t (map (λ a. a.place) (isort ds)) s l j) (get_or ms (get_or (map (λ a. a.place) (isort ds)) j 0) no_move) (get_or l j no_move))
      (sym serial-is)
      (same-moves t s ms (isort ds) s again-runs.agains placed j (let w = sorted-length in omega arith)))
    where
      placed : All (Placed t s ms) (isort ds)
      placed = All-isort (Placed t s ms) ds placed-log

  members-at : (j : ℕ) → j < length ms → (o : Origin)
      → any (same_origin o) (members_of t (place_at t s ms j) (serial_state t s ms j) (move_in (serial t s ms) j))
      ≡ any (same_origin o) (members_of t (place_at t s ms j) (log_state t s ms (place_at t s ms j)) (move_in ms (place_at t s ms j)))
  members-at j h o =
      subst (λ (ps : List ℕ). is_in_o o (members_of t (get_or ps j 0) (state_before t ps s (serial t s ms) j) (move_in (serial t s ms) j))
      ≡ is_in_o o (members_of t (get_or ps j 0) (log_state t s ms (get_or ps j 0)) (move_in ms (get_or ps j 0)))) (sym places-are)
      (subst (λ (l : List Move). is_in_o o (members_of t (get_or sorted j 0) (state_before t sorted s l j) (move_in l j))
      ≡ is_in_o o (members_of t (get_or sorted j 0) (log_state t s ms (get_or sorted j 0)) (move_in ms (get_or sorted j 0)))) (sym serial-is)
      (same-members t s ms (isort ds) s again-runs.agains (All-isort (Placed t s ms) ds placed-log) j (let w = sorted-length in omega arith) o))
    where
      sorted : List ℕ
      sorted = map (λ a. a.place) (isort ds)

  inner-at : (xs ys : List Act) (x : Act) → acts t 0 s ms ≡ xs ++ x ∷ ys → is_inner x ≡ is_begin t x.move || is_made_inside t x.move
  inner-at xs ys x q = go (map-split act_of ds xs ys x (sym acts-are ∙ q))
    where
      go : (us : List Deed) × (u : Deed) × (vs : List Deed) × (ds ≡ us ++ u ∷ vs) × (map act_of us ≡ xs) × (act_of u ≡ x) × (map act_of vs ≡ ys)
          → is_inner x ≡ is_begin t x.move || is_made_inside t x.move
      go (us, u, vs, p, a, b, c) =
          subst (λ (y : Act). is_inner y ≡ is_begin t y.move || is_made_inside t y.move) b
          (inner-is t sd (view s) (view e) us u vs g (subst (λ (l : List Deed). LogRuns t 0 (view s) l (view e)) p ran.0))

  origins-at : (j : ℕ) → j < length ms → (o : Origin)
      → (count_if (has_origin o) (state_before t (up_from 0 (length ms)) s ms j).entries ≤ 1) ×
      (count_if (has_origin o) (state_before t (places_of t s ms) s (serial t s ms) j).entries ≤ 1)
  origins-at j h o = (
    origin-once o (state_before t (up_from 0 (length ms)) s ms j).entries (log-uniq t sd 0 s ms e (uniq-numbered 0 s.entries S.numbered) g run j),
    subst (λ (ps : List ℕ). count_if (has_origin o) (state_before t ps s (serial t s ms) j).entries ≤ 1) (sym places-are)
        (subst (λ (l : List Move). count_if (has_origin o) (state_before t (map (λ a. a.place) (isort ds)) s l j).entries ≤ 1) (sym serial-is)
        (origin-once o (state_before t (map (λ a. a.place) (isort ds)) s (replayed t s (map act_of (isort ds))) j).entries
        (serial-uniq t (isort ds) s again-runs.agains j (let w = sorted-length in omega arith)))),
  )

  serial-size : length (serial t s ms) ≡ length ms
  serial-size = ap length serial-is ∙ replayed-length t s (map act_of (isort ds)) ∙ length-map (isort ds) act_of ∙ sorted-length

  states-at : (j : ℕ) → j ≤ length ms
      → state_words (state_before t (places_of t s ms) s (serial t s ms) j) ≡ state_words (get_or (along t 0 s (serial t s ms)) j s)
  states-at j h = words_same (state_before t (places_of t s ms) s (serial t s ms) j) (get_or (along t 0 s (serial t s ms)) j s)
      (along-same t (places_of t s ms) (serial t s ms) 0 s s s lengths refl j (let w = serial-size in omega arith))
    where
      lengths : length (places_of t s ms) ≡ length (serial t s ms)
      lengths = ap length places-are ∙ length-map (isort ds) (λ a. a.place) ∙ sorted-length ∙ sym serial-size

  closed-end : any_open accepted.0 ≡ false
  closed-end =
      let p : Entry → Bool = λ e. not (owned 0 e) in
      sym (any-map bare p accepted.0.entries) ∙ ap (λ (x : State). any p x.entries) accepted.2 ∙ any-map bare p again-runs.state.entries
      ∙ end-closed again-runs.state e again-runs.names again-runs.rel shut ran.1

  same_count : (k p v : ℕ) → count_if (is_global k p v) accepted.0.entries ≡ count_if (is_global k p v) e.entries
  same_count k p v =
      sym (count-bare (is_global k p v) (λ x. refl) accepted.0.entries) ∙ ap (λ (x : State). count_if (is_global k p v) x.entries) accepted.2
      ∙ count-bare (is_global k p v) (λ x. refl) again-runs.state.entries
      ∙ messages-same again-runs.state e again-runs.names again-runs.rel shut ran.1
      (closed-messages t.sizes again-runs.state again-runs.sound.right
      (end-closed again-runs.state e again-runs.names again-runs.rel shut ran.1))
      (closed-messages t.sizes e (sound-runs t right 0 s ms e run S.sound known).right cl) (is_global k p v)

  pub serial-decoded : Serial t s ms e
  unfolding serial
  serial-decoded = record {
    once = once;
    size = serial-size;
    same = same_at;
    members = members-at;
    origins = origins-at;
    states = states-at;
    blocks = λ xs ys a q h. subst (λ (l : List Act). (before : List Act) × (behind : List Act)
        × (ordered [] l ≡ before ++ (keep (belongs_to a) xs ++ a ∷ behind))) (sym q)
        (block-there xs ys a h);
    inner = inner-at;
    one_block = one_block;
    begun-before = begun-before;
    others = outer-order [] (acts t 0 s ms);
    end = accepted.0;
    accepted = subst (λ (l : List Move). Accepted t 0 s l accepted.0) (sym serial-is) accepted.1;
    closed = closed-end;
    same-messages = same_count;
  }
