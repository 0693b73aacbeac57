-- The laws for a log of decoded moves, accepted from a state without open transactions and ending in one.
use Rattle.std.specs.Prelude.{ℕ, suc, ◌+◌, ◌-◌, ◌≤◌, ◌<◌, true, false, List, [], ◌∷◌, ◌++◌, map, ◌≡◌, refl, length, get_or}
use Rattle.std.proofs.lemmas.Bool.{false≢true}
use Rattle.std.proofs.lemmas.List.{map-append, length-map}
use Rattle.std.proofs.Common.{sym, ap, subst, ◌∙◌, arith}
use Rattle.lists.specs.Lists.{all, any, is_empty}
use Rattle.lists.specs.Choices.{by_bool}
use Rattle.lists.specs.Each.{All, All-map, All-unmap, All-get_or, empty-nil}
use Rattle.lists.specs.Members.{Among}
use Rattle.semantics.specs.Table.{Table}
use Rattle.semantics.specs.State.{Origin, State}
use Rattle.semantics.specs.Move.{Move}
use Rattle.semantics.specs.Serial.{Act, begins_emit, any_open, acts, is_end, ordered, replayed, along, fits, same_origin}
use Rattle.wellformed.specs.Rules.{TableRight}
use Rattle.wellformed.specs.Preservation.{RuleKnown}
use Rattle.serializability.specs.Statement.{Accepted, Serial}
use Rattle.cells.specs.Rules.{Shaped}
use Rattle.cells.specs.Deeds.{Deed, act_of}
use Rattle.serializability.specs.Keys.{deeds, acts-deeds, deeds-length}
use Rattle.cells.specs.Simulation.{view, Good}
use Rattle.cells.specs.Marks.{first_of}
use Rattle.serializability.specs.SameKey.{LogRuns, key-bound}
use Rattle.cells.specs.Steps.{NoneOpen}
use Rattle.serializability.specs.Sort.{isort, arrange-isort, All-isort}
use Rattle.serializability.specs.Blocks.{order-sorted}
use Rattle.cells.specs.Replay.{Ends}
use Rattle.cells.specs.Start.{Start}
use Rattle.serializability.specs.Decoded as Decoded
use Rattle.serializability.specs.Decoded.{deeds-known, serial-decoded}
use Rattle.serial_laws.specs.Acts.{concerns, end_after, Replays, replay_fits}
use Rattle.serial_laws.specs.Order.{arranged_by}
use Rattle.serial_laws.specs.ByKey.{arranged-acts}
use Rattle.serial_laws.specs.EndPlace.{BeginsFirst, begin-of, end-place}
use Rattle.serial_laws.specs.Keys.{Told, keys_by, begins-first, inner-end, keys-are}
use Rattle.lists.specs.Splits.{All-split, All-among}
use Rattle.serial_laws.specs.Places.{no_act, places-below}
use Rattle.serial_laws.specs.MadeAgain.{EndsSome, ends_some, replays}
use Rattle.serial_laws.specs.Room.{room-along}

module _ (t : Table) (right : TableRight t) (few : length t.rules ≤ 64) (ne : begins_emit t ≡ false) (s : State) (S : Start t.sizes s) (ms : List Move)
    (known : All (RuleKnown t) ms) (e : State) (run : Accepted t 0 s ms e) (cl : any_open e ≡ false) where
  sd : Shaped t
  sd = Decoded.sd t right ne s S ms known e run cl

  abbrev log-acts : List Act
  log-acts = acts t 0 s ms

  abbrev ds : List Deed
  ds = deeds t 0 s ms

  acts-are : log-acts ≡ map act_of ds
  acts-are = acts-deeds t 0 s ms

  g : Good 0 (view s)
  g = Decoded.g t right ne s S ms known e run cl

  ran : LogRuns t 0 (view s) ds (view e)
  unfolding Decoded.ds
  ran = (Decoded.ran t right ne s S ms known e run cl).0

  shut : NoneOpen (view e)
  shut = Decoded.shut t right ne s S ms known e run cl

  serial-log : Serial t s ms e
  serial-log = serial-decoded t right ne s S ms known e run cl

  -- ---- the order

  order_is : ordered [] (map act_of ds) ≡ map act_of (isort ds)
  order_is = order-sorted t sd (view e) ds (view s) g ran shut

  bounds : All (λ x. x.key < 0 + length ds) ds
  bounds = key-bound t sd (view e) 0 (view s) ds g ran shut

  first : All (BeginsFirst t) log-acts
  first = subst (All (BeginsFirst t)) (sym acts-are) (All-unmap act_of (BeginsFirst t) ds (begins-first t sd (view e) 0 (view s) ds ran))

  ends : (xs ys : List Act) (a : Act) → log-acts ≡ xs ++ a ∷ ys → is_end a.move ≡ true → (o : Origin) → concerns a o ≡ true
      → end_after (o.maker - 1) 0 log-acts ≡ a.place
  ends = end-place t log-acts first (λ xs ys x q h. (serial-log.one_block xs ys x q h).0) serial-log.begun-before

  -- ---- the members were begun in the log

  -- o was made by a move of the log
  abbrev MadeHere : Origin → Type 0
  MadeHere o = (1 ≤ o.maker) × (o.maker ≤ length ms)

  end-begun : (xs ys : List Act) (a : Act) → log-acts ≡ xs ++ a ∷ ys → is_end a.move ≡ true → (o : Origin) → concerns a o ≡ true → MadeHere o
  end-begun xs ys a q en o h = go (begin-of t log-acts first (λ us vs x w k. (serial-log.one_block us vs x w k).0) serial-log.begun-before xs ys a q en o h)
    where
      go : (y : Act) × Among y log-acts × (y.members ≡ first_of y.place ∷ []) × (is_end y.move ≡ false) × (o ≡ first_of y.place) → MadeHere o
      go (y, m, f, n, z) =
          let k : o.maker ≡ suc y.place = ap (λ (x : Origin). x.maker) z in
          let l = All-among (λ a. a.place < length ms) log-acts y (places-below t (length ms) 0 s ms (omega arith)) m in
          (omega arith, omega arith)

  deed-begun : (us vs : List Deed) (x : Deed) → ds ≡ us ++ x ∷ vs → (o : Origin) → concerns (act_of x) o ≡ true → MadeHere o
  deed-begun us vs x q o c = by_bool (is_end x.move)
      (λ en. end-begun (map act_of us) (map act_of vs) (act_of x) (acts-are ∙ ap (map act_of) q ∙ map-append act_of us (x ∷ vs)) en o c)
      (λ en. by_bool (is_empty x.members)
      (λ none. absurd (false≢true (ap (any (same_origin o)) (sym (empty-nil x.members none)) ∙ c)))
      (λ some. let (a, xs, ys, w, at, done, f) = inner-end t sd (view e) (view s) ds g ran shut us vs x q (rw (en, some)) in
      end-begun xs ys a (acts-are ∙ w) done o (f o c)))

  pub members-begun : All (λ a. (o : Origin) → concerns a o ≡ true → MadeHere o) log-acts
  members-begun = subst (All (λ a. (o : Origin) → concerns a o ≡ true → MadeHere o)) (sym acts-are)
      (All-unmap act_of (λ a. (o : Origin) → concerns a o ≡ true → MadeHere o) ds
      (All-split (λ x. (o : Origin) → concerns (act_of x) o ≡ true → MadeHere o) ds deed-begun))

  -- ---- the keys

  keys_of : (members : List ℕ) → All (Told members) log-acts → keys_by log-acts members ≡ map (λ x. x.key) ds
  keys_of members told = ap (λ (l : List Act). keys_by l members) acts-are
      ∙ keys-are t sd (view e) (view s) ds g ran shut
      (subst (λ (l : List Act). (xs ys : List Act) (a : Act) → l ≡ xs ++ a ∷ ys → is_end a.move ≡ true → (o : Origin) → concerns a o ≡ true
      → end_after (o.maker - 1) 0 l ≡ a.place) acts-are ends)
      members (subst (All (Told members)) acts-are told)

  pub keys_below : (members : List ℕ) → All (Told members) log-acts → (i : ℕ) → i < length ms → get_or (keys_by log-acts members) i 0 < length ms
  keys_below members told i h =
      let n = deeds-length t 0 s ms in
      let Below : ℕ → Type 0 = λ k. k < 0 + length ds in
      let k = All-get_or Below 0 (map (λ x. x.key) ds) i (All-unmap (λ x. x.key) Below ds bounds)
      (omega (arith, length-map ds (λ x. x.key))) in
      let q = ap (λ (l : List ℕ). get_or l i 0) (keys_of members told) in
      omega arith

  pub order-by-keys : (members : List ℕ) → All (Told members) log-acts
      → ordered [] log-acts ≡ map (λ p. get_or log-acts p no_act) (arranged_by (keys_by log-acts members))
  order-by-keys members told =
      ap (ordered []) acts-are ∙ order_is
      ∙ ap (map act_of) (sym (arrange-isort (length ds) 0 ds
      (All-map {P = λ x. x.key < 0 + length ds} {Q = λ x. (0 ≤ x.key) × (x.key < 0 + length ds)} (λ x k. (omega arith, k)) ds bounds)))
      ∙ sym (arranged-acts no_act ds)
      ∙ (λ j. map (λ p. get_or (sym acts-are j) p no_act) (arranged_by (sym (keys_of members told) j)))

  -- ---- the replay

  again-runs : Ends t s (isort ds) (view e)
  unfolding Decoded.ds
  again-runs = Decoded.again-runs t right ne s S ms known e run cl

  sorted : map act_of (isort ds) ≡ ordered [] log-acts
  sorted = sym (ap (ordered []) acts-are ∙ order_is)

  pub order-replays : Replays t s (ordered [] log-acts)
  order-replays = subst (Replays t s) sorted (replays t right few (isort ds) s again-runs.state again-runs.all_go again-runs.agains S.sound
      (All-isort (λ a. RuleKnown t a.move) ds (deeds-known t 0 s ms known)) (All-isort EndsSome ds (ends_some t 0 (view s) (view e) ds ran)))

  pub order-room : (n : ℕ) → replay_fits n t s (ordered [] log-acts) ≡ all (fits n) (along t 0 s (replayed t s (ordered [] log-acts)))
  order-room n = subst (λ (l : List Act). replay_fits n t s l ≡ all (fits n) (along t 0 s (replayed t s l))) sorted
      (room-along n t (map act_of (isort ds)) 0 s s again-runs.state refl again-runs.all_go)
