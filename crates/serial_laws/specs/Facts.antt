-- What the code of the serial log cites of an accepted log: its acts, their order by keys, the replay in that order, its room, and the answer.
use Rattle.std.specs.Prelude.{ℕ, ◌+◌, ◌*◌, ◌≤◌, ◌<◌, true, false, ◌&&◌, cond, List, [], map, ◌≡◌, leb, length, get_or}
use Rattle.std.proofs.Math.Path.{refl, sym}
use Rattle.std.proofs.Common.{ap, subst, ◌∙◌, arith}
use borrow.Author.Tests.{leb-true}
use Rattle.std.proofs.Math.Dec.{eqb}
use Rattle.std.proofs.lemmas.List.{length-map}
use Rattle.std.proofs.Math.ListN.{get_or-map}
use Rattle.lists.specs.Lists.{up_from}
use Rattle.lists.specs.Choices.{and_left, and_right}
use Rattle.lists.specs.Each.{All, All-map}
use Rattle.semantics.specs.Table.{table_of}
use Rattle.semantics.specs.State.{Origin, State, state_of}
use Rattle.semantics.specs.Move.{move_of}
use Rattle.semantics.specs.Log.{move_count, move_at, moves_of, log_sizes_ok, log_words, completed}
use Rattle.semantics.specs.Serial.{Act, begins_emit, any_open, acts, ordered, replayed, serial, serial_fits}
use Rattle.semantics.specs.Answers.{state_verdict, run_of, serial_of, serial_fits_of, serial_result, write, refuse}
use Rattle.semantics.specs.declared.Refusal.TheVariants.{SerialTooManyEntries}
use Rattle.semantics.specs.declared.Verdict.TheVariants.{Allowed}
use Rattle.wellformed.specs.Tables.{well-formed, length-rules}
use Rattle.wellformed.specs.States.{state-given}
use Rattle.wellformed.specs.Rules.{TableRight}
use Rattle.wellformed.specs.Preservation.{RuleKnown}
use Rattle.serializability.specs.Statement.{Accepted, moves_in, Serializable}
use Rattle.cells.specs.Start.{Start}
use Rattle.wellformed.specs.LogWords.{moves-count}
use Rattle.serializability.specs.RunWords.{run-accepted}
use Rattle.serializability.specs.Demand3 as Demand3
use Rattle.serializability.specs.Demand3.{demand3}
use Rattle.serial_laws.specs.Acts.{concerns, key_by, Replays, replay_fits, Begun}
use Rattle.serial_laws.specs.Order.{arranged_by}
use Rattle.serial_laws.specs.ByKey.{arranged-below}
use Rattle.serial_laws.specs.Keys.{Told, keys_by}
use Rattle.serial_laws.specs.Places.{no_act, acts-length, acts-places, act-place, act-move, move-in, places-back}
use Rattle.serializability.specs.Decoded.{replayed-length}
use Rattle.serial_laws.specs.AcceptedLog as AcceptedLog

-- the acts of the log that the words hold, and their serial order
abbrev pub acts_in : List ℕ → List ℕ → List ℕ → List Act
acts_in T S L = acts (table_of T) 0 (state_of S) (moves_in T L)

abbrev pub order_in : List ℕ → List ℕ → List ℕ → List Act
order_in T S L = ordered [] (acts_in T S L)

-- members: a word for each move, for an inner one the origin of a member
pub record SerialFacts (ceiling : ℕ) (T S L : List ℕ) : Type 0 where
  -- the acts: the i-th has the place i, and the log's move there
  pub acts-count : length (acts_in T S L) ≡ move_count L
  pub places : (i : ℕ) → i < move_count L → (get_or (acts_in T S L) i no_act).place ≡ i
  pub moves : (i : ℕ) → i < move_count L → (get_or (acts_in T S L) i no_act).move ≡ move_of (table_of T) (move_at L i)
  pub all-places : map (λ a. a.place) (acts_in T S L) ≡ up_from 0 (move_count L)
  -- the members they concern were begun in the log
  pub begun : All Begun (acts_in T S L)
  -- their order is that of their keys
  pub keys-count : (members : List ℕ) → length (keys_by (acts_in T S L) members) ≡ move_count L
  pub keys-at : (members : List ℕ) (i : ℕ) → i < move_count L
      → get_or (keys_by (acts_in T S L) members) i 0 ≡ key_by (acts_in T S L) (get_or members i 0) (get_or (acts_in T S L) i no_act)
  pub keys_below : (members : List ℕ) → All (Told members) (acts_in T S L) → (i : ℕ) → i < move_count L
      → get_or (keys_by (acts_in T S L) members) i 0 < move_count L
  pub order : (members : List ℕ) → All (Told members) (acts_in T S L)
      → order_in T S L ≡ map (λ p. get_or (acts_in T S L) p no_act) (arranged_by (keys_by (acts_in T S L) members))
  pub order-places : (members : List ℕ) → All (Told members) (acts_in T S L)
      → map (λ a. a.place) (order_in T S L) ≡ arranged_by (keys_by (acts_in T S L) members)
  pub order-count : length (order_in T S L) ≡ move_count L
  -- the replay in that order
  pub replays : Replays (table_of T) (state_of S) (order_in T S L)
  pub room : (n : ℕ) → replay_fits n (table_of T) (state_of S) (order_in T S L) ≡ serial_fits_of n T S L
  pub log : serial_of T S L ≡ replayed (table_of T) (state_of S) (order_in T S L)
  -- the answer
  pub answer : (target : List ℕ) → 1 + 5 * move_count L ≤ length target
      → serial_result ceiling T S L target ≡ cond (serial_fits_of ceiling T S L) (write (log_words (serial_of T S L))) (refuse SerialTooManyEntries)

module _ (ceiling : ℕ) (T S L : List ℕ) (e : State) (ok : state_verdict T S ≡ Allowed) (ne : begins_emit (table_of T) ≡ false)
    (op : any_open (state_of S) ≡ false)
    (lo : log_sizes_ok L ≡ true) (ran : run_of ceiling T S L ≡ completed e) (cl : any_open e ≡ false) where
  serializable : Serializable ceiling T S L e
  serializable = demand3 ceiling T S L e ok ne op lo ran cl

  few : length (table_of T).rules ≤ 64
  few = let k = length-rules T in let l = (well-formed T (state-given S T ok).0).sizes.rules in omega arith

  moves-length : length (moves_in T L) ≡ move_count L
  moves-length = length-map (moves_of L) (move_of (table_of T)) ∙ moves-count L

  count-acts : length (acts_in T S L) ≡ move_count L
  count-acts = acts-length (table_of T) 0 (state_of S) (moves_in T L) ∙ moves-length

  place_of : (i : ℕ) → i < move_count L → (get_or (acts_in T S L) i no_act).place ≡ i
  place_of i h = let n = moves-length in let w = act-place (table_of T) 0 (state_of S) (moves_in T L) i (omega arith) in omega arith

  places-all : map (λ a. a.place) (acts_in T S L) ≡ up_from 0 (move_count L)
  places-all = acts-places (table_of T) 0 (state_of S) (moves_in T L) ∙ ap (up_from 0) moves-length

  move-of : (i : ℕ) → i < move_count L → (get_or (acts_in T S L) i no_act).move ≡ move_of (table_of T) (move_at L i)
  move-of i h = act-move (table_of T) 0 (state_of S) (moves_in T L) i ∙ move-in (table_of T) L i h

  count-keys : (members : List ℕ) → length (keys_by (acts_in T S L) members) ≡ move_count L
  count-keys members = length-map (acts_in T S L) (λ x. key_by (acts_in T S L) (get_or members x.place 0) x) ∙ count-acts

  key-at : (members : List ℕ) (i : ℕ) → i < move_count L
      → get_or (keys_by (acts_in T S L) members) i 0 ≡ key_by (acts_in T S L) (get_or members i 0) (get_or (acts_in T S L) i no_act)
  key-at members i h = get_or-map (λ x. key_by (acts_in T S L) (get_or members x.place 0) x) (acts_in T S L) i no_act
      ∙ ap (λ (p : ℕ). key_by (acts_in T S L) (get_or members p 0) (get_or (acts_in T S L) i no_act)) (place_of i h)

  count-order : length (order_in T S L) ≡ move_count L
  unfolding serial
  count-order = sym (replayed-length (table_of T) (state_of S) (order_in T S L)) ∙ serializable.serial.size ∙ moves-length

  right : TableRight (table_of T)
  right = Demand3.right ceiling T S L e ok ne op lo ran cl

  start : Start (table_of T).sizes (state_of S)
  start = Demand3.log-start ceiling T S L e ok ne op lo ran cl

  known : All (RuleKnown (table_of T)) (moves_in T L)
  known = Demand3.known ceiling T S L e ok ne op lo ran cl

  accepted : Accepted (table_of T) 0 (state_of S) (moves_in T L) e
  accepted = (run-accepted ceiling (table_of T) 0 (state_of S) (moves_of L) e ran).0

  short : move_count L ≤ 1024
  unfolding log_sizes_ok
  short = leb-true (move_count L) 1024 (and_left (leb (move_count L) 1024) (eqb (length L) (1 + 5 * move_count L))
      (and_right (leb 1 (length L)) (leb (move_count L) 1024 && eqb (length L) (1 + 5 * move_count L)) lo))

  begun-here : All Begun (acts_in T S L)
  begun-here = All-map {P = λ a. (o : Origin) → concerns a o ≡ true → (1 ≤ o.maker) × (o.maker ≤ length (moves_in T L))} {Q = Begun}
      (λ a h o c. ((h o c).0, (let k = (h o c).1 in let n = moves-length in let l = short in omega arith))) (acts_in T S L)
      (AcceptedLog.members-begun (table_of T) right few ne (state_of S) start (moves_in T L) known e accepted cl)

  below : (members : List ℕ) → All (Told members) (acts_in T S L) → (i : ℕ) → i < move_count L → get_or (keys_by (acts_in T S L) members) i 0 < move_count L
  below members told i h =
      let n = moves-length in
      let w = AcceptedLog.keys_below (table_of T) right few ne (state_of S) start (moves_in T L) known e accepted cl members told i (omega arith) in
      omega arith

  by-keys : (members : List ℕ) → All (Told members) (acts_in T S L)
      → order_in T S L ≡ map (λ p. get_or (acts_in T S L) p no_act) (arranged_by (keys_by (acts_in T S L) members))
  by-keys = AcceptedLog.order-by-keys (table_of T) right few ne (state_of S) start (moves_in T L) known e accepted cl

  places-by-keys : (members : List ℕ) → All (Told members) (acts_in T S L) → map (λ a. a.place) (order_in T S L) ≡ arranged_by (keys_by (acts_in T S L) members)
  places-by-keys members told =
      let keys = keys_by (acts_in T S L) members in
      ap (map (λ a. a.place)) (by-keys members told)
      ∙ places-back (acts_in T S L) (move_count L) place_of (arranged_by keys)
      (subst (λ (n : ℕ). All (λ p. p < n) (arranged_by keys)) (count-keys members) (arranged-below keys))

  room-is : (n : ℕ) → replay_fits n (table_of T) (state_of S) (order_in T S L) ≡ serial_fits_of n T S L
  unfolding serial_fits_of serial_fits serial
  room-is = AcceptedLog.order-room (table_of T) right few ne (state_of S) start (moves_in T L) known e accepted cl

  log_is : serial_of T S L ≡ replayed (table_of T) (state_of S) (order_in T S L)
  unfolding serial_of serial
  log_is = refl

  answer-is : (target : List ℕ) → 1 + 5 * move_count L ≤ length target
      → serial_result ceiling T S L target ≡ cond (serial_fits_of ceiling T S L) (write (log_words (serial_of T S L))) (refuse SerialTooManyEntries)
  unfolding serial_fits_of serial_fits serial_of
  answer-is = serializable.answer

  pub serial-facts : SerialFacts ceiling T S L
  serial-facts = record {
    acts-count = count-acts;
    places = place_of;
    moves = move-of;
    all-places = places-all;
    begun = begun-here;
    keys-count = count-keys;
    keys-at = key-at;
    keys_below = below;
    order = by-keys;
    order-places = places-by-keys;
    order-count = count-order;
    replays = AcceptedLog.order-replays (table_of T) right few ne (state_of S) start (moves_in T L) known e accepted cl;
    room = room-is;
    log = log_is;
    answer = answer-is;
  }
