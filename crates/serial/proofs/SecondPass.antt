-- The second pass of the serial log: the keys, the order, and what the replay writes.
use Prim.Native.Nat.{ℕ, ◌+◌, ◌*◌, ◌≤◌, ◌<◌}
use mathlib.Core.Bool.{Bool, true, false}
use mathlib.Core.List.{List, map}
use mathlib.Core.Path.{◌≡◌, sym, ap, subst, ◌∙◌}
use native.Mathlib.Omega.{arith}
use lib.ListN.{length, get_or, take, drop}
use lib.Seq.{get_or-take, take_at, length-take-le}
use Rattle.lists.specs.Lists.{over}
use Rattle.lists.specs.Choices.{by_bool, cond-true, cond-false}
use Rattle.lists.specs.Each.{All, All-get_or, All-at}
use Rattle.lists.specs.Padded.{get_or-replicate-any}
use Rattle.semantics.specs.Table.{table_of}
use Rattle.semantics.specs.State.{state_of}
use Rattle.semantics.specs.Log.{move_count, log_words}
use Rattle.semantics.specs.Answers.{line_ceiling, serial_of, serial_fits_of}
use Rattle.semantics.specs.declared.Refusal.TheVariants.{SerialTooManyEntries}
use Rattle.semantics.specs.declared.Outcome.{Outcome}
use Rattle.semantics.specs.declared.Outcome.TheVariants.{Written, Refused}
use Rattle.serializability.specs.Demand3.{demand3}
use Rattle.move_log.specs.Form.{log-sized}
use Rattle.semantics.specs.Move.{Move}
use Rattle.wellformed.specs.States.{state-given}
use Rattle.state.specs.declared.State.{State}
use Rattle.state.specs.Working.{state_in}
use Rattle.state.specs.Arrays.{HoldsIn}
use Rattle.run.specs.Whole.{words-indexed, loaded-workable}
use Rattle.replay.specs.Replay.{Replayable, Arranged, ReplayedAs}
use Rattle.serial_laws.specs.Acts.{Recorded, end_after}
use Rattle.serial_laws.specs.Order.{arranged_by}
use Rattle.order.specs.Counting.{Keys}
use Rattle.order.specs.Keys.{Keyable, KeysOf}
use Rattle.serial_laws.specs.Places.{no_act}
use Rattle.serial_laws.specs.Keys.{Told, keys_by, recorded-told}
use Rattle.serial_laws.specs.ByKey.{arranged-below}
use Rattle.serial_laws.specs.Facts.{acts_in, order_in, SerialFacts, serial-facts}
use Rattle.serial.specs.Serialized.{Sortable, SortedAs, Reorderable, ReorderedAs, WrittenAs}

-- ---- the order, with the count as the code has it

module _ {l members ends : List ℕ} (h : Sortable l members ends) {n : ℕ} (e : n ≡ move_count l) {keys : List ℕ} (keyed : KeysOf l members ends n keys) where
  found : KeysOf l members ends (move_count l) keys
  found = subst (λ (j : ℕ). KeysOf l members ends j keys) e keyed

  pub keys-fit : Keys n keys
  keys-fit =
      record { few = omega (arith, h.log.few); size = keyed.size; below = λ i less. let b = h.below keys found i (omega arith) in omega arith }

  pub sorted-as : {order : List ℕ} → (length order ≡ 1024) × (take n order ≡ arranged_by (take n keys)) → SortedAs l members ends order
  sorted-as {order} a = record {
    size = a.0;
    keys = keys;
    keyed = found;
    sorted = subst (λ (j : ℕ). take j order ≡ arranged_by (take j keys)) e a.1;
  }

-- ---- the words written, or 17

module _ {fits : Bool} (k : ℕ) (out before : List ℕ) where
  pub outgrown-as : fits ≡ false → WrittenAs fits k out before before (Refused SerialTooManyEntries)
  outgrown-as e = record { outcome = rw e; target = rw e }

  pub written_as : fits ≡ true → {after : List ℕ} → after ≡ over (take (1 + 5 * k) out) before → WrittenAs fits k out before after (Written (1 + 5 * k))
  written_as e copied = record { outcome = rw e; target = rw e copied }

-- ---- the serial order of a recorded log

module _ (t index s l origins members ends target : List ℕ) (k : Reorderable t index s l origins members ends target) where
  pub facts : SerialFacts line_ceiling t s l
  facts = serial-facts line_ceiling t s l k.end k.begun.state k.begun.quiet k.begun.closed k.begun.sizes k.ran k.shut

  told : All (Told members) (acts_in t s l)
  told = recorded-told (table_of t) l origins members (acts_in t s l) k.recordings.each

  pub keyable : Keyable (table_of t) l origins members ends (move_count l) (acts_in t s l)
  keyable =
      record {
        places = facts.all-places;
        each = k.recordings.each;
        begun = facts.begun;
        ends = λ p h. k.recordings.ends p h ∙ ap (λ (e : ℕ). end_after p e (acts_in t s l)) (get_or-replicate-any 1024 p 0);
      }

  module _ (keys : List ℕ) (found : KeysOf l members ends (move_count l) keys) where
    keys-are : take (move_count l) keys ≡ keys_by (acts_in t s l) members
    keys-are = found.value (table_of t) origins (acts_in t s l) keyable

    -- what the sort asks
    pub keys-in-log : (i : ℕ) → i < move_count l → get_or keys i 0 < move_count l
    keys-in-log i h =
        let b = facts.keys_below members told i h in
        let e = sym (get_or-take (move_count l) keys i 0 h) ∙ ap (λ (ks : List ℕ). get_or ks i 0) keys-are in
        omega arith

    module _ (order : List ℕ) (sorted : take (move_count l) order ≡ arranged_by (take (move_count l) keys)) where
      order_is : take (move_count l) order ≡ arranged_by (keys_by (acts_in t s l) members)
      order_is = sorted ∙ ap arranged_by keys-are

      below : All (λ p. p < move_count l) (take (move_count l) order)
      below =
          subst (λ (ps : List ℕ). All (λ p. p < move_count l) ps) (sym order_is)
          (subst (λ (n : ℕ). All (λ p. p < n) (arranged_by (keys_by (acts_in t s l) members))) (facts.keys-count members)
          (arranged-below (keys_by (acts_in t s l) members)))

      -- what the replay asks
      pub order_below : length order ≡ 1024 → (j : ℕ) → j < move_count l → get_or order j 0 < move_count l
      order_below n j h =
          let m = (log-sized l k.begun.sizes).few in
          let e = get_or-take (move_count l) order j 0 h in
          let b = All-get_or (λ p. p < move_count l) 0 (take (move_count l) order) j below (omega (arith, length-take-le (move_count l) order (omega arith))) in
          omega arith

      pub places-are : map (λ a. a.place) (order_in t s l) ≡ take (move_count l) order
      places-are = facts.order-places members told ∙ sym order_is

      pub acts-recorded : All (Recorded (table_of t) l origins members) (order_in t s l)
      acts-recorded =
          subst (All (Recorded (table_of t) l origins members)) (sym (facts.order members told))
          (All-at (Recorded (table_of t) l origins members) no_act (acts_in t s l) (arranged_by (keys_by (acts_in t s l) members)) k.recordings.each
          (subst (λ (n : ℕ). All (λ p. p < n) (arranged_by (keys_by (acts_in t s l) members))) (facts.keys-count members ∙ sym facts.acts-count)
          (arranged-below (keys_by (acts_in t s l) members))))

  words_count : length (log_words (serial_of t s l)) ≡ 1 + 5 * move_count l
  words_count = (demand3 line_ceiling t s l k.end k.begun.state k.begun.quiet k.begun.closed k.begun.sizes k.ran k.shut).words

  module _ (fits : Bool) (room : fits ≡ serial_fits_of line_ceiling t s l) where
    pub outgrown : fits ≡ false → ReorderedAs t s l target target (Refused SerialTooManyEntries)
    outgrown e =
        let f : serial_fits_of line_ceiling t s l ≡ false = sym room ∙ e in
        record { outcome = rw f; target = rw f }

    pub log-written : fits ≡ true → (zeros out after : List ℕ) (n : ℕ) → n ≡ 1 + 5 * move_count l → out ≡ over (log_words (serial_of t s l)) zeros
        → after ≡ over (take n out) target
        → ReorderedAs t s l target after (Written n)
    log-written e zeros out after n size o a =
        let f : serial_fits_of line_ceiling t s l ≡ true = sym room ∙ e in
        let w : take n out ≡ log_words (serial_of t s l) = ap (take n) o
        ∙ take_at (log_words (serial_of t s l)) (drop (length (log_words (serial_of t s l))) zeros) n (words_count ∙ sym size) in
        record { outcome = rw f (ap Written (size ∙ sym words_count)); target = rw f (a ∙ ap (λ (x : List ℕ). over x target) w) }

  -- ---- what the code hands over

  pub sortable : Sortable l members ends
  sortable =
      record { log = log-sized l k.begun.sizes; members-size = k.record-sizes.1; ends-size = k.record-sizes.2; below = keys-in-log }

  module _ {order : List ℕ} (o : SortedAs l members ends order) {x : State} (loaded : HoldsIn x (state_of s)) where
    pub replay-asked : {out : List ℕ} → 1 + 5 * move_count l ≤ length out → Replayable t index x l order origins members line_ceiling out
    replay-asked m =
        record {
          read = record {
            indexed = words-indexed t s k.begun.state k.begun.starts;
            log = log-sized l k.begun.sizes;
            picked = k.record-sizes.0;
            marked = k.record-sizes.1;
          };
          workable = loaded-workable s (state-given s t k.begun.state).1 loaded;
          places = order_below o.keys o.keyed order o.sorted o.size;
          ordered = o.size;
          room = m;
        }

    module _ {fits : Bool} {before out : List ℕ} (done : ReplayedAs fits line_ceiling (table_of t) (state_in x) l order origins members before out) where
      again : Arranged (table_of t) (state_in x) l order origins members (order_in t s l)
      again =
          record {
            places = places-are o.keys o.keyed order o.sorted;
            recorded = acts-recorded o.keys o.keyed order o.sorted;
            replays = rw loaded.holds.value facts.replays;
          }

      fits-are : fits ≡ serial_fits_of line_ceiling t s l
      fits-are = done.fits (order_in t s l) again ∙ rw loaded.holds.value (facts.room line_ceiling)

      out-is : fits ≡ true → out ≡ over (log_words (serial_of t s l)) before
      out-is h = done.target (order_in t s l) again h
          ∙ rw loaded.holds.value (ap (λ (ms : List Move). over (log_words ms) before) (sym facts.log))

      module _ {n : ℕ} (e : n ≡ move_count l) where
        pub written-asked : 1 + 5 * move_count l ≤ length before → (n ≤ 1024) × (1 + 5 * n ≤ length out) × (1 + 5 * n ≤ length target)
        written-asked m =
            let few = (log-sized l k.begun.sizes).few in
            let r = k.begun.room in
            let z = done.size in
            (omega arith, omega arith, omega arith)

        pub reordered-as : {after : List ℕ} {a : Outcome} → WrittenAs fits n out target after a → ReorderedAs t s l target after a
        reordered-as {after} {a} w =
            let done-by : Outcome = Written (1 + 5 * n) in
            let full : Outcome = Refused SerialTooManyEntries in
            let words = over (take (1 + 5 * n) out) target in
            by_bool fits
            (λ h. subst (ReorderedAs t s l target after) (sym (w.outcome ∙ cond-true done-by full h))
            (log-written fits fits-are h before out after (1 + 5 * n) (omega arith) (out-is h) (w.target ∙ cond-true words target h)))
            (λ h. subst (ReorderedAs t s l target after) (sym (w.outcome ∙ cond-false done-by full h))
            (subst (λ (z : List ℕ). ReorderedAs t s l target z full) (sym (w.target ∙ cond-false words target h)) (outgrown fits fits-are h)))
