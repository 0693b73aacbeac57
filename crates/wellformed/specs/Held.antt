-- What every state of a log is: read from accepted words, left by an accepted move, and its words are accepted again.
use Rattle.std.specs.Prelude.{ℕ, suc, ◌+◌, ◌*◌, ◌≤◌, ◌<◌, true, eqb, length, get_or}
use mathlib.Core.List.{List, [], ◌∷◌, map}
use Rattle.std.proofs.Math.Path.{◌≡◌, refl, subst}
use Rattle.std.proofs.Common.{sym, ap, ◌∙◌, arith, eqb-true, le-leb, eq-eqb}
use Rattle.std.proofs.lemmas.Bool.{eqb-false}
use Rattle.lists.specs.Choices.{by_bool, and_intro}
use Rattle.lists.specs.Members.{Among, among-map}
use Rattle.lists.specs.Parts.{get_or-each}
use Rattle.semantics.specs.Table.{sizes_of, table_of, port_count}
use Rattle.semantics.specs.State.{Entry, State, owners_of, items_of, entries_of, state_of, state_words, state_sizes_ok}
use Rattle.semantics.specs.Move.{move_of, Stepped, to, refused, step_words}
use Rattle.semantics.specs.Log.{completed, onward, run}
use Rattle.semantics.specs.Answers.{table_verdict, state_own_verdict, state_verdict}
use Rattle.semantics.specs.declared.Sizes.{Sizes}
use Rattle.semantics.specs.declared.Refusal.TheVariants.{StateSizes, StateContents}
use Rattle.semantics.specs.declared.Verdict.TheVariants.{Allowed}
use Rattle.wellformed.specs.Verdicts.{both-intro, unless-intro}
use Rattle.wellformed.specs.Tables.{well-formed, sizes-table_of}
use Rattle.wellformed.specs.States.{state-given, state-sized}
use Rattle.wellformed.specs.Rules.{table-right}
use Rattle.wellformed.specs.Entries.{EntryRight, state-right, state-tests, Sound, Small}
use Rattle.wellformed.specs.Step.{completed-same, accepted-move}
use Rattle.wellformed.specs.Preservation.{rule-known, applied-keeps, applied-small}
use Rattle.wellformed.specs.Bare.{bare_state, entries_ok-same}
use Rattle.wellformed.specs.RoundTrip.{bare-numbered, Fits, state_of-state_words, state_words-state_of, length-state_words, entry_count-state_words}
use Rattle.wellformed.specs.RoundTrip.{next_of-state_words, next-state_of, owners-entries_of, state_of-small}

-- what the states of a log keep: well formed, values small, few enough entries
pub record Held (z : Sizes) (s : State) : Type 0 where
  pub sound : Sound z s
  pub small : Small s.entries
  pub few : length s.entries ≤ 1024

-- ---- from words

pub state_of-held : (T S : List ℕ) → state_verdict T S ≡ Allowed → Held (sizes_of T) (state_of S)
state_of-held T S h =
    let (t, k, e) = state-given S T h in
    let g = state-sized S k in
    let w = length-state_words (state_of S) in
    let l = ap length (state_words-state_of S k) in
    let m = g.size in
    let n = g.count in
    record {
      sound = record { right = state-right (sizes_of T) (state_of S) e; next_low = rw (next-state_of S) g.first; next-high = rw (next-state_of S) g.last };
      small = state_of-small S;
      few = omega arith;
    }

-- an owner fits 16 bits: it is the value of its transaction's own mark, and that is below the next id
owner-lt : {z : Sizes} (s : State) → Sound z s → (e : Entry) → Among e s.entries → e.owner < 65536
owner-lt s h e m =
    by_bool (eqb e.owner 0)
    (λ q. let o = eqb-true e.owner 0 q in omega arith)
    (λ q. let (mark, there, kind, owner, value) = h.right.own e m (eqb-false e.owner 0 q) in
    omega (arith, ((h.right.each mark there).member-mark kind).value-lt, h.next-high))

-- so each owner in accepted words fits 16 bits
pub owners-narrow : (T S : List ℕ) → state_verdict T S ≡ Allowed → (k : ℕ) → get_or (owners_of S) k 0 < 65536
unfolding state_of
owners-narrow T S h =
    let g = state-sized S (state-given S T h).1 in
    let es = entries_of 0 (owners_of S) (items_of S) in
    let same : map (λ e. e.owner) es ≡ owners_of S = owners-entries_of 0 (owners_of S) (items_of S) (g.owners ∙ sym g.items) in
    get_or-each (λ (o : ℕ). o < 65536) 0 (owners_of S)
    (λ o m.
    let (e, there, q) = among-map (λ (e : Entry). e.owner) es o (subst (Among o) (sym same) m) in
    rw q (owner-lt (state_of S) (state_of-held T S h).sound e there))
    (omega arith)

-- ---- to words

port-lt : (z : Sizes) (next : ℕ) (e : Entry) → port_count z ≤ 256 → EntryRight z next e → e.port < 256
port-lt z next e p r =
    by_bool (eqb e.kind 0) (λ a. let l = r.message (eqb-true e.kind 0 a) in omega arith)
    (λ a. by_bool (eqb e.kind 1) (λ b. let l = r.compensation (eqb-true e.kind 1 b) in omega arith)
    (λ b. by_bool (eqb e.kind 2) (λ c. let l = (r.abort-mark (eqb-true e.kind 2 c)).0 in omega arith)
    (λ c. let a = eqb-false e.kind 0 a in let b = eqb-false e.kind 1 b in let c = eqb-false e.kind 2 c in let d = r.kind-le in
    let k : e.kind ≡ 3 = omega arith in let l = (r.member-mark k).port-zero in omega arith)))

sizes-pass : {z : Sizes} (s : State) → Held z s → state_sizes_ok (state_words s) ≡ true
unfolding state_sizes_ok
sizes-pass s h =
    let l = length-state_words s in
    rw (entry_count-state_words s, next_of-state_words s)
    (and_intro (le-leb 2 (length (state_words s)) (omega arith))
    (and_intro (and_intro (le-leb (length s.entries) 1024 h.few)
    (and_intro (le-leb 1 s.next h.sound.next_low) (le-leb s.next 65536 h.sound.next-high)))
    (eq-eqb (length (state_words s)) (2 + 2 * length s.entries) l)))

module _ (T : List ℕ) (table : table_verdict T ≡ Allowed) where
  pub held_fits : (s : State) → Held (sizes_of T) s → Fits s.entries
  held_fits s h e m = (port-lt (sizes_of T) s.next e (well-formed T table).sizes.ports (h.sound.right.each e m), h.small e m)

  -- words read back differ from the state in origins alone
  pub reread : (s : State) → Held (sizes_of T) s → bare_state (state_of (state_words s)) ≡ bare_state s
  reread s h = ap bare_state (state_of-state_words s (held_fits s h)) ∙ (λ k. record { next = s.next; entries = bare-numbered 0 s.entries k })

  pub words-pass : (s : State) → Held (sizes_of T) s → state_verdict T (state_words s) ≡ Allowed
  unfolding state_verdict state_own_verdict
  words-pass s h = both-intro table (both-intro (unless-intro StateSizes (sizes-pass s h))
      (unless-intro StateContents (entries_ok-same (state_of (state_words s)) s (reread s h) (sizes_of T) ∙ state-tests (sizes_of T) s h.sound.right)))

  -- an accepted move leaves such a state
  pub step-holds : (ceiling i : ℕ) (s : State) (m : List ℕ) (s' : State) → ceiling ≤ 1024 → Held (sizes_of T) s
      → step_words ceiling (table_of T) i s m ≡ to s' → Held (sizes_of T) s'
  step-holds ceiling i s m s' c h e =
      let a = accepted-move ceiling (table_of T) i s m s' e in
      let k = rule-known (table_of T) m a.form in
      let sound : Sound (table_of T).sizes s = rw (sizes-table_of T) h.sound in
      record {
        sound = rw (a.result, sizes-table_of T) at (applied-keeps (table-right T table) sound i (move_of (table_of T) m) k a.allows);
        small = rw a.result at (applied-small (table-right T table) sound i (move_of (table_of T) m) k a.allows h.small);
        few = let l = a.fits in omega arith;
      }

  pub run_holds : (ceiling i : ℕ) (s : State) (ms : List (List ℕ)) (s' : State) → ceiling ≤ 1024 → Held (sizes_of T) s
      → run ceiling (table_of T) i s ms ≡ completed s' → Held (sizes_of T) s'
  unfolding run
  run_holds ceiling i s [] s' c h e = subst (Held (sizes_of T)) (completed-same e) h
  run_holds ceiling i s (m ∷ ms) s' c h e = go (step_words ceiling (table_of T) (suc i) s m) refl (λ x k. run_holds ceiling (suc i) x ms s' c k) e
    where
      go : (x : Stepped) → step_words ceiling (table_of T) (suc i) s m ≡ x
          → ((x : State) → Held (sizes_of T) x → run ceiling (table_of T) (suc i) x ms ≡ completed s' → Held (sizes_of T) s')
          → onward x i (λ x. run ceiling (table_of T) (suc i) x ms) ≡ completed s' → Held (sizes_of T) s'
      go (to x) q ih k = ih x (step-holds ceiling (suc i) s m x c h q) k
      go (refused r) q ih k = absurd (let z : ◌≡◌ {A = ℕ} 0 1 = cc in omega arith)
