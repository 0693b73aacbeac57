-- Demand 3: every accepted log has a serial log, as Statement.antt says.
use Rattle.std.specs.Prelude.{◌≡◌, Bool, List, [], ◌∷◌, map, ℕ, suc, ◌+◌, ◌*◌, ◌≤◌, length}
use Rattle.std.proofs.Math.Path.{refl, ap}
use Rattle.std.proofs.Common.{sym, ◌∙◌, arith}
use Rattle.std.proofs.Math.Bool.{true, false, cond}
use borrow.Author.Tests.{le-leb}
use Rattle.std.proofs.lemmas.List.{length-map}
use Rattle.lists.specs.Lists.{all, count_if}
use Rattle.lists.specs.Each.{All, All-map, All-unmap}
use Rattle.semantics.specs.Table.{Table, table_of}
use Rattle.semantics.specs.State.{entries_of, owners_of, items_of, State, state_of, state_words}
use Rattle.semantics.specs.Move.{Move, unless, move_ok, move_of}
use Rattle.semantics.specs.Log.{move_count, moves_of, log_sizes_ok, log_words, completed, run}
use Rattle.semantics.specs.Serial.{begins_emit, any_open, is_begin, serial, along, fits, serial_fits}
use Rattle.semantics.specs.Answers.{table_verdict, state_verdict, unless_denied, log_verdict, run_of, run_members, ran_result, run_result, serial_of, serial_fits_of, serial_result, write, leave, refuse}
use Rattle.semantics.specs.declared.Refusal.TheVariants.{SerialTooManyEntries}
use Rattle.semantics.specs.declared.Verdict.TheVariants.{Allowed}
use Rattle.wellformed.specs.Tables.{well-formed, sizes-table_of, length-rules}
use Rattle.wellformed.specs.States.{state-given}
use Rattle.wellformed.specs.Rules.{TableRight, table-right}
use Rattle.wellformed.specs.MoveWords.{Holdable}
use Rattle.wellformed.specs.Preservation.{RuleKnown, rule-known}
use Rattle.wellformed.specs.Held.{state_of-held}
use Rattle.wellformed.specs.Conserved.{marks}
use Rattle.serializability.specs.Statement.{Accepted, Serial, moves_in, room_along, Demand3}
use Rattle.cells.specs.Start.{Numbered, Start}
use Rattle.serializability.specs.Decoded.{sound-runs, serial-known, serial-decoded}
use Rattle.wellformed.specs.LogWords.{log-length, log-ok, moves-back, moves-count, count-1024}
use Rattle.serializability.specs.RunWords.{run-accepted, accepted-run, all-holdable}
use Rattle.serializability.specs.SameSum.{begins-same, closed-marks, sum-begins, held_back}

entries-numbered : (q : ℕ) (os ws : List ℕ) → Numbered q (entries_of q os ws)
entries-numbered q [] ws = tt
entries-numbered q (o ∷ os) [] = tt
entries-numbered q (o ∷ os) (w ∷ ws) = (refl, entries-numbered (suc q) os ws)

state-numbered : (S : List ℕ) → Numbered 0 (state_of S).entries
unfolding state_of
state-numbered S = entries-numbered 0 (owners_of S) (items_of S)

module _ (ceiling : ℕ) (T S L : List ℕ) (e : State) (ok : state_verdict T S ≡ Allowed) (ne : begins_emit (table_of T) ≡ false)
    (op : any_open (state_of S) ≡ false)
    (lo : log_sizes_ok L ≡ true) (ran : run_of ceiling T S L ≡ completed e) (cl : any_open e ≡ false) where
  abbrev pub t : Table
  t = table_of T

  abbrev pub s : State
  s = state_of S

  abbrev pub ms : List Move
  ms = moves_in T L

  table-ok : table_verdict T ≡ Allowed
  table-ok = (state-given S T ok).0

  pub right : TableRight t
  right = table-right T table-ok

  pub log-start : Start t.sizes s
  log-start = record { sound = rw (sizes-table_of T) (state_of-held T S ok).sound; numbered = state-numbered S; closed = op }

  taken : Accepted t 0 s ms e × All (λ w. move_ok t w ≡ true) (moves_of L)
  taken = run-accepted ceiling t 0 s (moves_of L) e ran

  pub known : All (RuleKnown t) ms
  known = All-unmap (move_of t) (RuleKnown t) (moves_of L) (All-map {P = λ w. move_ok t w ≡ true} {Q = λ w. RuleKnown t (move_of t w)} (λ w h. rule-known t w h)
      (moves_of L)
      taken.1)

  serial-log : Serial t s ms e
  serial-log = serial-decoded t right ne s log-start ms known e taken.0 cl

  count-is : length ms ≡ move_count L
  count-is = length-map (moves_of L) (move_of t) ∙ moves-count L

  pub serial-held : All (Holdable t) (serial t s ms)
  serial-held = all-holdable t right (let k = length-rules T in let l = (well-formed T table-ok).sizes.rules in omega arith)
      0 s (serial t s ms) serial-log.end serial-log.accepted log-start.sound (serial-known t right ne s log-start ms known e taken.0 cl)

  log-allowed : log_verdict T S L ≡ Allowed
  unfolding log_verdict
  log-allowed = rw (ok, lo)

  words_are : length (log_words (serial_of T S L)) ≡ 1 + 5 * move_count L
  unfolding serial_of
  words_are = log-length (serial t s ms) ∙ ap (λ (n : ℕ). 1 + 5 * n) (serial-log.size ∙ count-is)

  answered : (target : List ℕ) → 1 + 5 * move_count L ≤ length target
      → serial_result ceiling T S L target ≡ cond (room_along ceiling T S L) (write (log_words (serial_of T S L))) (refuse SerialTooManyEntries)
  unfolding serial_result serial_fits_of serial_fits serial_of
  answered target h = rw (log-allowed, le-leb (1 + 5 * move_count L) (length target) h, ne, op, ran, cl) (go (all (fits ceiling) (along t 0 s (serial t s ms))))
    where
      go : (b : Bool) → unless_denied (unless b SerialTooManyEntries) (write (log_words (serial t s ms)))
          ≡ cond b (write (log_words (serial t s ms))) (refuse SerialTooManyEntries)
      go true = refl
      go false = refl

  rerun-is : all (fits ceiling) (along t 0 s (serial t s ms)) ≡ true → run ceiling t 0 s (moves_of (log_words (serial t s ms))) ≡ completed serial-log.end
  rerun-is f = ap (run ceiling t 0 s) (moves-back (serial t s ms))
      ∙ accepted-run ceiling t 0 s (serial t s ms) serial-log.end serial-log.accepted f serial-held

  rerun-log : log_verdict T S (log_words (serial t s ms)) ≡ Allowed
  unfolding log_verdict
  rerun-log = rw (ok, log-ok (serial t s ms) (let a = serial-log.size in let b = count-is in let c = count-1024 L lo in omega arith))

  reran : room_along ceiling T S L ≡ true → (target : List ℕ) → 2050 ≤ length target
      → run_result ceiling T S (log_words (serial_of T S L)) target ≡ leave (state_words serial-log.end) (run_members ceiling T S (log_words (serial_of T S L)))
  unfolding run_result serial_of
  reran f target h =
      rw (rerun-log, le-leb 2050 (length target) h) (ap (ran_result (run_members ceiling T S (log_words (serial t s ms)))) (rerun-is f))

  -- the run of the log itself
  pub log-ran : (target : List ℕ) → 2050 ≤ length target → run_result ceiling T S L target ≡ leave (state_words e) (run_members ceiling T S L)
  unfolding run_result
  log-ran target h = rw (log-allowed, le-leb 2050 (length target) h) (ap (ran_result (run_members ceiling T S L)) ran)

  start-marks : marks s ≡ 0
  start-marks = closed-marks t.sizes s log-start.sound op

  log-sum : run_members ceiling T S L ≡ count_if (is_begin t) ms
  log-sum =
      sum-begins right ceiling s (moves_of L) e ran start-marks
      (closed-marks t.sizes e (sound-runs t right 0 s ms e taken.0 log-start.sound known) cl)

  serial-sum : room_along ceiling T S L ≡ true → run_members ceiling T S (log_words (serial_of T S L)) ≡ count_if (is_begin t) (serial t s ms)
  unfolding serial_of
  serial-sum f =
      sum-begins right ceiling s (moves_of (log_words (serial t s ms))) serial-log.end (rerun-is f) start-marks
      (closed-marks t.sizes serial-log.end
      (sound-runs t right 0 s (serial t s ms) serial-log.end serial-log.accepted log-start.sound
      (serial-known t right ne s log-start ms known e taken.0 cl)) serial-log.closed)
      ∙ ap (count_if (is_begin t)) (ap (map (move_of t)) (moves-back (serial t s ms)) ∙ held_back t (serial t s ms) serial-held)

  same_sum : room_along ceiling T S L ≡ true → run_members ceiling T S (log_words (serial_of T S L)) ≡ run_members ceiling T S L
  same_sum f = serial-sum f ∙ begins-same serial-log ∙ sym log-sum

pub demand3 : Demand3
demand3 ceiling T S L e ok ne op lo ran cl = record {
  serial = serial-log ceiling T S L e ok ne op lo ran cl;
  words = words_are ceiling T S L e ok ne op lo ran cl;
  answer = answered ceiling T S L e ok ne op lo ran cl;
  rerun = reran ceiling T S L e ok ne op lo ran cl;
  members = same_sum ceiling T S L e ok ne op lo ran cl;
}
