-- Demand 3 said of the public calls, with nothing left to unfold: what `serialize` answers and leaves in its target, and what a run of the words that
-- it wrote answers.
use Rattle.std.specs.Prelude.{ℕ, ◌+◌, ◌*◌, ◌≤◌, Bool, true, false, cond, List, ◌≡◌, refl, length, take}
use Rattle.std.proofs.Common.{sym, ◌∙◌, arith}
use Rattle.std.proofs.Math.Path.{ap}
use Rattle.lists.specs.Over.{take-over, drop-over}
use Rattle.semantics.specs.State.{State, state_words}
use Rattle.semantics.specs.Log.{move_count, log_words}
use Rattle.semantics.specs.Answers.{Result, write, leave, refuse, answer_of, outcome_of, target_after, line_ceiling, run_members, run_result, run_log, run_log_target, serial_of, serial_result, serialize, serialize_target}
use Rattle.semantics.specs.declared.Refusal.TheVariants.{SerialTooManyEntries}
use Rattle.semantics.specs.declared.Answer.{Answer}
use Rattle.serializability.specs.Statement.{Serializable, room_along, Serialized, Rerun, PublicDemand3}
use Rattle.serializability.specs.Demand3.{demand3, log-ran}

-- ---- the theorem

module _ (T S L : List ℕ) (e : State) (h : Serializable line_ceiling T S L e)
    (log-ran : (other : List ℕ) → 2050 ≤ length other → run_result line_ceiling T S L other ≡ leave (state_words e) (run_members line_ceiling T S L))
    (target : List ℕ) (long : 1 + 5 * move_count L ≤ length target) where
  result : {b : Bool} → room_along line_ceiling T S L ≡ b → serial_result line_ceiling T S L target ≡ cond b (write (log_words (serial_of T S L)))
      (refuse SerialTooManyEntries)
  result f = h.answer target long ∙ rw f

  answered : {b : Bool} → room_along line_ceiling T S L ≡ b
      → serialize T S L target ≡ answer_of (outcome_of (cond b (write (log_words (serial_of T S L))) (refuse SerialTooManyEntries)))
  unfolding serialize
  answered f = ap (λ (r : Result). answer_of (outcome_of r)) (result f)

  left : {b : Bool} → room_along line_ceiling T S L ≡ b
      → serialize_target T S L target ≡ target_after (cond b (write (log_words (serial_of T S L))) (refuse SerialTooManyEntries)) target
  unfolding serialize_target
  left f = ap (λ (r : Result). target_after r target) (result f)

  17-only : (b : Bool) → room_along line_ceiling T S L ≡ b → (serialize T S L target).number ≡ 17 → b ≡ false
  17-only false f k = refl
  17-only true f k = absurd (let z : ◌≡◌ {A = ℕ} 0 17 = sym (ap (λ (a : Answer). a.number) (answered f)) ∙ k in omega arith)

  module _ (f : room_along line_ceiling T S L ≡ true) where
    words-said : (serialize T S L target).words ≡ length (log_words (serial_of T S L))
    words-said = ap (λ (a : Answer). a.words) (answered f)

    read_back : take (serialize T S L target).words (serialize_target T S L target) ≡ log_words (serial_of T S L)
    read_back = rw (words-said, left f) (take-over (log_words (serial_of T S L)) target)

    rerun-result : (other : List ℕ) → 2050 ≤ length other
        → run_result line_ceiling T S (take (serialize T S L target).words (serialize_target T S L target)) other
        ≡ leave (state_words h.serial.end) (run_members line_ceiling T S L)
    rerun-result other l = rw (read_back, ← h.members f) (h.rerun f other l)

    rerun-is : (other : List ℕ) → 2050 ≤ length other → Rerun T S L (take (serialize T S L target).words (serialize_target T S L target)) h.serial.end other
    unfolding run_log run_log_target
    rerun-is other l =
        let r = rerun-result other l in
        record {
          number = rw r;
          members = rw (r, log-ran other l);
          state = rw r (take-over (state_words h.serial.end) other);
        }

  serialized : Serialized T S L h.serial.end target
  serialized = record {
    refused = λ f. (ap (λ (a : Answer). a.number) (answered f), left f);
    only = λ k. rw (17-only (room_along line_ceiling T S L) refl k);
    number = λ f. ap (λ (a : Answer). a.number) (answered f);
    words = λ f. words-said f ∙ h.words;
    log = read_back;
    beyond = λ f. rw (words-said f, left f) (drop-over (log_words (serial_of T S L)) target);
    rerun = rerun-is;
  }

pub public-demand3 : PublicDemand3
public-demand3 T S L e ok ne op lo ran cl =
    let h = demand3 line_ceiling T S L e ok ne op lo ran cl in
    (h, serialized T S L e h (log-ran line_ceiling T S L e ok ne op lo ran cl))
