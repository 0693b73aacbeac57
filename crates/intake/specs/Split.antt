-- Where the parts of the program's input lie, and what its check answers.
use Rattle.std.specs.Prelude.{ℕ, ◌-◌, ◌*◌, ◌≤◌, true, List, ◌≡◌, eqb, length, take, drop}
use Rattle.std.proofs.Common.{arith, eqb-true, length-drop, length-take-le}
use Rattle.semantics.specs.Log.{log_sizes_ok}
use Rattle.semantics.specs.Answers.{state_verdict, log_verdict}
use Rattle.semantics.specs.Program.{parts_of, part_words, input_verdict}
use Rattle.semantics.specs.declared.Refusal.TheVariants.{LogSizes}
use Rattle.semantics.specs.declared.Verdict.TheVariants.{Allowed}
use Rattle.wellformed.specs.Verdicts.{both-allowed, unless_allowed}
use Rattle.ready.specs.Ready.{Ready}
use Rattle.intake.specs.declared.parts.Parts.{Parts}

-- the parts as slices
pub record CutAt (ws : List ℕ) (state-at log-at end : ℕ) : Type 0 where
  pub table : take state-at ws ≡ (parts_of ws).table
  pub state : take (log-at - state-at) (drop state-at ws) ≡ (parts_of ws).state
  pub log : take (end - log-at) (drop log-at ws) ≡ (parts_of ws).log
  pub state-after : state-at ≤ log-at
  pub log-after : log-at ≤ end
  pub within : end ≤ length ws
  pub sliced : state-at ≡ length (take state-at ws)

pub record SplitAs (ws : List ℕ) (bytes : ℕ) (p : Parts) : Type 0 where
  pub verdict : p.verdict ≡ input_verdict ws bytes
  pub cut : CutAt ws p.state_at p.log_at p.end
  pub ready : p.verdict ≡ Allowed → Ready (parts_of ws).table (parts_of ws).state p.starts

-- the three parts are all the words up to the end
pub cut-words : {ws : List ℕ} {a b e : ℕ} → CutAt ws a b e → part_words (parts_of ws) ≡ e
cut-words {ws} {a} {b} {e} c =
    let n = length-take-le a ws (omega arith) in
    let m = length-take-le (b - a) (drop a ws) (omega (arith, length-drop a ws)) in
    let k = length-take-le (e - b) (drop b ws) (omega (arith, length-drop b ws)) in
    rw (← c.table, ← c.state, ← c.log, n, m, k) (omega arith)

-- what an accepted input is known to have
pub record AcceptedInput (ws : List ℕ) (bytes : ℕ) : Type 0 where
  pub state : state_verdict (parts_of ws).table (parts_of ws).state ≡ Allowed
  pub log : log_sizes_ok (parts_of ws).log ≡ true
  pub whole : bytes ≡ 4 * part_words (parts_of ws)

pub accepted-input : {ws : List ℕ} {bytes : ℕ} → input_verdict ws bytes ≡ Allowed → AcceptedInput ws bytes
unfolding input_verdict log_verdict
accepted-input {ws} {bytes} h =
    let p = parts_of ws in
    let (logged, whole) = both-allowed _ _ h in
    let (state, log) = both-allowed _ _ logged in
    record {
      state = state;
      log = unless_allowed (log_sizes_ok p.log) LogSizes log;
      whole = eqb-true bytes (4 * part_words p) (unless_allowed (eqb bytes (4 * part_words p)) LogSizes whole);
    }
