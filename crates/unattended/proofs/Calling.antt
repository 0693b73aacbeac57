-- What the public call answers: its first fault, or the run.
use Prim.Native.Nat.{ℕ, ◌+◌, ◌*◌, ◌≤◌, ◌<◌}
use mathlib.Core.Bool.{false}
use mathlib.Core.List.{List}
use mathlib.Core.Logic.{inl, inr}
use mathlib.Core.Path.{◌≡◌, refl, sym, ap, ◌∙◌}
use borrow.Author.Tests.{le-leb, lt-leb}
use lib.ListN.{length}
use Rattle.semantics.specs.Answers.{state_verdict, line_ceiling, alone_faults, alone_verdict, alone_moves, alone_result, alone_count, alone_still, alone_answer}
use Rattle.semantics.specs.Answers.{run_unattended, run_unattended_target}
use Rattle.semantics.specs.declared.LeftAlone.{LeftAlone}
use Rattle.semantics.specs.declared.Outcome.TheVariants.{Refused, Written}
use Rattle.semantics.specs.declared.Refusal.{Refusal}
use Rattle.semantics.specs.declared.Refusal.TheVariants.{BudgetTooLarge, TargetTooShort}
use Rattle.semantics.specs.declared.Verdict.TheVariants.{Allowed}
use Rattle.wellformed.specs.Verdicts.{unless-intro, unless-false, FaultAt, first-fault, no-fault}
use Rattle.wellformed.specs.Results.{too_short, long-enough}
use Rattle.wellformed.specs.LogWords.{log-length}
use Rattle.unattended.specs.declared.Gone.{Gone}
use Rattle.unattended.specs.Walked.{LeftAs, ToldAs}

pub told-as : {g : Gone} {t s : List ℕ} {budget : ℕ} {before after : List ℕ} {words moves : ℕ} → LeftAs g t s budget before after
    → words ≡ 1 + 5 * g.made → moves ≡ g.made → ToldAs (record { outcome = Written words; moves = moves; still = g.still }) t s budget before after
told-as {t = t} {s = s} {budget = budget} h w m = record {
  outcome = ap Written (w ∙ ap (λ (n : ℕ). 1 + 5 * n) h.count ∙ sym (log-length (alone_moves line_ceiling t s budget)));
  moves = m ∙ h.count;
  still = h.still;
  log = h.log;
}

abbrev pub Answered : List ℕ → List ℕ → ℕ → List ℕ → List ℕ → LeftAlone → Type 0
Answered t s budget before after r = (alone_answer r ≡ run_unattended t s budget before) × (after ≡ run_unattended_target t s budget before)

module _ (t s : List ℕ) (budget : ℕ) (before : List ℕ) where
  pub alone-fault : (q : Refusal) → FaultAt q (alone_faults t s budget before) → {r : LeftAlone}
      → r ≡ record { outcome = Refused q; moves = 0; still = false } → Answered t s budget before before r
  unfolding run_unattended run_unattended_target alone_result alone_count alone_still alone_verdict
  alone-fault q h e = rw (e, first-fault (alone_faults t s budget before) h) (refl, refl)

  module _ (ok : state_verdict t s ≡ Allowed) where
    pub alone-over : 1024 < budget → {r : LeftAlone} → r ≡ record { outcome = Refused BudgetTooLarge; moves = 0; still = false }
        → Answered t s budget before before r
    alone-over l e = alone-fault BudgetTooLarge (inr (ok, inl (unless-false BudgetTooLarge (lt-leb budget 1024 l)))) e

    module _ (few : budget ≤ 1024) where
      pub alone-short : length before < 1 + 5 * budget → {r : LeftAlone} → r ≡ record { outcome = Refused TargetTooShort; moves = 0; still = false }
          → Answered t s budget before before r
      alone-short l e =
          alone-fault TargetTooShort
          (inr (ok, inr (unless-intro BudgetTooLarge (le-leb budget 1024 few), inl (too_short (1 + 5 * budget) before l)))) e

      pub alone-done : 1 + 5 * budget ≤ length before → {after : List ℕ} {r : LeftAlone} → ToldAs r t s budget before after → Answered t s budget before after r
      unfolding run_unattended run_unattended_target alone_result alone_count alone_still alone_verdict
      alone-done l {after} {r} c =
          let passed = no-fault (alone_faults t s budget before) (
            ok,
            (
              unless-intro BudgetTooLarge (le-leb budget 1024 few),
              (long-enough (1 + 5 * budget) before l, tt),
            ),
          ) in
          rw (passed, ← c.moves, ← c.still) (ap (λ o. alone_answer (record { outcome = o; moves = r.moves; still = r.still })) c.outcome, c.log)
