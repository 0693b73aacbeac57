-- The list of open moves: a page written, and its call case by case.
use Prim.Native.Nat.{ℕ, ◌+◌, ◌*◌, ◌≤◌, ◌<◌, min}
use mathlib.Core.List.{List, ◌++◌}
use mathlib.Core.Logic.{inl, inr}
use mathlib.Core.Path.{◌≡◌, refl, ap, ◌∙◌}
use native.Mathlib.Nat.{zero-add}
use native.Mathlib.Omega.{arith}
use lib.ListN.{length, drop}
use lib.Seq.{sets-eq}
use Rattle.lists.specs.Pages.{page, page-le, each-length}
use Rattle.semantics.specs.Move.{Move}
use Rattle.semantics.specs.Enabled.{move_words, page_count}
use Rattle.semantics.specs.Answers.{page_answer, state_verdict, list_faults, list_result, list_length, list_moves, list_moves_target}
use Rattle.semantics.specs.declared.Listed.{Listed}
use Rattle.semantics.specs.declared.Refusal.{Refusal}
use Rattle.semantics.specs.declared.Refusal.TheVariants.{TargetTooShort}
use Rattle.semantics.specs.declared.Verdict.TheVariants.{Allowed}
use Rattle.semantics.specs.declared.Outcome.TheVariants.{Refused, Written}
use Rattle.wellformed.specs.MoveWords.{move_words-length}
use Rattle.wellformed.specs.Verdicts.{FaultAt, first-fault, no-fault}
use Rattle.choices.specs.declared.Part.{Part}
use Rattle.choices.specs.Parts.{PartAs}
use Rattle.calls.specs.Lists.{all_open, page_words, ListComesTo}
use Rattle.wellformed.specs.Results.{too_short, long-enough}

-- a page written from the target's beginning
module _ (ms : List Move) (first count : ℕ) (before : List ℕ) (room : 5 * count ≤ length before) where
  long : length (page_words ms first count) ≡ 5 * length (page first count ms)
  long = each-length move_words 5 move_words-length (page first count ms)

  pub page-written : {after : List ℕ} {p : Part} {words : ℕ} → PartAs move_words ms first count 0 before after p → words ≡ 5 * p.written
      → ListComesTo ms first count before after (record { outcome = Written words; length = p.length })
  page-written {after} {p} {words} h w =
      let few = page-le first count ms in
      let fits : 0 + length (page_words ms first count) ≤ length before = omega (arith, long) in
      let n : words ≡ length (page_words ms first count) = omega (arith, h.paged.number, long) in
      record {
        result = record {
          outcome = ap Written n;
          target = h.paged.contents ∙ sets-eq (page_words ms first count) before 0 fits
              ∙ ap (λ (k : ℕ). page_words ms first count ++ drop k before) (zero-add (length (page_words ms first count)));
        };
        total = h.total;
      }

-- what `list_moves` says
abbrev pub ListAnswered : List ℕ → List ℕ → ℕ → ℕ → List ℕ → List ℕ → Listed → Type 0
ListAnswered t s first count before after r = (page_answer r ≡ list_moves t s first count before) × (after ≡ list_moves_target t s first count before)

module _ (t s : List ℕ) (first count : ℕ) (before : List ℕ) where
  pub list-fault : (q : Refusal) → FaultAt q (list_faults t s count before) → {r : Listed} → r ≡ record { outcome = Refused q; length = 0 }
      → ListAnswered t s first count before before r
  unfolding list_moves list_moves_target list_result list_length
  list-fault q h e = rw (e, first-fault (list_faults t s count before) h) (refl, refl)

  module _ (ok : state_verdict t s ≡ Allowed) {most : ℕ} (is : most ≡ min count 256) where
    pub list-short : length before < 5 * most → {r : Listed} → r ≡ record { outcome = Refused TargetTooShort; length = 0 }
        → ListAnswered t s first count before before r
    list-short h e = list-fault TargetTooShort (inr (ok, inl (too_short (5 * page_count count) before (rw (← is) h)))) e

    pub list_done : 5 * most ≤ length before → {after : List ℕ} {r : Listed} → ListComesTo (all_open t s) first most before after r
        → ListAnswered t s first count before after r
    unfolding list_moves list_moves_target list_result list_length
    list_done h {after} {r} c =
        let passed = no-fault (list_faults t s count before) (ok, (long-enough (5 * page_count count) before (rw (← is) h), tt)) in
        rw (passed, ← is, ← c.total) (ap (λ o. page_answer (record { outcome = o; length = r.length })) c.result.outcome, c.result.target)
