-- The verdict on an input, from those on its parts: the first fault counts.
use Prim.Native.Nat.{ℕ, ◌-◌, ◌*◌}
use mathlib.Core.List.{List, [], ◌∷◌}
use mathlib.Core.Path.{◌≡◌, refl, sym, ◌∙◌}
use lib.Dec.{eqb}
use lib.ListN.{take, drop}
use Rattle.semantics.specs.Log.{log_sizes_ok}
use Rattle.semantics.specs.Move.{unless, both, first_fault}
use Rattle.semantics.specs.Answers.{state_verdict, log_verdict}
use Rattle.semantics.specs.Program.{parts_of, input_verdict}
use Rattle.semantics.specs.declared.Refusal.TheVariants.{LogSizes}
use Rattle.semantics.specs.declared.Verdict.{Verdict}
use Rattle.semantics.specs.declared.Verdict.TheVariants.{Allowed, Denied}
use Rattle.ready.specs.Ready.{ReadyAs}
use Rattle.intake.specs.Split.{CutAt, SplitAs, cut-words, accepted-input}
use Rattle.intake.specs.declared.parts.Parts.{Parts}

both-three : (a b c : Verdict) → both a (both b c) ≡ both (both a b) c
both-three Allowed b c = refl
both-three (Denied r) b c = refl

-- ---- the answer
pub split-as :
    (ws : List ℕ) (bytes : ℕ) (p : Parts)
    → CutAt ws p.state_at p.log_at p.end
    → {first : Verdict} → ReadyAs (take p.state_at ws) (take (p.log_at - p.state_at) (drop p.state_at ws)) first p.starts
    → p.verdict
    ≡ first_fault
    (first ∷ unless (log_sizes_ok (take (p.end - p.log_at) (drop p.log_at ws))) LogSizes ∷ unless (eqb bytes (4 * p.end)) LogSizes ∷ [])
    → SplitAs ws bytes p
unfolding input_verdict log_verdict
split-as ws bytes p cut {first} k e =
    let k : ReadyAs (parts_of ws).table (parts_of ws).state first p.starts = rw (cut.table, cut.state) at k in
    let q = parts_of ws in
    let log = unless (log_sizes_ok q.log) LogSizes in
    let v : p.verdict ≡ input_verdict ws bytes =
    rw (cut-words cut) (rw (cut.log, k.verdict) at e ∙ both-three (state_verdict q.table q.state) log (unless (eqb bytes (4 * p.end)) LogSizes)) in
    record { verdict = v; cut = cut; ready = λ h. k.ready (accepted-input (sym v ∙ h)).state }
