-- The verdict on table and state, from that on the table and that on the state.
use Prim.Native.Nat.{ℕ}
use mathlib.Core.List.{List}
use mathlib.Core.Path.{◌≡◌, sym, ◌∙◌}
use Rattle.semantics.specs.Table.{sizes_of}
use Rattle.semantics.specs.Answers.{table_verdict, state_own_verdict, state_verdict}
use Rattle.semantics.specs.declared.Refusal.{Refusal}
use Rattle.semantics.specs.declared.Verdict.{Verdict}
use Rattle.semantics.specs.declared.Verdict.TheVariants.{Allowed, Denied}
use Rattle.wellformed.specs.Verdicts.{denied≢allowed}
use Rattle.table.specs.Check.{CheckedAs}
use Rattle.ready.specs.Ready.{ReadyAs}

module _ (t s : List ℕ) {u : Verdict} {index : List ℕ} (checked : CheckedAs t u index) where
  pub table-denied : {r : Refusal} → u ≡ Denied r → ReadyAs t s (Denied r) index
  unfolding state_verdict
  table-denied {r} e =
      let d : table_verdict t ≡ Denied r = sym checked.verdict ∙ e in
      let v : state_verdict t s ≡ Denied r = rw d in
      record { verdict = sym v; room = checked.room; ready = λ a. absurd (denied≢allowed (sym v ∙ a)) }

  pub state-checked : u ≡ Allowed → {v : Verdict} → v ≡ state_own_verdict (sizes_of t) s → ReadyAs t s v index
  unfolding state_verdict
  state-checked e h =
      let a : table_verdict t ≡ Allowed = sym checked.verdict ∙ e in
      record { verdict = h ∙ rw a; room = checked.room; ready = λ accepted. record { accepted = accepted; starts = checked.starts a } }
