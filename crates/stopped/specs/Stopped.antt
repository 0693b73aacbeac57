-- The transactions that have an abort mark, as a set of ids.
use Rattle.std.specs.Prelude.{ℕ, Bool, true, false, ◌&&◌, not, List, ◌≡◌, ltb, length}
use Rattle.std.proofs.Common.{sym, ap, ◌∙◌, arith, eqb-true, ltb-true, lt-ltb}
use Rattle.std.proofs.Math.Path.{fun_ext}
use Rattle.std.proofs.lemmas.Bool.{eqb-false}
use Rattle.lists.specs.Lists.{any}
use Rattle.lists.specs.Choices.{by_bool, is_false, and_left, and_right}
use Rattle.lists.specs.Members.{any_some}
use Rattle.semantics.specs.State.{Entry, State, is_abort_mark, owned}
use Rattle.semantics.specs.Move.{is_zero, takes_part}
use Rattle.idset.specs.IdSet.{has}
use Rattle.transactions.specs.Sets.{stops, abort-marked}

-- the owners of abort marks
pub record StoppedIn (es : List Entry) (stopped : List ℕ) : Type 0 where
  pub size : length stopped ≡ 1024
  pub are : (v : ℕ) → has stopped v ≡ any (λ e. owned v e && stops e) es

-- ---- for callers

-- those that own no abort mark; nothing global is one
same-mark : (v : ℕ) (e : Entry) → (v ≡ 0 → ⊥) → owned v e && stops e ≡ owned v e && is_abort_mark e
same-mark v e n = by_bool (owned v e)
    (λ o. let q = eqb-true e.owner v o in rw (lt-ltb 0 e.owner (omega arith)))
    (λ o. rw o)

pub unstopped : (s : State) (v : ℕ) → not (any (λ e. owned v e && stops e) s.entries) ≡ takes_part s v
unstopped s v = by_bool (is_zero v) zero other
  where
    zero : is_zero v ≡ true → not (any (λ e. owned v e && stops e) s.entries) ≡ takes_part s v
    zero z =
        let none : any (λ e. owned v e && stops e) s.entries ≡ false = is_false (any (λ e. owned v e && stops e) s.entries) (λ h.
        let (e, m, k) = any_some (λ e. owned v e && stops e) s.entries h in
        let o = eqb-true e.owner v (and_left (owned v e) (stops e) k) in
        let l = ltb-true 0 e.owner (and_left (ltb 0 e.owner) (is_abort_mark e) (and_right (owned v e) (stops e) k)) in
        let q = eqb-true v 0 z in
        absurd (omega arith)) in
        rw (none, z)

    other : is_zero v ≡ false → not (any (λ e. owned v e && stops e) s.entries) ≡ takes_part s v
    other z =
        let e : ◌≡◌ {A = Entry → Bool} (λ e. owned v e && stops e) (λ e. owned v e && is_abort_mark e) = fun_ext (λ e. same-mark v e (eqb-false v 0 z)) in
        rw z (ap not (ap (λ (p : Entry → Bool). any p s.entries) e ∙ sym (abort-marked v s)))

pub outside-stopped : (s : State) {stopped : List ℕ} → StoppedIn s.entries stopped → (λ (v : ℕ). not (has stopped v)) ≡ takes_part s
outside-stopped s are = fun_ext (λ v. ap not (are.are v) ∙ unstopped s v)
