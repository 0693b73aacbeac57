-- How many picks a head uses, by its kind.
use Prim.Native.Nat.{ℕ, ◌≤◌}
use mathlib.Core.List.{List}
use mathlib.Core.Path.{◌≡◌, sym, ap, ◌∙◌}
use native.Mathlib.Omega.{arith}
use lib.ListN.{length, get_or-eq_default}
use borrow.Author.Tests.{eq-eqb, ne_eqb}
use Rattle.semantics.specs.Words.{head_kind, head_number}
use Rattle.semantics.specs.Table.{Table, Rule, sizes_of, table_of, no_rule, rule_at, consumed}
use Rattle.semantics.specs.Move.{picks_used}
use Rattle.wellformed.specs.Tables.{length-rules}

module _ (t : Table) (head : ℕ) where
  pub used-end : (head_kind head ≡ 0 → ⊥) → 0 ≡ picks_used t head
  used-end h = rw (ne_eqb (head_kind head) 0 h)

  pub used-rule : head_kind head ≡ 0 → picks_used t head ≡ length (consumed (rule_at t (head_number head)))
  used-rule h = rw (eq-eqb (head_kind head) 0 h)

pub used-no-rule : (t : List ℕ) (head : ℕ) → head_kind head ≡ 0 → (sizes_of t).rules ≤ head_number head → 0 ≡ picks_used (table_of t) head
used-no-rule t head k h =
    let l : length (table_of t).rules ≤ head_number head = omega (arith, length-rules t) in
    sym (used-rule (table_of t) head k ∙ ap (λ (r : Rule). length (consumed r)) (get_or-eq_default (table_of t).rules no_rule l))
