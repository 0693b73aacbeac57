-- The rules of a well-formed table, tried one by one: whether one begins a transaction and emits.
use Prim.Native.Nat.{ℕ, ◌+◌, ◌≤◌, ◌<◌}
use mathlib.Core.Bool.{Bool, true, false, ◌&&◌}
use mathlib.Core.List.{List}
use mathlib.Core.Path.{◌≡◌, refl, sym, ap, ◌∙◌}
use native.Mathlib.Omega.{arith}
use lib.ListN.{length, drop}
use Rattle.lists.specs.Lists.{any}
use Rattle.lists.specs.Tests.{true-or, false-or}
use Rattle.lists.specs.Ahead.{Tails, slice-tails, Ahead, ahead-start, ahead-here, ahead-next, ahead-done}
use Rattle.semantics.specs.Table.{sizes_of, numbers_of, atom_words_of, is_role, begins, emits, Rule, rule_of, table_of, rule_at, no_rule}
use Rattle.wellformed.specs.Tables.{rule-has, length-rules}
use Rattle.semantics.specs.Serial.{begins_emit}
use Rattle.semantics.specs.Answers.{table_verdict}
use Rattle.semantics.specs.declared.Sizes.{Sizes}
use Rattle.semantics.specs.declared.Verdict.TheVariants.{Allowed}
use Rattle.table.specs.Index.{Starts, Cut, cut}
use Rattle.rules.specs.RuleWords.{rule-within, cut-rule}

-- the rule begins a transaction and emits
abbrev pub opens_and_emits : Rule → Bool
opens_and_emits x = begins x && emits x

pub opens-roles : (z : Sizes) (ws : List ℕ) → any (is_role 2) ws && any (is_role 1) ws ≡ opens_and_emits (rule_of z ws)
opens-roles z ws = rw (rule-has z ws 2, rule-has z ws 1)

-- r rules are tried
pub record Trying (t starts : List ℕ) (rules : ℕ) (words : List ℕ) (r : ℕ) : Type 0 where
  pub verdict : table_verdict t ≡ Allowed
  pub index : Starts (numbers_of t) (sizes_of t).rules starts
  pub bound : rules ≡ (sizes_of t).rules
  pub parts : words ≡ atom_words_of t
  pub ahead : Ahead (λ k. drop k (table_of t).rules) (sizes_of t).rules (any opens_and_emits) r (begins_emit (table_of t))

pub trying_start :
    (t starts : List ℕ) {z : Sizes} {words : List ℕ}
    → table_verdict t ≡ Allowed
    → Starts (numbers_of t) (sizes_of t).rules starts
    → z ≡ sizes_of t
    → words ≡ atom_words_of t
    → Trying t starts z.rules words 0
trying_start t starts v s ez ew = record {
  verdict = v;
  index = s;
  bound = ap (λ (z : Sizes). z.rules) ez;
  parts = ew;
  ahead = ahead-start (λ k. drop k (table_of t).rules) (sizes_of t).rules (any opens_and_emits);
}

rule-tails : (t : List ℕ) → Tails (λ k. rule_at (table_of t) k) (λ k. drop k (table_of t).rules) (sizes_of t).rules
rule-tails t = rw (length-rules t) at (slice-tails no_rule (table_of t).rules)

module _ {t starts : List ℕ} {rules : ℕ} {words : List ℕ} {r : ℕ} (a : Trying t starts rules words r) where
  pub trying-done : rules ≤ r → false ≡ begins_emit (table_of t)
  trying-done h = ahead-done (rule-tails t) a.ahead (omega (arith, a.bound))

  module _ (h : r < rules) where
    under : r < (sizes_of t).rules
    under = omega (arith, a.bound)

    pub trying-within : Cut starts r (length words)
    trying-within = rule-within t starts r a.verdict under a.index a.parts

    -- b: the answer for the words of rule r
    module _ {xs : List ℕ} {b : Bool} (ex : xs ≡ cut starts r words) (eb : (z : Sizes) → b ≡ opens_and_emits (rule_of z xs)) where
      answer : opens_and_emits (rule_at (table_of t) r) ≡ b
      answer = sym (eb (sizes_of t) ∙ ap opens_and_emits (cut-rule t starts r a.verdict under a.index a.parts refl ex))

      pub trying-here : b ≡ true → true ≡ begins_emit (table_of t)
      trying-here e = ahead-here (rule-tails t) a.ahead under true (λ xs. true-or (any opens_and_emits xs) (answer ∙ e))

      pub trying-next : b ≡ false → Trying t starts rules words (r + 1)
      trying-next e = record {
        verdict = a.verdict;
        index = a.index;
        bound = a.bound;
        parts = a.parts;
        ahead = ahead-next (rule-tails t) a.ahead under (any opens_and_emits) (λ xs. false-or (any opens_and_emits xs) (answer ∙ e));
      }
