-- The list of open moves rule by rule, and behind the reactions the ends.
use Rattle.std.specs.Prelude.{ℕ, ◌-◌, Bool, ◌&&◌, cond, ◌≡◌, length}
use mathlib.Core.List.{List, [], ◌++◌, map, append_assoc}
use Rattle.std.proofs.Math.Path.{ap}
use Rattle.std.proofs.Common.{◌∙◌, arith}
use Rattle.lists.specs.Lists.{keep, up_from, each}
use Rattle.lists.specs.Parts.{keep_append}
use Rattle.lists.specs.Tuples.{keep-each, each-up}
use Rattle.semantics.specs.Table.{Rule, sizes_of, table_of, rule_at}
use Rattle.semantics.specs.State.{State}
use Rattle.semantics.specs.Move.{Move, react, commit, abort, takes_part, has_id, move_verdict}
use Rattle.semantics.specs.Enabled.{reactions_of, is_allowed, enabled}
use Rattle.semantics.specs.Answers.{table_verdict}
use Rattle.semantics.specs.declared.Verdict.TheVariants.{Allowed}
use Rattle.wellformed.specs.Tables.{length-rules}
use Rattle.wellformed.specs.Entries.{StateRight}
use Rattle.enabled.specs.Keys.{Keyed}
use Rattle.enabled.specs.Reactions.{has_room, choices_of, reactions-open}

-- the open reactions by a rule, by the keys of the entries
abbrev pub open_by : ℕ → Rule → ℕ → State → List ℕ → List Move
open_by ceiling R r S ks = map (react r) (cond (has_id R S && has_room ceiling R S) (choices_of R ks) [])

module _ (t : List ℕ) (table : table_verdict t ≡ Allowed) (S : State) (right : StateRight (sizes_of t) S) (ceiling : ℕ) where
  abbrev open? : Move → Bool
  open? m = is_allowed (move_verdict ceiling (table_of t) S m)

  abbrev end : (ℕ → Move) → List Move
  end f = map f (up_from 1 (S.next - 1))

  abbrev by : ℕ → List Move
  by = reactions_of (table_of t) (length S.entries)

  abbrev all : List Move
  all = each by (up_from 0 (length (table_of t).rules))

  module _ {ks : List ℕ} (keyed : Keyed (sizes_of t) (takes_part S) S.entries ks) where
    by-rules : keep open? all ≡ each (λ r. open_by ceiling (rule_at (table_of t) r) r S ks) (up_from 0 (sizes_of t).rules)
    by-rules =
        keep-each open? by (up_from 0 (length (table_of t).rules))
        ∙ ap (λ (k : ℕ). each (λ r. keep open? (by r)) (up_from 0 k)) (length-rules t)
        ∙ each-up (λ r. keep open? (by r)) (λ r. open_by ceiling (rule_at (table_of t) r) r S ks) 0 (sizes_of t).rules
        (λ r l. reactions-open t table S right r (omega arith) ceiling keyed)

    pub enabled-by-rules : enabled ceiling (table_of t) S
        ≡ each (λ r. open_by ceiling (rule_at (table_of t) r) r S ks) (up_from 0 (sizes_of t).rules) ++ (keep open? (end commit) ++ keep open? (end abort))
    unfolding enabled
    enabled-by-rules =
        keep_append open? (all ++ end commit) (end abort)
        ∙ ap (λ (l : List Move). l ++ keep open? (end abort)) (keep_append open? all (end commit))
        ∙ ap (λ (l : List Move). (l ++ keep open? (end commit)) ++ keep open? (end abort)) by-rules
        ∙ append_assoc (each (λ r. open_by ceiling (rule_at (table_of t) r) r S ks) (up_from 0 (sizes_of t).rules)) (keep open? (end commit)) (keep open?
        (end abort))
