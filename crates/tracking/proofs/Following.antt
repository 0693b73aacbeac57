-- A rule's class, and what a reaction has left.
use Prim.Native.Nat.{ℕ, ◌<◌}
use mathlib.Core.List.{List}
use mathlib.Core.Path.{◌≡◌, sym, ap}
use lib.ListN.{get_or}
use Rattle.lists.specs.Rows.{rows}
use Rattle.semantics.specs.Words.{port_of}
use Rattle.semantics.specs.Table.{Rule, sizes_of, atom_words_of, class_of, rule_of, table_of, rule_at}
use Rattle.semantics.specs.Move.{react, applied}
use Rattle.semantics.specs.State as semantics
use Rattle.semantics.specs.declared.Sizes.{Sizes}
use Rattle.wellformed.specs.Tables.{sizes-table_of}
use Rattle.wellformed.specs.Rules.{rules-right}
use Rattle.table.specs.Index.{cut}
use Rattle.rules.specs.RuleWords.{cut-rule}
use Rattle.state.specs.declared.Extent.{Extent}
use Rattle.state.specs.Working.{held, state_in, row_of}
use Rattle.state.specs.Lent.{Columns}
use Rattle.stopped.specs.Reacted.{Reacting}
use Rattle.step.specs.Make.{Indexed}
use Rattle.tracking.specs.Reacted.{ReactedTo}

-- the class of a rule, read from its words
pub class-is : {t index : List ℕ} → Indexed t index → (r : ℕ) → r < (sizes_of t).rules → {words : List ℕ} → words ≡ atom_words_of t → {z : Sizes}
    → z ≡ sizes_of t
    → {ws : List ℕ} → ws ≡ cut index r words → class_of z (port_of (get_or ws 0 0)) ≡ (rule_at (table_of t) r).class
unfolding rule_of
class-is {t} {index} h r l ew ez cuts = ap (λ (x : Rule). x.class) (cut-rule t index r h.table l h.starts ew ez cuts)

module _ {t index : List ℕ} {r : ℕ} {s : semantics.State} {ps : List ℕ} {i : ℕ} {os ws gs : List ℕ} {left : Extent} {stopped totals : List ℕ}
    (h : ReactedTo t index r s ps i (held os ws gs left) stopped totals) where
  pub reacting : Reacting (table_of t) s r ps
  reacting = record {
    allows = h.reacts.allows;
    legal = rw (sizes-table_of t) (rules-right t h.indexed.table r h.known);
    next_low = h.reacts.sound.next_low;
  }

  pub left-columns : Columns os ws left.len
  left-columns = record { owners = h.holds.arrays.owners; items = h.holds.arrays.items; fits = h.holds.holds.fits }

  pub entries-are : (applied (table_of t) i s (react r ps)).entries ≡ rows (row_of os ws gs) 0 left.len
  unfolding state_in
  entries-are = ap (λ (x : semantics.State). x.entries) (sym h.holds.holds.value)
