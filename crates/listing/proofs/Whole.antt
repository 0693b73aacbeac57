-- What the loop over the rules and the whole list use.
use Prim.Native.Nat.{ℕ, ◌+◌, ◌*◌}
use mathlib.Core.Path.{◌≡◌, ap, subst}
use mathlib.Core.List.{List, ◌++◌}
use native.Mathlib.Nat.{zero-add}
use native.Mathlib.Omega.{arith}
use lib.ListN.{length, length-append}
use Rattle.lists.specs.Pages.{Paged}
use Rattle.semantics.specs.Table.{Rule}
use Rattle.semantics.specs.Move.{Move}
use Rattle.semantics.specs.Enabled.{move_words}
use Rattle.rules.specs.declared.decode.Rule as rules
use Rattle.rules.specs.Decode.{Decodes}
use Rattle.reaction.specs.Decoded.{rule_in, rule-in}
use Rattle.choices.specs.declared.Part.{Part}
use Rattle.choices.specs.Parts.{PartAs}
use Rattle.rule_moves.specs.Takes.{moves_by}

-- a part more is told
pub more-length : (all rest a b : List Move) (n p : ℕ) → n + length rest ≡ length all → rest ≡ a ++ b → p ≡ length a → n + p + length b ≡ length all
more-length all rest a b n p h e q = omega (arith, h, ap length e, length-append a b, q)

-- what is said of a decoded rule is said of the rule
module _ {x : rules.Rule} {R : Rule} (d : Decodes x R) where
  pub part-of-rule : (ceiling r n next : ℕ) (ks : List ℕ) {first count at : ℕ} {before after : List ℕ} {p : Part}
      → PartAs move_words (moves_by ceiling (rule_in x) r n next ks) first count at before after p
      → PartAs move_words (moves_by ceiling R r n next ks) first count at before after p
  part-of-rule ceiling r n next ks {first} {count} {at} {before} {after} {p} h =
      subst (λ R. PartAs move_words (moves_by ceiling R r n next ks) first count at before after p) (rule-in x R d) h

pub from_zero : (d : ℕ) {xs : List Move} {first count : ℕ} {before after : List ℕ} {n : ℕ} → Paged move_words 5 xs first count (5 * d) before after n
    → Paged move_words 5 xs first count (0 + 5 * d) before after n
from_zero d h = rw (zero-add (5 * d)) h

pub part-from-zero : (d : ℕ) {xs : List Move} {first count : ℕ} {before after : List ℕ} {p : Part} → PartAs move_words xs first count (5 * d) before after p
    → PartAs move_words xs first count (0 + 5 * d) before after p
part-from-zero d h = rw (zero-add (5 * d)) h
