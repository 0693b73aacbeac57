-- The totals before and after a reaction by a rule of an accepted table.
use Prim.Native.Nat.{ℕ, ◌-◌, ◌≤◌, ◌<◌}
use mathlib.Core.Bool.{Bool, true, false, or-false}
use mathlib.Core.List.{List, [], ◌∷◌, map}
use mathlib.Core.Logic.{◌⊎◌, inl, inr}
use mathlib.Core.Path.{◌≡◌, refl, sym, ap, ◌∙◌}
use native.Mathlib.Omega.{arith}
use borrow.Author.Tests.{leb-true, eqb-true, eq-eqb}
use lib.Dec.{leb, eqb}
use lib.ListN.{length, get_or}
use Rattle.lists.specs.Lists.{any, rises_from}
use Rattle.lists.specs.Choices.{by_bool, and_left, and_right}
use Rattle.lists.specs.Tests.{true-or}
use Rattle.lists.specs.Members.{Among, all-each}
use Rattle.lists.specs.Rising.{keyed}
use Rattle.lists.specs.Counting.{count-le}
use Rattle.lists.specs.Parts.{any-map}
use Rattle.semantics.specs.Words.{atom_role, port_of}
use Rattle.semantics.specs.Table.{Rule, sizes_of, numbers_of, atom_words_of, class_of, is_role, shape_of, atom_ok, atom_of, rule_of, table_of, rule_at, has_role}
use Rattle.table.specs.Index.{Starts, cut}
use Rattle.rules.specs.RuleWords.{cut_fits, cut-rule}
use Rattle.semantics.specs.State.{State}
use Rattle.semantics.specs.Move.{react, takes_part, allowed, applied}
use Rattle.semantics.specs.Answers.{table_verdict}
use Rattle.semantics.specs.declared.Sizes.{Sizes}
use Rattle.semantics.specs.declared.Verdict.TheVariants.{Allowed}
use Rattle.wellformed.specs.Tables.{RuleFits, atom-fits}
use Rattle.wellformed.specs.Rules.{rules-right}
use Rattle.wellformed.specs.Picks.{ReactGiven, react-given}
use Rattle.enabled.specs.Keys.{takeable_on}
use Rattle.enabled.specs.Reactions.{consumed-ports}
use Rattle.enabled.specs.Supply.{Supply}
use Rattle.supply.specs.Atoms.{AtomsCounted, Enough}
use Rattle.supply.specs.Balance.{consumed-le, supply-after}
use Rattle.supply.specs.Reacts.{Reacts}

module _ (t : List ℕ) (r : ℕ) (table : table_verdict t ≡ Allowed) (known : r < (sizes_of t).rules) where
  abbrev R : Rule
  R = rule_at (table_of t) r

  module _ {s : State} {ps totals : List ℕ} (reacts : Reacts t r s ps totals) where
    passed : ReactGiven R s ps
    unfolding allowed
    passed = react-given R s ps reacts.allows

    reacts-enough : Enough R.atoms totals
    reacts-enough = record {
      size = reacts.supply.size;
      few = (rules-right t table r known).atoms-le;
      low = λ p l. omega (arith, reacts.supply.each p l, consumed-le (sizes_of t) passed (consumed-ports t table r known) p);
      high = λ p l. omega (arith, reacts.supply.each p l, count-le (takeable_on (sizes_of t) (takes_part s) p) s.entries, reacts.few);
    }

    reacts-after : {totals' : List ℕ} → AtomsCounted (sizes_of t).globals (eqb R.class 0) (any (has_role 5) R.atoms) R.atoms totals totals'
        → (R.class ≡ 0) ⊎ (any (has_role 5) R.atoms ≡ false) → (i : ℕ) → Supply (sizes_of t) (applied (table_of t) i s (react r ps)) totals'
    unfolding applied
    reacts-after counted calm i = record {
      size = counted.size;
      each = λ p l. omega (
        arith,
        counted.each p,
        reacts.supply.each p l,
        supply-after (sizes_of t) passed (consumed-ports t table r known) p (rules-right t table r known) reacts.sound calm i,
      );
    }

-- ---- the last of a list whose keys never fall

module _ {A : Type 0} (key : A → ℕ) (top : ℕ) (d : A) where
  -- it has the highest key, if any has
  last-top : (m : ℕ) (x : A) (xs : List A) → rises_from m key (x ∷ xs) ≡ true → ((y : A) → Among y (x ∷ xs) → key y ≤ top)
      → eqb (key (get_or (x ∷ xs) (length xs) d)) top ≡ any (keyed key top) (x ∷ xs)
  last-top m x [] h le = sym (or-false (eqb (key x) top))
  last-top m x (y ∷ ys) h le =
      let up = and_right (leb m (key x)) (rises_from (key x) key (y ∷ ys)) h in
      let ih = last-top (key x) y ys up (λ z n. le z (inr n)) in
      by_bool (eqb (key x) top)
      (λ e.
      let here = eqb-true (key x) top e in
      let l = leb-true (key x) (key y) (and_left (leb (key x) (key y)) (rises_from (key y) key ys) up) in
      let u = le y (inr (inl refl)) in
      rw e (ih ∙ true-or (any (keyed key top) ys) (eq-eqb (key y) top (omega arith))))
      (λ e. rw e ih)

  top-last : (m : ℕ) (xs : List A) → 1 ≤ length xs → rises_from m key xs ≡ true → ((y : A) → Among y xs → key y ≤ top)
      → eqb (key (get_or xs (length xs - 1) d)) top ≡ any (keyed key top) xs
  top-last m [] l h le = absurd (omega arith)
  top-last m (x ∷ xs) l h le =
      let e : length (x ∷ xs) - 1 ≡ length xs = omega arith in
      rw e (last-top m x xs h le)

-- ---- by the words of the rule

rule-parts : (z : Sizes) (ws : List ℕ) {R : Rule} → rule_of z ws ≡ R → (map atom_of ws ≡ R.atoms) × (class_of z (port_of (get_or ws 0 0)) ≡ R.class)
unfolding rule_of
rule-parts z ws e = (ap (λ (x : Rule). x.atoms) e, ap (λ (x : Rule). x.class) e)

module _ (t starts : List ℕ) (r : ℕ) (table : table_verdict t ≡ Allowed) (known : r < (sizes_of t).rules)
    (index : Starts (numbers_of t) (sizes_of t).rules starts) {words : List ℕ} (ew : words ≡ atom_words_of t) {z : Sizes} (ez : z ≡ sizes_of t)
    {ws : List ℕ} (cuts : ws ≡ cut starts r words) where
  parts : (map atom_of ws ≡ (rule_at (table_of t) r).atoms) × (class_of z (port_of (get_or ws 0 0)) ≡ (rule_at (table_of t) r).class)
  parts = rule-parts z ws (cut-rule t starts r table known index ew ez cuts)

  words-fit : RuleFits z ws
  words-fit = cut_fits t starts r table known index ew ez cuts

  pub words-some : 1 ≤ length ws
  words-some = omega (arith, words-fit.some, count-le (is_role 0) ws)

  -- the last word tells whether the rule aborts
  words_last : is_role 5 (get_or ws (length ws - 1) 0) ≡ any (is_role 5) ws
  words_last = top-last atom_role 5 0 0 ws words-some words-fit.rises
      (λ w m. (atom-fits z (shape_of z ws) w (all-each (atom_ok z (shape_of z ws)) ws words-fit.atoms w m)).role)

  module _ {s : State} {ps totals : List ℕ} (reacts : Reacts t r s ps totals) where
    pub words-enough : Enough (map atom_of ws) totals
    words-enough = rw parts.0 (reacts-enough t r table known reacts)

    pub words-after : {class : ℕ} → class ≡ class_of z (port_of (get_or ws 0 0)) → {aborts : Bool} → aborts ≡ is_role 5 (get_or ws (length ws - 1) 0)
        → {totals' : List ℕ} → AtomsCounted z.globals (eqb class 0) aborts (map atom_of ws) totals totals'
        → ((rule_at (table_of t) r).class ≡ 0) ⊎ (any (has_role 5) (rule_at (table_of t) r).atoms ≡ false)
        → (i : ℕ) → Supply (sizes_of t) (applied (table_of t) i s (react r ps)) totals'
    words-after ec ea {totals'} counted =
        let abort = ea ∙ words_last ∙ sym (any-map atom_of (has_role 5) ws) ∙ ap (any (has_role 5)) parts.0 in
        reacts-after t r table known reacts (rw (parts.0, ec ∙ parts.1, abort, ez) at counted)
