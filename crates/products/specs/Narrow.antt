-- What keeps a product within its columns: ports below 256, constants and the id of what is begun below 65,536, makers from 1 to 1,024.
use Rattle.std.specs.Prelude.{ℕ, ◌≤◌, ◌<◌, true, not, ◌≡◌, List, eqb}
use Rattle.std.proofs.Common.{sym, ◌∙◌, arith, eqb-true}
use Rattle.std.proofs.lemmas.Bool.{eqb-false, not-true}
use Rattle.lists.specs.Choices.{by_bool}
use Rattle.lists.specs.Members.{Among, among-keep}
use Rattle.semantics.specs.Table.{sizes_of, table_of, rule_at, has_role, product_atoms}
use Rattle.semantics.specs.Answers.{table_verdict}
use Rattle.semantics.specs.declared.Atom.{Atom}
use Rattle.semantics.specs.declared.AtomValue.{AtomValue}
use Rattle.semantics.specs.declared.AtomValue.TheVariants.{Constant, Received}
use Rattle.semantics.specs.declared.Verdict.TheVariants.{Allowed}
use Rattle.wellformed.specs.Tables.{well-formed}
use Rattle.wellformed.specs.Rules.{ValueRight, rules-right}
use Rattle.rules.specs.declared.decode.Rule.{Rule}
use Rattle.rules.specs.Decode.{Decodes}
use Rattle.words.specs.Origin.{Maker}
use Rattle.reaction.specs.Decoded.{rule_in, decodes-itself, begins-by}

abbrev pub narrow_value : AtomValue → Type 0
narrow_value (Constant v) = v < 65536
narrow_value (Received i) = Unit

pub record Narrow (a : Atom) : Type 0 where
  pub port : a.port < 256
  pub value : narrow_value a.value

-- a rule that the code can react by, from a state of this next id, as this maker
pub record Applicable (x : Rule) (next maker : ℕ) : Type 0 where
  pub rule : Decodes x (rule_in x)
  pub narrow : (a : Atom) → Among a (rule_in x).atoms → Narrow a
  pub begun : (a : Atom) → Among a (product_atoms (rule_in x)) → x.class ≡ 0 → (a.role ≡ 1 → ⊥) → x.begins ≡ true
  pub limit : next ≤ 65536
  pub makers : Maker maker

narrow-value : (n : ℕ) (v : AtomValue) → ValueRight n v → narrow_value v
narrow-value n (Constant v) h = h
narrow-value n (Received i) h = tt

-- every rule of an accepted table is
pub rule-ready : (t : List ℕ) → table_verdict t ≡ Allowed → (r : ℕ) → r < (sizes_of t).rules → (x : Rule) → Decodes x (rule_at (table_of t) r)
    → (next maker : ℕ) → next ≤ 65536 → Maker maker → Applicable x next maker
rule-ready t h r l x d next maker n m =
    let right = rules-right t h r l in
    let ports = (well-formed t h).sizes.ports in
    let itself = decodes-itself x (rule_at (table_of t) r) d in
    record {
      rule = itself;
      narrow = λ a k.
          let fits = right.each a (rw d.atoms at k) in
          let p = fits.port-lt in
          record { port = omega arith; value = narrow-value _ a.value fits.value-right };
      begun = λ a k c other.
          let (m, product) = among-keep (λ a. not (has_role 0 a)) (rule_in x).atoms a k in
          by_bool (eqb a.role 2) (λ e. begins-by x itself a m (eqb-true a.role 2 e))
          (λ e. d.begins ∙ (right.each a (rw d.atoms at m)).begun (sym d.class ∙ c)
          (omega (arith, eqb-false a.role 2 e, eqb-false a.role 0 (not-true _ product), other)));
      limit = n;
      makers = m;
    }
