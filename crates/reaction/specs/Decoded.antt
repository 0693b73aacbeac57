-- The rule that the code holds, decoded: it as a value of semantics, and what its parts are to one another.
use Rattle.std.specs.Prelude.{ℕ, ◌+◌, ◌-◌, ◌≤◌, ◌<◌, ◌≡◌, true, length, get_or, take, drop, List}
use Rattle.std.proofs.Common.{ap, ◌∙◌, arith, eq-eqb, length-drop, length-take-le, get_or-take, get_or-drop}
use Rattle.lists.specs.Members.{Among, get_or-among, any-intro}
use Rattle.semantics.specs.Table.{has_role, product_atoms}
use Rattle.semantics.specs.declared.Atom.{Atom}
use Rattle.semantics.specs.declared.AtomValue.TheVariants.{Constant}
use Rattle.rules.specs.declared.decode.Rule.{Rule}
use Rattle.rules.specs.Decode.{Decodes}
use Rattle.semantics.specs.Table as rules

-- the rule that the code holds
abbrev pub rule_in : Rule → rules.Rule
rule_in x = record { class = x.class; atoms = take x.count x.atoms }

-- .. is the one that was decoded
pub rule-in : (x : Rule) (r : rules.Rule) → Decodes x r → rule_in x ≡ r
rule-in x r d = rw (d.atoms, d.class)

pub decodes-itself : (x : Rule) (r : rules.Rule) → Decodes x r → Decodes x (rule_in x)
decodes-itself x r d = rw (rule-in x r d) d

-- the atoms that make something, and how many they are
abbrev pub making_atoms : Rule → List Atom
making_atoms x = drop x.consumes (take x.count x.atoms)

abbrev pub making_count : Rule → ℕ
making_count x = x.count - x.consumes

-- what the code reads past an array's end
abbrev pub blank : Atom
blank = record { role = 0; port = 0; value = Constant 0 }

module _ (x : Rule) (d : Decodes x (rule_in x)) where
  pub count-atoms : length (rule_in x).atoms ≡ x.count
  count-atoms = length-take-le x.count x.atoms (omega (arith, d.room, d.few))

  pub consumes-within : x.consumes ≤ x.count
  consumes-within = omega (arith, count-atoms, d.legal.within)

  pub count-products : length (product_atoms (rule_in x)) ≡ x.count - x.consumes
  count-products = ap length d.legal.products ∙ omega (arith, length-drop x.consumes (rule_in x).atoms, count-atoms)

  -- an atom of the array is one of the rule's
  pub atom-among : (i : ℕ) → i < x.count → Among (get_or x.atoms i blank) (rule_in x).atoms
  atom-among i h =
      let low : i < length (rule_in x).atoms = omega (arith, count-atoms) in
      rw (← get_or-take x.count x.atoms i blank h) (get_or-among blank (rule_in x).atoms i low)

  -- .. and behind the consumes one of its products
  pub product-among : (q : ℕ) → x.consumes + q < x.count → Among (get_or x.atoms (x.consumes + q) blank) (product_atoms (rule_in x))
  product-among q h =
      let low : q < length (product_atoms (rule_in x)) = omega (arith, count-products) in
      let here : get_or (product_atoms (rule_in x)) q blank ≡ get_or x.atoms (x.consumes + q) blank =
      ap (λ (l : List Atom). get_or l q blank) d.legal.products ∙ get_or-drop x.consumes (rule_in x).atoms q blank
      ∙ get_or-take x.count x.atoms (x.consumes + q) blank h in
      rw (← here) (get_or-among blank (product_atoms (rule_in x)) q low)

  -- a rule with a begin begins
  pub begins-by : (a : Atom) → Among a (rule_in x).atoms → a.role ≡ 2 → x.begins ≡ true
  begins-by a m e = d.begins ∙ any-intro (has_role 2) (rule_in x).atoms a m (eq-eqb a.role 2 e)
