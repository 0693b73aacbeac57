-- 01, "Recipe table": when the words of a table are well formed, and the rules that they hold.
use Rattle.std.specs.Prelude.{ℕ, ◌+◌, ◌*◌, Bool, true, false, ◌&&◌, ◌||◌, not, cond, List, [], map, leb, ltb, eqb, length, get_or, take, drop}
use Rattle.lists.specs.Lists.{given, all, any, count_if, keep, keep_beside, rises_from, all_below, up_from}
use Rattle.semantics.specs.Words.{atom_role, atom_mode, port_of, value_of}
use Rattle.semantics.specs.declared.Sizes.{Sizes}
use Rattle.semantics.specs.declared.Shape.{Shape}
use Rattle.semantics.specs.declared.Atom.{Atom}
use Rattle.semantics.specs.declared.AtomValue.{AtomValue}
use Rattle.semantics.specs.declared.AtomValue.TheVariants.{Constant, Received}

-- ---- the parts of a table

-- The first five words are sizes: 01's G, L, M (global, local and merge ports; there plant, batch and joining), R (rules) and A (atoms).
abbrev pub sizes_of : List ℕ → Sizes
sizes_of t = record { globals = get_or t 0 0; locals = get_or t 1 0; merges = get_or t 2 0; rules = get_or t 3 0; atoms = get_or t 4 0 }

-- Two columns of A words follow: the number of each atom's rule, ..
abbrev pub numbers_of : List ℕ → List ℕ
numbers_of t = take (sizes_of t).atoms (drop 5 t)

-- .. and the atoms.
abbrev pub atom_words_of : List ℕ → List ℕ
atom_words_of t = drop (5 + (sizes_of t).atoms) t

-- the atoms of rule r, as words, in their order
abbrev pub rule_words : ℕ → List ℕ → List ℕ → List ℕ
rule_words r numbers words = keep_beside (λ n. eqb n r) numbers words

-- Ports are numbered through: global ports first, then local ones, then merge ports.
abbrev pub port_count : Sizes → ℕ
port_count z = z.globals + z.locals + z.merges

-- the class of a port, and of a rule: 0 global, 1 local, 2 merge
abbrev pub class_of : Sizes → ℕ → ℕ
class_of z p = cond (ltb p z.globals) 0 (cond (ltb p (z.globals + z.locals)) 1 2)

-- ---- sizes and length (1)

-- how many ports, rules and atoms a table may have; the sum of the ports is one of numbers and does not wrap
abbrev pub sizes_within : Sizes → Bool
sizes_within z = leb (port_count z) 256 && leb z.rules 64 && leb z.atoms 512

-- sizes within their limits, and no word missing or left over
unfoldable pub table_sizes_ok : List ℕ → Bool
table_sizes_ok t = leb 5 (length t) && (sizes_within (sizes_of t) && eqb (length t) (5 + 2 * (sizes_of t).atoms))

-- ---- rule numbers (2)

-- rule r has an atom
abbrev pub occurs : List ℕ → ℕ → Bool
occurs numbers r = any (λ n. eqb n r) numbers

-- Rules stand one after another, from 0 on, and none is without atoms.
unfoldable pub numbers_ok : ℕ → List ℕ → Bool
numbers_ok rules numbers = all (λ n. ltb n rules) numbers && rises_from 0 (λ n. n) numbers && all_below rules (occurs numbers)

-- ---- a single atom (2)

abbrev pub is_role : ℕ → ℕ → Bool
is_role k w = eqb (atom_role w) k

-- Mode 0 says that the value is a constant, mode 1 that it is what a consume atom (01's take) of the same rule receives, by its number from 0. There are
-- no other modes.
abbrev pub mode_ok : Shape → ℕ → Bool
mode_ok s w = eqb (atom_mode w) 0 || eqb (atom_mode w) 1 && ltb (value_of w) s.consumes

-- A consume has a port only, and its port is of the rule's class: a rule never mixes them.
abbrev pub consume_ok : Sizes → Shape → ℕ → Bool
consume_ok z s w = given (is_role 0 w) (eqb (atom_mode w) 0 && eqb (value_of w) 0 && eqb (class_of z (port_of w)) s.class)

-- A global rule emits (01: gives) to global ports only.
abbrev pub emit_ok : Sizes → Shape → ℕ → Bool
emit_ok z s w = given (is_role 1 w && eqb s.class 0) (ltb (port_of w) z.globals)

-- A begin (01's open) and an abort (stop) are bare: their fields are 0.
abbrev pub mark_ok : ℕ → Bool
mark_ok w = given (is_role 2 w || is_role 5 w) (eqb (atom_mode w) 0 && eqb (port_of w) 0 && eqb (value_of w) 0)

-- What goes into a new transaction (bodies, compensations, an abort) needs a begin in a global rule.
abbrev pub begin_ok : Shape → ℕ → Bool
begin_ok s w = given (eqb s.class 0 && leb 3 (atom_role w)) (leb 1 s.begins)

-- Local and merge rules only consume, emit and abort.
abbrev pub inner_ok : Shape → ℕ → Bool
inner_ok s w = given (not (eqb s.class 0)) (is_role 0 w || is_role 1 w || is_role 5 w)

-- A compensation (01's call-off atom) is on a global port, since an abort hands it to the global owner.
abbrev pub compensate_ok : Sizes → ℕ → Bool
compensate_ok z w = given (is_role 4 w) (ltb (port_of w) z.globals)

-- all that is asked of one atom in a rule of this shape
unfoldable pub atom_ok : Sizes → Shape → ℕ → Bool
atom_ok z s w =
    leb (atom_role w) 5
    && mode_ok s w
    && ltb (port_of w) (port_count z)
    && consume_ok z s w
    && emit_ok z s w
    && mark_ok w
    && begin_ok s w
    && inner_ok s w
    && compensate_ok z w

-- ---- a single rule (2)

-- The first atom decides the class: roles never fall, so it is a consume if there is one.
abbrev pub shape_of : Sizes → List ℕ → Shape
shape_of z ws = record { consumes = count_if (is_role 0) ws; begins = count_if (is_role 2) ws; class = class_of z (port_of (get_or ws 0 0)) }

-- A rule goes by roles from consumes to an abort, and is small: four consumes, one begin, one abort, sixteen atoms at most.
unfoldable pub rule_ok : Sizes → List ℕ → Bool
rule_ok z ws =
    leb (length ws) 16
    && rises_from 0 atom_role ws
    && (leb 1 (count_if (is_role 0) ws) && leb (count_if (is_role 0) ws) 4)
    && leb (count_if (is_role 2) ws) 1
    && leb (count_if (is_role 5) ws) 1
    && all (atom_ok z (shape_of z ws)) ws

unfoldable pub rules_ok : Sizes → List ℕ → List ℕ → Bool
rules_ok z numbers words = all_below z.rules (λ r. rule_ok z (rule_words r numbers words))

unfoldable pub table_contents_ok : List ℕ → Bool
table_contents_ok t = numbers_ok (sizes_of t).rules (numbers_of t) && rules_ok (sizes_of t) (numbers_of t) (atom_words_of t)

-- ---- the rules of a well-formed table

abbrev pub atom_value : Bool → ℕ → AtomValue
atom_value true v = Received v
atom_value false v = Constant v

abbrev pub atom_of : ℕ → Atom
atom_of w = record { role = atom_role w; port = port_of w; value = atom_value (eqb (atom_mode w) 1) (value_of w) }

pub record Rule : Type 0 where
  pub class : ℕ
  pub atoms : List Atom

unfoldable pub rule_of : Sizes → List ℕ → Rule
rule_of z ws = record { class = class_of z (port_of (get_or ws 0 0)); atoms = map atom_of ws }

pub record Table : Type 0 where
  pub sizes : Sizes
  pub rules : List Rule

unfoldable pub table_of : List ℕ → Table
table_of t = record {
  sizes = sizes_of t;
  rules = map (λ r. rule_of (sizes_of t) (rule_words r (numbers_of t) (atom_words_of t))) (up_from 0 (sizes_of t).rules);
}

abbrev pub no_rule : Rule
no_rule = record { class = 0; atoms = [] }

abbrev pub rule_at : Table → ℕ → Rule
rule_at t r = get_or t.rules r no_rule

abbrev pub has_role : ℕ → Atom → Bool
has_role k a = eqb a.role k

-- the ports of the consumes (takes), in order
abbrev pub consumed : Rule → List ℕ
consumed r = map (λ a. a.port) (keep (has_role 0) r.atoms)

-- the atoms that make something
abbrev pub product_atoms : Rule → List Atom
product_atoms r = keep (λ a. not (has_role 0 a)) r.atoms

-- a rule that begins a transaction
abbrev pub begins : Rule → Bool
begins r = any (has_role 2) r.atoms

abbrev pub emits : Rule → Bool
emits r = any (has_role 1) r.atoms
