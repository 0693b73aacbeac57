-- An accepted table: its sizes, its rules as words and decoded, and what each atom and rule has passed.
use Rattle.std.specs.Prelude.{ℕ, ◌+◌, ◌-◌, ◌*◌, ◌≤◌, ◌<◌, true, ◌&&◌, List, map, ◌≡◌, leb, ltb, eqb, length}
use Rattle.std.proofs.Math.Path.{refl, ap}
use Rattle.std.proofs.Common.{◌∙◌, leb-true, eqb-true, ltb-true, length-drop, length-take-le, take_all}
use native.Mathlib.Omega.{arith}
use Rattle.std.proofs.Math.ListN.{take, drop, length-map}
use Rattle.lists.specs.Lists.{all, any, keep, count_if, rises_from, all_below}
use Rattle.lists.specs.Choices.{and-three, and-six, and-nine}
use Rattle.lists.specs.Tests.{and_both}
use Rattle.lists.specs.Counting.{count-le, count_map, length-keep}
use Rattle.lists.specs.Parts.{any-map}
use Rattle.lists.specs.Rising.{zeros-first, rises-map}
use Rattle.lists.specs.Walk.{below_each}
use Rattle.lists.specs.Tabled.{length-tabled, get_or-up_from}
use Rattle.semantics.specs.Words.{atom_role, port_of}
use Rattle.semantics.specs.Table.{sizes_of, numbers_of, atom_words_of, rule_words, port_count, sizes_within, table_sizes_ok, occurs, numbers_ok}
use Rattle.semantics.specs.Table.{is_role, mode_ok, consume_ok, emit_ok, mark_ok, begin_ok, inner_ok, compensate_ok, atom_ok, shape_of, rule_ok, rules_ok, table_contents_ok}
use Rattle.semantics.specs.Table.{atom_of, Rule, rule_of, table_of, no_rule, rule_at, has_role, consumed, product_atoms}
use Rattle.semantics.specs.Answers.{table_faults, table_verdict}
use Rattle.semantics.specs.declared.Sizes.{Sizes}
use Rattle.semantics.specs.declared.Shape.{Shape}
use Rattle.semantics.specs.declared.Atom.{Atom}
use Rattle.semantics.specs.declared.Refusal.TheVariants.{TableSizes, TableContents}
use Rattle.semantics.specs.declared.Verdict.TheVariants.{Allowed}
use Rattle.wellformed.specs.Verdicts.{unless_allowed, passed-each}

-- ---- sizes and length

pub record TableSized (t : List ℕ) : Type 0 where
  pub long : 5 ≤ length t
  pub ports : port_count (sizes_of t) ≤ 256
  pub rules : (sizes_of t).rules ≤ 64
  pub atoms : (sizes_of t).atoms ≤ 512
  pub whole : length t ≡ 5 + 2 * (sizes_of t).atoms

pub table-sized : (t : List ℕ) → table_sizes_ok t ≡ true → TableSized t
unfolding table_sizes_ok
table-sized t h =
    let z = sizes_of t in
    let (long, rest) = and_both (leb 5 (length t)) (sizes_within z && eqb (length t) (5 + 2 * z.atoms)) h in
    let (within, whole) = and_both (sizes_within z) (eqb (length t) (5 + 2 * z.atoms)) rest in
    let (ports, rules, atoms) = and-three (leb (port_count z) 256) (leb z.rules 64) (leb z.atoms 512) within in
    record {
      long = leb-true 5 (length t) long;
      ports = leb-true (port_count z) 256 ports;
      rules = leb-true z.rules 64 rules;
      atoms = leb-true z.atoms 512 atoms;
      whole = eqb-true (length t) (5 + 2 * z.atoms) whole;
    }

pub numbers-length : (t : List ℕ) → TableSized t → length (numbers_of t) ≡ (sizes_of t).atoms
numbers-length t s = length-take-le (sizes_of t).atoms (drop 5 t) (omega (arith, length-drop 5 t))

pub words-length : (t : List ℕ) → TableSized t → length (atom_words_of t) ≡ (sizes_of t).atoms
words-length t s = omega (arith, length-drop (5 + (sizes_of t).atoms) t)

-- the two parts, as they are cut out
pub numbers-part : (t : List ℕ) (a : ℕ) → a ≡ (sizes_of t).atoms → take (5 + a - 5) (drop 5 t) ≡ numbers_of t
numbers-part t a e =
    let f : 5 + a - 5 ≡ (sizes_of t).atoms = omega arith in
    rw f

pub words-part : (t : List ℕ) (a : ℕ) → a ≡ (sizes_of t).atoms → take (length t - (5 + a)) (drop (5 + a) t) ≡ atom_words_of t
words-part t a e =
    let f : 5 + a ≡ 5 + (sizes_of t).atoms = omega arith in
    take_all (length t - (5 + a)) (drop (5 + a) t) (omega (arith, length-drop (5 + a) t)) ∙ rw f

-- ---- the whole table

pub numbers-rise : (rules : ℕ) (ns : List ℕ) → numbers_ok rules ns ≡ true → rises_from 0 (λ n. n) ns ≡ true
unfolding numbers_ok
numbers-rise rules ns h =
    let (h, o) = and_both (all (λ n. ltb n rules) ns && rises_from 0 (λ n. n) ns) (all_below rules (occurs ns)) h in
    (and_both (all (λ n. ltb n rules) ns) (rises_from 0 (λ n. n) ns) h).1

pub record WellFormed (t : List ℕ) : Type 0 where
  pub sizes : TableSized t
  pub numbers : numbers_ok (sizes_of t).rules (numbers_of t) ≡ true
  pub each : (r : ℕ) → r < (sizes_of t).rules → rule_ok (sizes_of t) (rule_words r (numbers_of t) (atom_words_of t)) ≡ true

pub table-given : (t : List ℕ) → table_verdict t ≡ Allowed → (table_sizes_ok t ≡ true) × (table_contents_ok t ≡ true)
unfolding table_verdict
table-given t h =
    let (sizes, (contents, _)) = passed-each (table_faults t) h in
    (unless_allowed (table_sizes_ok t) TableSizes sizes, unless_allowed (table_contents_ok t) TableContents contents)

pub well-formed : (t : List ℕ) → table_verdict t ≡ Allowed → WellFormed t
unfolding table_contents_ok rules_ok
well-formed t h =
    let (sizes, contents) = table-given t h in
    let z = sizes_of t in
    let (numbers, rules) = and_both (numbers_ok z.rules (numbers_of t)) (rules_ok z (numbers_of t) (atom_words_of t)) contents in
    record {
      sizes = table-sized t sizes;
      numbers = numbers;
      each = λ r. below_each (λ r. rule_ok z (rule_words r (numbers_of t) (atom_words_of t))) z.rules r rules;
    }

-- ---- a rule

pub record RuleFits (z : Sizes) (ws : List ℕ) : Type 0 where
  pub few : length ws ≤ 16
  pub rises : rises_from 0 atom_role ws ≡ true
  pub some : 1 ≤ count_if (is_role 0) ws
  pub most : count_if (is_role 0) ws ≤ 4
  pub begins : count_if (is_role 2) ws ≤ 1
  pub aborts : count_if (is_role 5) ws ≤ 1
  pub atoms : all (atom_ok z (shape_of z ws)) ws ≡ true

pub rule_fits : (z : Sizes) (ws : List ℕ) → rule_ok z ws ≡ true → RuleFits z ws
unfolding rule_ok
rule_fits z ws h =
    let n = count_if (is_role 0) ws in
    let begin = leb (count_if (is_role 2) ws) 1 in
    let abort = leb (count_if (is_role 5) ws) 1 in
    let (few, rises, takes, begins, aborts, atoms) =
    and-six (leb (length ws) 16) (rises_from 0 atom_role ws) (leb 1 n && leb n 4) begin abort (all (atom_ok z (shape_of z ws)) ws) h in
    let (some, most) = and_both (leb 1 n) (leb n 4) takes in
    record {
      few = leb-true (length ws) 16 few;
      rises = rises;
      some = leb-true 1 n some;
      most = leb-true n 4 most;
      begins = leb-true (count_if (is_role 2) ws) 1 begins;
      aborts = leb-true (count_if (is_role 5) ws) 1 aborts;
      atoms = atoms;
    }

-- ---- an atom

pub record AtomFits (z : Sizes) (s : Shape) (w : ℕ) : Type 0 where
  pub role : atom_role w ≤ 5
  pub mode : mode_ok s w ≡ true
  pub port : port_of w < port_count z
  pub consume : consume_ok z s w ≡ true
  pub emit : emit_ok z s w ≡ true
  pub mark : mark_ok w ≡ true
  pub begin : begin_ok s w ≡ true
  pub inner : inner_ok s w ≡ true
  pub compensate : compensate_ok z w ≡ true

pub atom-fits : (z : Sizes) (s : Shape) (w : ℕ) → atom_ok z s w ≡ true → AtomFits z s w
unfolding atom_ok
atom-fits z s w h =
    let port = ltb (port_of w) (port_count z) in
    let (role, mode, port, consume, emit, mark, begin, inner, compensate) =
    and-nine (leb (atom_role w) 5) (mode_ok s w) port (consume_ok z s w) (emit_ok z s w) (mark_ok w) (begin_ok s w) (inner_ok s w) (compensate_ok z w) h in
    record {
      role = leb-true (atom_role w) 5 role;
      mode = mode;
      port = ltb-true (port_of w) (port_count z) port;
      consume = consume;
      emit = emit;
      mark = mark;
      begin = begin;
      inner = inner;
      compensate = compensate;
    }

-- ---- a decoded table

module _ (t : List ℕ) where
  -- the words of rule r
  abbrev pub words_of_rule : ℕ → List ℕ
  words_of_rule r = rule_words r (numbers_of t) (atom_words_of t)

  pub sizes-table_of : (table_of t).sizes ≡ sizes_of t
  unfolding table_of
  sizes-table_of = refl

  pub length-rules : length (table_of t).rules ≡ (sizes_of t).rules
  unfolding table_of
  length-rules = length-tabled (λ r. rule_of (sizes_of t) (words_of_rule r)) 0 (sizes_of t).rules

  pub rule_at-table_of : (r : ℕ) → r < (sizes_of t).rules → rule_at (table_of t) r ≡ rule_of (sizes_of t) (words_of_rule r)
  unfolding table_of
  rule_at-table_of r h =
      let e : 0 + r ≡ r = omega arith in
      get_or-up_from (λ r. rule_of (sizes_of t) (words_of_rule r)) no_rule 0 (sizes_of t).rules r h
      ∙ ap (λ (r : ℕ). rule_of (sizes_of t) (words_of_rule r)) e

-- ---- a decoded rule

-- the n consumes of a rule come first
pub record LegalRule (n : ℕ) (r : Rule) : Type 0 where
  pub some : 1 ≤ n
  pub most : n ≤ 4
  pub within : n ≤ length r.atoms
  pub consumed : consumed r ≡ map (λ a. a.port) (take n r.atoms)
  pub products : product_atoms r ≡ drop n r.atoms

module _ (z : Sizes) (ws : List ℕ) where
  pub rule-has : (k : ℕ) → any (has_role k) (rule_of z ws).atoms ≡ any (is_role k) ws
  unfolding rule_of
  rule-has k = any-map atom_of (has_role k) ws

  pub consumed-length : length (consumed (rule_of z ws)) ≡ count_if (is_role 0) ws
  unfolding rule_of
  consumed-length =
      length-map (keep (has_role 0) (map atom_of ws)) (λ a. a.port)
      ∙ length-keep (has_role 0) (map atom_of ws) ∙ count_map atom_of (has_role 0) ws

  pub rule-legal : RuleFits z ws → LegalRule (count_if (is_role 0) ws) (rule_of z ws)
  unfolding rule_of
  rule-legal f =
      let first = zeros-first (λ (a : Atom). a.role) 0 (map atom_of ws) (rises-map atom_of (λ (a : Atom). a.role) 0 ws ∙ f.rises) in
      let n = count_map atom_of (has_role 0) ws in
      record {
        some = f.some;
        most = f.most;
        within = rw length-map (count-le (is_role 0) ws);
        consumed = ap (map (λ a. a.port)) (first.zero ∙ ap (λ (k : ℕ). take k (map atom_of ws)) n);
        products = first.other ∙ ap (λ (k : ℕ). drop k (map atom_of ws)) n;
      }
