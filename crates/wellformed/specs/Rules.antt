-- What is true of every rule of an accepted table, as facts on the decoded rule.
use Rattle.std.specs.Prelude.{ℕ, ◌+◌, ◌≤◌, ◌<◌, Bool, false, ◌&&◌, ◌||◌, not, cond, List, ◌⊎◌, ◌≡◌, refl, length, get_or}
use Rattle.std.proofs.Math.Bool.{true}
use Rattle.std.proofs.Math.Logic.{inl, inr, ⊎_elim}
use Rattle.std.proofs.Common.{sym, ap, ◌∙◌, arith}
use Rattle.std.proofs.Math.Path.{subst}
use Rattle.std.proofs.Math.Dec.{leb, ltb, eqb}
use Rattle.std.proofs.lemmas.List.{length-map}
use borrow.Author.Tests.{ltb-true, leb-true, eqb-true, eqb-false, eq-eqb, ne_eqb, le-leb, not-true}
use Rattle.lists.specs.Lists.{count_if, rises_from}
use Rattle.lists.specs.Tests.{or-right-true}
use Rattle.lists.specs.Choices.{by_bool, and_intro, and_right, and-three, or_cases, given_holds}
use Rattle.lists.specs.Members.{Among, all-each, any_some, any-intro, among-map, among-keep}
use Rattle.lists.specs.Counting.{count_map, any-count}
use Rattle.lists.specs.Rising.{rises-map}
use Rattle.semantics.specs.Words.{atom_role, atom_mode, port_of, value_of}
use Rattle.semantics.specs.Table.{Table, Rule, sizes_of, port_count, class_of, is_role, mode_ok, mark_ok, atom_ok, shape_of, atom_value, atom_of}
use Rattle.semantics.specs.Table.{rule_of, table_of, rule_at}
use Rattle.semantics.specs.Table.{has_role, consumed, product_atoms, begins}
use Rattle.semantics.specs.Answers.{table_verdict}
use Rattle.semantics.specs.declared.Sizes.{Sizes}
use Rattle.semantics.specs.declared.Atom.{Atom}
use Rattle.semantics.specs.declared.AtomValue.{AtomValue}
use Rattle.semantics.specs.declared.AtomValue.TheVariants.{Constant, Received}
use Rattle.semantics.specs.declared.Verdict.TheVariants.{Allowed}
use Rattle.wellformed.specs.Tables.{well-formed, RuleFits, rule_fits, atom-fits, sizes-table_of, length-rules, rule_at-table_of, words_of_rule}
use Rattle.wellformed.specs.Tables.{rule-has, consumed-length}

-- what an atom's value needs of its rule
abbrev pub ValueRight : ℕ → AtomValue → Type 0
ValueRight consumes (Constant v) = v < 65536
ValueRight consumes (Received i) = i < consumes

pub record AtomRight (z : Sizes) (R : Rule) (a : Atom) : Type 0 where
  pub role-le : a.role ≤ 5
  pub port-lt : a.port < port_count z
  pub value-right : ValueRight (length (consumed R)) a.value
  pub consume-class : a.role ≡ 0 → class_of z a.port ≡ R.class
  pub emit-global : a.role ≡ 1 → R.class ≡ 0 → a.port < z.globals
  pub mark-bare : (a.role ≡ 2) ⊎ (a.role ≡ 5) → (a.port ≡ 0) × (a.value ≡ Constant 0)
  pub begun : R.class ≡ 0 → 3 ≤ a.role → begins R ≡ true
  pub inner : (R.class ≡ 0 → ⊥) → (a.role ≡ 0) ⊎ (a.role ≡ 1) ⊎ (a.role ≡ 5)
  pub compensate-global : a.role ≡ 4 → a.port < z.globals

pub record RuleRight (z : Sizes) (R : Rule) : Type 0 where
  pub class-le : R.class ≤ 2
  pub atoms-le : length R.atoms ≤ 16
  pub consumes-some : 1 ≤ length (consumed R)
  pub consumes-le : length (consumed R) ≤ 4
  pub begins-le : count_if (has_role 2) R.atoms ≤ 1
  pub aborts-le : count_if (has_role 5) R.atoms ≤ 1
  pub rises : rises_from 0 (λ a. a.role) R.atoms ≡ true
  pub each : (a : Atom) → Among a R.atoms → AtomRight z R a

-- ---- from the words

pub class_of-le : (z : Sizes) (p : ℕ) → class_of z p ≤ 2
class_of-le z p = go (ltb p z.globals) (ltb p (z.globals + z.locals))
  where
    go : (a b : Bool) → cond a 0 (cond b 1 2) ≤ 2
    go true b = omega arith
    go false true = omega arith
    go false false = omega arith

module _ (z : Sizes) (ws : List ℕ) where
  value-right : (w : ℕ) → mode_ok (shape_of z ws) w ≡ true → ValueRight (count_if (is_role 0) ws) (atom_of w).value
  value-right w h = go (eqb (atom_mode w) 1) refl
    where
      go : (b : Bool) → eqb (atom_mode w) 1 ≡ b → ValueRight (count_if (is_role 0) ws) (atom_value b (value_of w))
      go true e = ⊎_elim
          (λ q. absurd (let h = eqb-true (atom_mode w) 0 q in let k = eqb-true (atom_mode w) 1 e in omega arith))
          (λ q. ltb-true (value_of w) (count_if (is_role 0) ws) (and_right (eqb (atom_mode w) 1) (ltb (value_of w) (count_if (is_role 0) ws)) q))
          (or_cases (eqb (atom_mode w) 0) (eqb (atom_mode w) 1 && ltb (value_of w) (count_if (is_role 0) ws)) h)
      go false e = omega arith

  mark-bare : (w : ℕ) → mark_ok w ≡ true → (atom_role w ≡ 2) ⊎ (atom_role w ≡ 5) → ((atom_of w).port ≡ 0) × ((atom_of w).value ≡ Constant 0)
  mark-bare w h r =
      let role : is_role 2 w || is_role 5 w ≡ true = ⊎_elim (λ q. rw (eq-eqb (atom_role w) 2 q))
      (λ q. or-right-true (is_role 2 w) (eq-eqb (atom_role w) 5 q)) r in
      let k = given_holds (is_role 2 w || is_role 5 w) (eqb (atom_mode w) 0 && eqb (port_of w) 0 && eqb (value_of w) 0) h role in
      let (mode, port, value) = and-three (eqb (atom_mode w) 0) (eqb (port_of w) 0) (eqb (value_of w) 0) k in
      let m = eqb-true (atom_mode w) 0 mode in
      let n : eqb (atom_mode w) 1 ≡ false = ne_eqb (atom_mode w) 1 (λ q. omega arith) in
      (eqb-true (port_of w) 0 port, rw n (ap Constant (eqb-true (value_of w) 0 value)))

  some-begins : 1 ≤ count_if (is_role 2) ws → begins (rule_of z ws) ≡ true
  some-begins h = rule-has z ws 2 ∙ any-count (is_role 2) ws ∙ le-leb 1 (count_if (is_role 2) ws) h

  atom-right : (w : ℕ) → atom_ok z (shape_of z ws) w ≡ true → AtomRight z (rule_of z ws) (atom_of w)
  unfolding rule_of
  atom-right w h =
      let s = shape_of z ws in
      let f = atom-fits z s w h in
      let class = eqb (class_of z (port_of w)) s.class in
      let bare = eqb (atom_mode w) 0 && eqb (value_of w) 0 in
      let global = ltb (port_of w) z.globals in
      record {
        role-le = f.role;
        port-lt = f.port;
        value-right = subst (λ (n : ℕ). ValueRight n (atom_of w).value) (sym (consumed-length z ws)) (value-right w f.mode);
        consume-class = λ e.
            eqb-true (class_of z (port_of w)) s.class (and_right bare class (given_holds (is_role 0 w) (bare && class) f.consume (eq-eqb (atom_role w) 0 e)));
        emit-global = λ e c. ltb-true (port_of w) z.globals
            (given_holds (is_role 1 w && eqb s.class 0) global f.emit (and_intro (eq-eqb (atom_role w) 1 e) (eq-eqb s.class 0 c)));
        mark-bare = mark-bare w f.mark;
        begun = λ c l. some-begins (leb-true 1 s.begins
            (given_holds (eqb s.class 0 && leb 3 (atom_role w)) (leb 1 s.begins) f.begin
            (and_intro (eq-eqb s.class 0 c) (le-leb 3 (atom_role w) l))));
        inner = λ n. roles (given_holds (not (eqb s.class 0)) (is_role 0 w || is_role 1 w || is_role 5 w) f.inner (rw (ne_eqb s.class 0 n)));
        compensate-global = λ e. ltb-true (port_of w) z.globals (given_holds (is_role 4 w) global f.compensate (eq-eqb (atom_role w) 4 e));
      }
    where
      roles : is_role 0 w || is_role 1 w || is_role 5 w ≡ true → (atom_role w ≡ 0) ⊎ (atom_role w ≡ 1) ⊎ (atom_role w ≡ 5)
      roles q = ⊎_elim
          (λ l. ⊎_elim (λ k. inl (eqb-true (atom_role w) 0 k)) (λ k. inr (inl (eqb-true (atom_role w) 1 k))) (or_cases (is_role 0 w) (is_role 1 w) l))
          (λ r. inr (inr (eqb-true (atom_role w) 5 r))) (or_cases (is_role 0 w || is_role 1 w) (is_role 5 w) q)

  pub rule-right : RuleFits z ws → RuleRight z (rule_of z ws)
  unfolding rule_of
  rule-right f = record {
    class-le = class_of-le z (port_of (get_or ws 0 0));
    atoms-le = rw (length-map ws atom_of) f.few;
    consumes-some = rw (consumed-length z ws) f.some;
    consumes-le = rw (consumed-length z ws) f.most;
    begins-le = rw (count_map atom_of (has_role 2) ws) f.begins;
    aborts-le = rw (count_map atom_of (has_role 5) ws) f.aborts;
    rises = rises-map atom_of (λ (a : Atom). a.role) 0 ws ∙ f.rises;
    each = λ a m.
        let (w, n, e) = among-map atom_of ws a m in
        subst (λ (x : Atom). AtomRight z (rule_of z ws) x) (sym e) (atom-right w (all-each (atom_ok z (shape_of z ws)) ws f.atoms w n));
  }

-- ---- the rules of an accepted table

pub rules-right : (T : List ℕ) → table_verdict T ≡ Allowed → (r : ℕ) → r < (sizes_of T).rules → RuleRight (sizes_of T) (rule_at (table_of T) r)
rules-right T h r l =
    rw (rule_at-table_of T r l) (rule-right (sizes_of T) (words_of_rule T r) (rule_fits (sizes_of T) (words_of_rule T r) ((well-formed T h).each r l)))

pub record TableRight (t : Table) : Type 0 where
  pub ports : port_count t.sizes ≤ 256
  pub rule : (r : ℕ) → r < length t.rules → RuleRight t.sizes (rule_at t r)

pub table-right : (T : List ℕ) → table_verdict T ≡ Allowed → TableRight (table_of T)
table-right T h = record {
  ports = rw (sizes-table_of T) (well-formed T h).sizes.ports;
  rule = λ r l. rw (sizes-table_of T) (rules-right T h r (rw (length-rules T) at l));
}

-- ---- what follows for a rule

module _ {z : Sizes} {R : Rule} (right : RuleRight z R) where
  -- an atom that makes something
  pub product-atom : (a : Atom) → Among a (product_atoms R) → AtomRight z R a × (1 ≤ a.role)
  product-atom a m =
      let (k, h) = among-keep (λ a. not (has_role 0 a)) R.atoms a m in
      let n = eqb-false a.role 0 (not-true (has_role 0 a) h) in
      (right.each a k, positive a.role n)
    where
      positive : (n : ℕ) → (n ≡ 0 → ⊥) → 1 ≤ n
      positive n h = omega arith

  pub role-begins : (a : Atom) → Among a R.atoms → a.role ≡ 2 → begins R ≡ true
  role-begins a m e = any-intro (has_role 2) R.atoms a m (eq-eqb a.role 2 e)

  -- only a global rule begins a transaction
  pub begins-global : begins R ≡ true → R.class ≡ 0
  begins-global h =
      let (a, m, e) = any_some (has_role 2) R.atoms h in
      by_bool (eqb R.class 0) (eqb-true R.class 0)
      (λ q. absurd (none (eqb-true a.role 2 e) ((right.each a m).inner (eqb-false R.class 0 q))))
    where
      none : {n : ℕ} → n ≡ 2 → (n ≡ 0) ⊎ (n ≡ 1) ⊎ (n ≡ 5) → ⊥
      none e (inl q) = omega arith
      none e (inr (inl q)) = omega arith
      none e (inr (inr q)) = omega arith
