-- A table that passes its check, none of whose begins emits, has rules of the three sorts.
use Rattle.std.specs.Prelude.{◌≡◌, refl, Bool, true, false, not, ◌&&◌, ◌||◌, ◌⊎◌, List, [], ◌∷◌, ℕ, ◌≤◌, eqb, leb, ltb, length}
use Rattle.std.proofs.Common.{sym, ap, subst, ◌∙◌, inl, inr, arith, eqb-true, eq-eqb, ne_eqb, le-leb, ltb-true, ltb-false}
use Rattle.std.proofs.lemmas.Bool.{false≢true, eqb-false}
use Rattle.std.proofs.Math.ListN.{get_or-eq_default}
use Rattle.lists.specs.Lists.{all, any, is_empty, count_if, one_if, keep, keep_if, rises_from}
use Rattle.lists.specs.Choices.{by_bool, clash, and_right, or_cases}
use Rattle.lists.specs.Tests.{or-right-true}
use Rattle.lists.specs.Neither.{or_left_false, or_right_false}
use Rattle.lists.specs.Members.{Among, all-intro, among-keep}
use Rattle.lists.specs.Each.{All-two, All-keep, All-get_or, all_of, any_none, any_found, count_none, count-zero}
use Rattle.lists.specs.UpFrom.{rises-all}
use Rattle.semantics.specs.Table.{Rule, Table, no_rule, has_role, consumed, product_atoms, begins, emits}
use Rattle.semantics.specs.Serial.{begins_emit}
use Rattle.semantics.specs.declared.Sizes.{Sizes}
use Rattle.semantics.specs.declared.Atom.{Atom}
use Rattle.wellformed.specs.Rules.{RuleRight, TableRight, product-atom, role-begins, begins-global}
use Rattle.cells.specs.Rules.{Shape, plain, begin, inner, Shaped}

abbrev makes : Atom → Bool
makes a = not (has_role 0 a)

-- without emits, the first atom that makes something is the begin, and the others come after it
begin-first : (m : ℕ) (l : List Atom) → rises_from m (λ a. a.role) l ≡ true → any (has_role 2) l ≡ true → any (has_role 1) l ≡ false
    → count_if (has_role 2) l ≤ 1
    → (a : Atom) × (rest : List Atom) × (keep makes l ≡ a ∷ rest) × (a.role ≡ 2) × (all (λ b. leb 3 b.role) rest ≡ true)
begin-first m [] h b e c = absurd (false≢true b)
begin-first m (a ∷ l) h b e c = go (λ b'. begin-first a.role l up b' (or_right_false (has_role 1 a) (any (has_role 1) l) e) (omega arith)) (has_role 0 a) refl
    (has_role 2 a) refl
  where
    up : rises_from a.role (λ a. a.role) l ≡ true
    up = and_right (leb m a.role) (rises_from a.role (λ a. a.role) l) h

    later-one : has_role 2 a ≡ false → any (has_role 2) l ≡ true
    later-one q = pick (or_cases (has_role 2 a) (any (has_role 2) l) b)
      where
        pick : (has_role 2 a ≡ true) ⊎ (any (has_role 2) l ≡ true) → any (has_role 2) l ≡ true
        pick (inl x) = absurd (clash x q)
        pick (inr x) = x

    Found : List Atom → Type 0
    Found k = (a : Atom) × (rest : List Atom) × (k ≡ a ∷ rest) × (a.role ≡ 2) × (all (λ b. leb 3 b.role) rest ≡ true)

    go : (any (has_role 2) l ≡ true → Found (keep makes l)) → (x : Bool) → has_role 0 a ≡ x → (y : Bool) → has_role 2 a ≡ y
        → Found (keep_if (not x) a (keep makes l))
    go ih true p y q = ih (later-one (let z = eqb-true a.role 0 p in ne_eqb a.role 2 (λ v. omega arith)))
    go ih false p true q = (
      a,
      keep makes l,
      refl,
      eqb-true a.role 2 q,
      all_of (λ b. leb 3 b.role) (keep makes l) (All-keep (λ b. leb 3 b.role ≡ true) makes l
          (All-two {P = λ b. a.role ≤ b.role} {Q = λ b. has_role 2 b ≡ false} {R = λ b. makes b ≡ true → leb 3 b.role ≡ true}
          (λ b n k _. let x = eqb-true a.role 2 q in let y = eqb-false b.role 2 k in le-leb 3 b.role (omega arith)) l
          (rises-all (λ a. a.role) a.role l up)
          (count-zero (has_role 2) l (let z = ap one_if q in omega arith)))),
    )
    go ih false p false q =
        let x = any_found (λ b. a.role ≤ b.role) (has_role 2) l (later-one q) (rises-all (λ a. a.role) a.role l up) in
        let k0 = eqb-false a.role 0 p in let k1 = eqb-false a.role 1 (or_left_false (has_role 1 a) (any (has_role 1) l) e) in
        let k2 = eqb-false a.role 2 q in
        let y = eqb-true x.0.role 2 x.1 in let z = x.2 in absurd (omega arith)

module _ {z : Sizes} {R : Rule} (right : RuleRight z R) where
  consumed-some : is_empty (consumed R) ≡ false
  consumed-some = go (consumed R) right.consumes-some
    where
      go : (l : List ℕ) → 1 ≤ length l → is_empty l ≡ false
      go [] h = absurd (omega arith)
      go (x ∷ l) h = refl

  -- an atom that makes something in a global rule without begin
  plain-atom : R.class ≡ 0 → begins R ≡ false → (a : Atom) → Among a (product_atoms R) → has_role 1 a ≡ true
  plain-atom c n a m =
      let (r, one) = product-atom right a m in
      let three : 3 ≤ a.role → ⊥ = (λ l. clash (r.begun c l) n) in
      let two : a.role ≡ 2 → ⊥ = (λ q. clash (role-begins right a (among-keep makes R.atoms a m).0 q) n) in
      eq-eqb a.role 1 (omega arith)

  -- and in a local or merge rule
  inner-atom : (R.class ≡ 0 → ⊥) → (a : Atom) → Among a (product_atoms R) → (has_role 1 a || has_role 5 a) ≡ true
  inner-atom c a m = let (r, one) = product-atom right a m in go one (r.inner c)
    where
      go : 1 ≤ a.role → (a.role ≡ 0) ⊎ (a.role ≡ 1) ⊎ (a.role ≡ 5) → (has_role 1 a || has_role 5 a) ≡ true
      go l (inl q) = absurd (omega arith)
      go l (inr (inl q)) = rw (eq-eqb a.role 1 q)
      go l (inr (inr q)) = or-right-true (has_role 1 a) (eq-eqb a.role 5 q)

  rule-shape : (begins R && emits R) ≡ false → Shape R
  rule-shape ne = by_bool (begins R) with-begin (λ n. by_bool (eqb R.class 0)
      (λ c. let k = eqb-true R.class 0 c in plain k n (all-intro (has_role 1) (product_atoms R) (plain-atom k n)))
      (λ c. inner c n consumed-some (all-intro (λ a. has_role 1 a || has_role 5 a) (product_atoms R) (inner-atom (eqb-false R.class 0 c)))))
    where
      with-begin : begins R ≡ true → Shape R
      with-begin b =
          let e : emits R ≡ false = sym (ap (λ (x : Bool). x && emits R) b) ∙ ne in
          let q = begin-first 0 R.atoms right.rises b e right.begins-le in
          begin (begins-global right b) b (count_none (has_role 1) R.atoms (any_none (has_role 1) R.atoms e)) q.0 q.1 q.2 q.3 q.4

pub table-shaped : (t : Table) → TableRight t → begins_emit t ≡ false → Shaped t
table-shaped t right ne r = by_bool (ltb r (length t.rules))
    (λ h. let l = ltb-true r (length t.rules) h in rule-shape (right.rule r l)
    (All-get_or (λ x. begins x && emits x ≡ false) no_rule t.rules r (any_none (λ x. begins x && emits x) t.rules ne) l))
    (λ h. subst Shape (sym (get_or-eq_default t.rules no_rule (ltb-false r (length t.rules) h))) (plain refl refl refl))
