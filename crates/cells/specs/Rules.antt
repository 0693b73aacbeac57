-- What the table check, with no begin that emits, gives of a rule; the transactions that a reaction touches; its products, all of one owner.
use Rattle.std.specs.Prelude.{◌≡◌, refl, Bool, true, false, cond, ◌&&◌, ◌||◌, List, [], ◌∷◌, map, ℕ, suc, ◌≤◌, eqb, leb, ltb}
use Rattle.std.proofs.Common.{sym, ap, subst, ◌∙◌, arith, eqb-true, ne_eqb, leb-true}
use Rattle.lists.specs.Lists.{all, is_empty, is_in, count_if, least}
use Rattle.lists.specs.Choices.{by_bool, clash, and_left, and_intro}
use Rattle.lists.specs.Numbers.{is_in-one, least-in, all-use, all-is_in, all-not}
use Rattle.lists.specs.Each.{All, All-map, All-of}
use Rattle.semantics.specs.Table.{Table, Rule, rule_at, has_role, consumed, product_atoms, begins}
use Rattle.semantics.specs.State.{Origin, Entry, State}
use Rattle.semantics.specs.Move.{is_zero, owners_fit, merged, value_in, kind_made, owner_made, products}
use Rattle.semantics.specs.declared.Atom.{Atom}

-- one of three sorts
pub data Shape (r : Rule) : Type 0 where
  -- a global rule without begin: it only emits
  plain : r.class ≡ 0 → begins r ≡ false → all (has_role 1) (product_atoms r) ≡ true → Shape r
  -- a global rule with begin: it emits nothing, and the member mark is its first product
  begin : r.class ≡ 0 → begins r ≡ true → count_if (has_role 1) r.atoms ≡ 0 → (m : Atom) (rest : List Atom) → product_atoms r ≡ m ∷ rest → m.role ≡ 2
      → all (λ a. leb 3 a.role) rest ≡ true → Shape r
  -- a local or merge rule: it consumes something, and emits or aborts
  inner : eqb r.class 0 ≡ false → begins r ≡ false → is_empty (consumed r) ≡ false → all (λ a. has_role 1 a || has_role 5 a) (product_atoms r) ≡ true → Shape r

abbrev pub Shaped : Table → Type 0
Shaped t = (r : ℕ) → Shape (rule_at t r)

abbrev pub owners : List Entry → List ℕ
owners es = map (λ e. e.owner) es

abbrev pub values : List Entry → List ℕ
values es = map (λ e. e.value) es

-- ---- the transactions that a reaction touches: the one that it begins (n), or those of its picks (os)

abbrev pub touched_by : Rule → ℕ → List ℕ → List ℕ
touched_by r n os = cond (begins r) (n ∷ []) (cond (eqb r.class 0) [] os)

pub zeros : (os : List ℕ) → all is_zero os ≡ true → (v : ℕ) → is_in v os ≡ true → v ≡ 0
zeros os h v k = eqb-true v 0 (all-use is_zero os v h k)

pub least-zeros : (os : List ℕ) → all is_zero os ≡ true → least os ≡ 0
least-zeros [] h = refl
least-zeros (o ∷ os) h = zeros (o ∷ os) h (least (o ∷ os)) (least-in o os)

pub global-fit : (r : Rule) (os : List ℕ) → r.class ≡ 0 → owners_fit r.class os ≡ true → all is_zero os ≡ true
global-fit r os c h = subst (λ (k : ℕ). owners_fit k os ≡ true) c h

pub inner-fit : (k : ℕ) (os : List ℕ) → eqb k 0 ≡ false → owners_fit k os ≡ true → all (λ o. ltb 0 o) os ≡ true
inner-fit k os c h = go (eqb k 1) (rw c at h)
  where
    go : (b : Bool) → cond b (all (λ o. ltb 0 o && eqb o (least os)) os) (all (λ o. ltb 0 o) os) ≡ true → all (λ o. ltb 0 o) os ≡ true
    go true w = all-is_in (λ o. ltb 0 o) os (λ v k. and_left (ltb 0 v) (eqb v (least os)) (all-use (λ o. ltb 0 o && eqb o (least os)) os v w k))
    go false w = w

-- relabelling under an id that they all have changes nothing
pub merged-same : (os : List ℕ) (e : Entry) → ((v : ℕ) → is_in v os ≡ true → v ≡ least os) → merged os e ≡ e
merged-same os e k = λ j. record { origin = e.origin; owner = go j; kind = e.kind; port = e.port; value = e.value }
  where
    go : cond (is_in e.owner os) (least os) e.owner ≡ e.owner
    go = by_bool (is_in e.owner os) (λ q. rw q (sym (k e.owner q))) (λ q. rw q)

pub merged-other : (os : List ℕ) (e : Entry) → is_in e.owner os ≡ false → merged os e ≡ e
merged-other os e k = rw k

pub merged-in : (os : List ℕ) (e : Entry) → is_in e.owner os ≡ true → (merged os e).owner ≡ least os
merged-in os e k = rw k

module _ (r : Rule) (n : ℕ) (os : List ℕ) where
  pub touched-plain : r.class ≡ 0 → begins r ≡ false → touched_by r n os ≡ []
  touched-plain c b = rw (b, c)

  pub touched-begin : begins r ≡ true → touched_by r n os ≡ n ∷ []
  touched-begin b = rw b

  pub touched-inner : eqb r.class 0 ≡ false → begins r ≡ false → touched_by r n os ≡ os
  touched-inner c b = rw (b, c)

  pub touched-least : touched_by r n os ≡ touched_by r (least (touched_by r n os)) os
  touched-least = go (begins r) (eqb r.class 0)
    where
      go : (b c : Bool) → cond b (n ∷ []) (cond c [] os) ≡ cond b (least (cond b (n ∷ []) (cond c [] os)) ∷ []) (cond c [] os)
      go true c = refl
      go false true = refl
      go false false = refl

  module _ (sh : Shape r) (fit : owners_fit r.class os ≡ true) where
    pub touched-positive : 1 ≤ n → is_in 0 (touched_by r n os) ≡ false
    touched-positive p = go sh
      where
        go : Shape r → is_in 0 (touched_by r n os) ≡ false
        go (plain c b h) = rw (touched-plain c b)
        go (begin c b h m rest q w k) = rw (touched-begin b, ne_eqb 0 n (λ q. omega arith))
        go (inner c b h k) = rw (touched-inner c b) (all-not (λ o. ltb 0 o) os 0 (inner-fit r.class os c fit) refl)

    pub touched-merge : (e : Entry) → merged os e ≡ merged (touched_by r n os) e
    touched-merge e = go sh
      where
        zero_same : r.class ≡ 0 → merged os e ≡ e
        zero_same c = let z = global-fit r os c fit in merged-same os e (λ v k. zeros os z v k ∙ sym (least-zeros os z))

        go : Shape r → merged os e ≡ merged (touched_by r n os) e
        go (plain c b h) = zero_same c ∙ sym (ap (λ (l : List ℕ). merged l e) (touched-plain c b))
        go (begin c b h m rest q w k) = zero_same c ∙ sym (ap (λ (l : List ℕ). merged l e) (touched-begin b) ∙ merged-same (n ∷ []) e (λ v k. is_in-one v n k))
        go (inner c b h k) = sym (ap (λ (l : List ℕ). merged l e) (touched-inner c b))

-- ---- products: all belong to w

-- the product of an atom, of the origin o and the owner w; a begin's mark has its owner's id
abbrev pub product_of : ℕ → List ℕ → Origin → Atom → Entry
product_of w vs o a = record { origin = o; owner = w; kind = kind_made a.role; port = a.port; value = cond (eqb a.role 2) w (value_in vs a.value) }

abbrev pub make : ℕ → ℕ → List ℕ → ℕ → List Atom → List Entry
make i w vs q [] = []
make i w vs q (a ∷ ats) = product_of w vs (record { maker = i; index = q }) a ∷ make i w vs (suc q) ats

pub products-one : (r : Rule) (s : State) (es : List Entry) (i w q : ℕ) (ats : List Atom)
    → All (λ a. (owner_made r s (owners es) a.role ≡ w) × (eqb a.role 2 ≡ true → s.next ≡ w)) ats → products r s es i q ats ≡ make i w (values es) q ats
products-one r s es i w q [] h = refl
products-one r s es i w q (a ∷ ats) h = λ j. record {
  origin = o;
  owner = h.0.0 j;
  kind = kind_made a.role;
  port = a.port;
  value = value-eq
      (eqb a.role 2) refl j;
}
    ∷ products-one r s es i w (suc q) ats h.1 j
  where
    o : Origin
    o = record { maker = i; index = q }

    value-eq : (b : Bool) → eqb a.role 2 ≡ b → cond b s.next (value_in (values es) a.value) ≡ cond b w (value_in (values es) a.value)
    value-eq true z = h.0.1 z
    value-eq false z = refl

-- a test on the role of an atom of a local or merge rule
pub inner-role : (P : ℕ → Type 0) (a : Atom) → (has_role 1 a || has_role 5 a) ≡ true → P 1 → P 5 → P a.role
inner-role P a h x y = by_bool (has_role 1 a) (λ p. subst P (sym (eqb-true a.role 1 p)) x) (λ p. subst P (sym (eqb-true a.role 5 (rw p at h))) y)

pub products-make : (r : Rule) → Shape r → (s : State) (es : List Entry) (i : ℕ) → owners_fit r.class (owners es) ≡ true
    → products r s es i 0 (product_atoms r) ≡ make i (least (touched_by r s.next (owners es))) (values es) 0 (product_atoms r)
products-make r sh s es i fit = products-one r s es i (least (touched_by r s.next (owners es))) 0 (product_atoms r) (go sh)
  where
    os : List ℕ
    os = owners es

    Fine : ℕ → Atom → Type 0
    Fine w a = (owner_made r s os a.role ≡ w) × (eqb a.role 2 ≡ true → s.next ≡ w)

    fine-plain : r.class ≡ 0 → (a : Atom) → has_role 1 a ≡ true → Fine 0 a
    fine-plain c a h = let q = eqb-true a.role 1 h in
        (rw (c, q) (least-zeros os (global-fit r os c fit)), λ z. absurd (let y = eqb-true a.role 2 z in omega arith))

    fine-begin : r.class ≡ 0 → (a : Atom) → eqb a.role 1 ≡ false → Fine s.next a
    fine-begin c a h = (rw (c, h), λ z. refl)

    fine-inner : eqb r.class 0 ≡ false → (a : Atom) → (has_role 1 a || has_role 5 a) ≡ true → Fine (least os) a
    fine-inner c a h = (rw c, λ z. absurd (clash z (inner-role (λ k. eqb k 2 ≡ false) a h refl refl)))

    go : Shape r → All (Fine (least (touched_by r s.next os))) (product_atoms r)
    go (plain c b h) = rw (touched-plain r s.next os c b) (All-map {P = λ a. has_role 1 a ≡ true} {Q = Fine 0} (λ a k. fine-plain c a k) (product_atoms r)
        (All-of (has_role 1) (product_atoms r) h))
    go (begin c b h m rest q w k) = rw (touched-begin r s.next os b, q) (
      fine-begin c m (rw w),
      All-map {P = λ a. leb 3 a.role ≡ true} {Q = Fine s.next}
          (λ a z. fine-begin c a (ne_eqb a.role 1 (λ y. let x = leb-true 3 a.role z in omega arith))) rest (All-of (λ a. leb 3 a.role) rest k),
    )
    go (inner c b h k) = rw (touched-inner r s.next os c b)
        (All-map {P = λ a. (has_role 1 a || has_role 5 a) ≡ true} {Q = Fine (least os)} (λ a z. fine-inner c a z) (product_atoms r)
        (All-of (λ a. has_role 1 a || has_role 5 a) (product_atoms r) k))

-- ---- tests on the products

pub make-all : (p : Entry → Bool) (i w : ℕ) (vs : List ℕ) (q : ℕ) (ats : List Atom) → ((e : Entry) → e.origin.maker ≡ i → e.owner ≡ w → p e ≡ true)
    → all p (make i w vs q ats) ≡ true
make-all p i w vs q [] h = refl
make-all p i w vs q (a ∷ ats) h = and_intro (h _ refl refl) (make-all p i w vs (suc q) ats h)

pub make-kinds : (p : ℕ → Bool) (i w : ℕ) (vs : List ℕ) (q : ℕ) (ats : List Atom) → All (λ a. p (kind_made a.role) ≡ true) ats
    → all (λ e. p e.kind) (make i w vs q ats) ≡ true
make-kinds p i w vs q [] h = refl
make-kinds p i w vs q (a ∷ ats) h = and_intro h.0 (make-kinds p i w vs (suc q) ats h.1)

-- ---- kinds of products

pub kinds-plain : (ats : List Atom) → all (has_role 1) ats ≡ true → All (λ a. ltb (kind_made a.role) 3 ≡ true) ats
kinds-plain ats h = All-map {P = λ a. has_role 1 a ≡ true} {Q = λ a. ltb (kind_made a.role) 3 ≡ true}
    (λ a k. ap (λ (n : ℕ). ltb (kind_made n) 3) (eqb-true a.role 1 k)) ats
    (All-of (has_role 1) ats h)

pub kinds-inner : (ats : List Atom) → all (λ a. has_role 1 a || has_role 5 a) ats ≡ true → All (λ a. ltb (kind_made a.role) 3 ≡ true) ats
kinds-inner ats h = All-map {P = λ a. (has_role 1 a || has_role 5 a) ≡ true} {Q = λ a. ltb (kind_made a.role) 3 ≡ true}
    (λ a k. inner-role (λ n. ltb (kind_made n) 3 ≡ true) a k refl refl) ats (All-of (λ a. has_role 1 a || has_role 5 a) ats h)

pub kinds-rest : (ats : List Atom) → all (λ a. leb 3 a.role) ats ≡ true → All (λ a. ltb (kind_made a.role) 3 ≡ true) ats
kinds-rest ats h = All-map {P = λ a. leb 3 a.role ≡ true} {Q = λ a. ltb (kind_made a.role) 3 ≡ true}
    (λ a k. go a (ne_eqb a.role 2 (λ q. let x = leb-true 3 a.role k in omega arith))) ats
    (All-of (λ a. leb 3 a.role) ats h)
  where
    two : (b c : Bool) → ltb (cond b 1 (cond c 2 0)) 3 ≡ true
    two true c = refl
    two false true = refl
    two false false = refl

    go : (a : Atom) → eqb a.role 2 ≡ false → ltb (kind_made a.role) 3 ≡ true
    go a z = rw z (two (eqb a.role 4) (eqb a.role 5))
