-- The transactions begun in a log: by their ids, from the first on, the origins of their own marks.
use Prim.Native.Nat.{ℕ, suc, ◌+◌, ◌-◌, ◌≤◌, ◌<◌}
use mathlib.Core.Bool.{Bool, true, false, not, cond, true≢false}
use mathlib.Core.List.{List, ◌∷◌}
use mathlib.Core.Logic.{inl, inr}
use mathlib.Core.Path.{◌≡◌, refl, sym, ap, subst, ◌∙◌}
use native.Mathlib.Omega.{arith}
use borrow.Author.Tests.{eqb-true, leb-true, eq-eqb, ne_eqb, le-leb}
use lib.Dec.{eqb, leb}
use lib.ListN.{length, get_or, set, length-set}
use lib.Seq.{get_or-set_same, get_or-set_other}
use Rattle.lists.specs.Lists.{keep}
use Rattle.lists.specs.Choices.{by_bool, and_intro, clash}
use Rattle.lists.specs.Tests.{true-or}
use Rattle.lists.specs.Members.{Among, all-each, any-intro, keep-among, map-among}
use Rattle.lists.specs.Each.{empty-nil}
use Rattle.semantics.specs.Table.{Table, Rule, rule_at, product_atoms, begins, has_role}
use Rattle.semantics.specs.State.{Origin, Entry, State, owned}
use Rattle.semantics.specs.Move.{Move, react, commit, abort, picked, kind_made, products, reacted, ended, applied}
use Rattle.semantics.specs.Serial.{any_open, same_origin}
use Rattle.semantics.specs.declared.Atom.{Atom}
use Rattle.semantics.specs.declared.Sizes.{Sizes}
use Rattle.wellformed.specs.Entries.{Sound}
use Rattle.wellformed.specs.Products.{among-products}
use Rattle.cells.specs.Rules.{Shape, plain, begin, inner, Shaped}
use Rattle.words.specs.Origin.{origin_of, first_product, origin-of-first}
use Rattle.recording.proofs.MarksKept.{MarksHave, reacted-have, ended-have}
use Rattle.recording.specs.Marks.{is_mark_of, marks_of, OneOf}
use Rattle.recording.specs.Recordings.{mark_by, if_grown}

-- a mark of this value, begun in the log, and its origin
abbrev Known : ℕ → List ℕ → ℕ → ℕ → Origin → Type 0
Known first begun next v o = (first ≤ v) × (v < next) × (origin_of (get_or begun (v - first) 0) ≡ o)

pub record Tracked (first : ℕ) (begun : List ℕ) (i : ℕ) (s : State) : Type 0 where
  pub size : length begun ≡ 1024
  pub positive : 1 ≤ first
  pub low : first ≤ s.next
  pub high : s.next ≤ first + i
  marks : MarksHave (Known first begun s.next) s.entries

-- nothing is open at the start, so there is no mark
pub tracked-start : {z : Sizes} (s : State) → Sound z s → any_open s ≡ false → {begun : List ℕ} → length begun ≡ 1024 → Tracked s.next begun 0 s
tracked-start s sound closed size = record {
  size = size;
  positive = sound.next_low;
  low = omega arith;
  high = omega arith;
  marks = λ e m k. absurd (by_bool (owned 0 e)
      (λ o. let g = ((sound.right.each e m).global (eqb-true e.owner 0 o)).0 in omega arith)
      (λ o. true≢false (sym (any-intro (λ e. not (owned 0 e)) s.entries e m (rw o)) ∙ closed)));
}

-- ---- a move

role-of-mark : (r : ℕ) → kind_made r ≡ 3 → r ≡ 2
role-of-mark r h = go (eqb r 2) refl (eqb r 4) (eqb r 5) h
  where
    go : (a : Bool) → eqb r 2 ≡ a → (b c : Bool) → ◌≡◌ {A = ℕ} (cond a 3 (cond b 1 (cond c 2 0))) 3 → r ≡ 2
    go true q b c k = eqb-true r 2 q
    go false q true c k = absurd (omega arith)
    go false q false true k = absurd (omega arith)
    go false q false false k = absurd (omega arith)

module _ (R : Rule) (s : State) (es : List Entry) (i : ℕ) where
  -- a product that is a mark comes of an atom of role 2
  mark-atom : (q : ℕ) (atoms : List Atom) (e : Entry) → Among e (products R s es i q atoms) → e.kind ≡ 3 → (a : Atom) × Among a atoms × (a.role ≡ 2)
  mark-atom q atoms e m k =
      let (a, o, n, h) = among-products R s es i q atoms e m in
      (a, n, role-of-mark a.role (sym (ap (λ (x : Entry). x.kind) h) ∙ k))

  -- only a begin makes one, as its first product, of value N
  pub mark-product : Shape R → (e : Entry) → Among e (products R s es i 0 (product_atoms R)) → e.kind ≡ 3
      → (begins R ≡ true) × (e.value ≡ s.next) × (e.origin ≡ record { maker = i; index = 0 })
  mark-product (plain c b h) e m k =
      let (a, n, r) = mark-atom 0 (product_atoms R) e m k in
      absurd (let l = eqb-true a.role 1 (all-each (has_role 1) (product_atoms R) h a n) in omega arith)
  mark-product (inner c b h z) e m k =
      let (a, n, r) = mark-atom 0 (product_atoms R) e m k in
      absurd (true≢false (sym (all-each _ (product_atoms R) z a n) ∙ rw (ne_eqb a.role 1 (λ q. omega arith), ne_eqb a.role 5 (λ q. omega arith))))
  mark-product (begin c b h first rest q two more) e m k = go (subst (λ (l : List Atom). Among e (products R s es i 0 l)) q m)
    where
      go : Among e (products R s es i 0 (first ∷ rest)) → (begins R ≡ true) × (e.value ≡ s.next) × (e.origin ≡ record { maker = i; index = 0 })
      go (inl x) = (b, ap (λ (y : Entry). y.value) x ∙ rw (eq-eqb first.role 2 two), ap (λ (y : Entry). y.origin) x)
      go (inr n) =
          let (a, l, r) = mark-atom 1 rest e n k in
          absurd (let z = leb-true 3 a.role (all-each (λ a. leb 3 a.role) rest more a l) in omega arith)

module _ {first : ℕ} {begun : List ℕ} {i : ℕ} {s : State} (h : Tracked first begun i s) where
  same : (v : ℕ) (o : Origin) → Known first begun s.next v o → Known first begun s.next v o
  same v o b = b

  module _ (few : i < 1024) where
    -- with the mark of a begin at place i
    abbrev grown : List ℕ
    grown = set begun (s.next - first) (first_product i)

    others : (v : ℕ) (o : Origin) → Known first begun s.next v o → Known first grown (suc s.next) v o
    others v o (a, b, e) = (
      a,
      omega arith,
      ap origin_of (get_or-set_other begun (s.next - first) (v - first) (first_product i) 0 (λ q. omega (arith, h.low))) ∙ e,
    )

    own : Known first grown (suc s.next) s.next (record { maker = suc i; index = 0 })
    own = (
      h.low,
      omega arith,
      ap origin_of (get_or-set_same begun (s.next - first) (first_product i) 0 (omega (arith, h.size, h.low, h.high)))
          ∙ origin-of-first i,
    )

    reacted-tracked : (R : Rule) → Shape R → (ps : List ℕ) → (c : Bool) → begins R ≡ c
        → Tracked first (if_grown s.next (reacted R (suc i) s ps).next begun (s.next - first) (first_product i)) (i + 1) (reacted R (suc i) s ps)
    unfolding reacted
    reacted-tracked R shape ps true b =
        rw (b, ne_eqb s.next (suc s.next) (λ q. omega arith))
        (record {
          size = length-set begun _ _ ∙ h.size;
          positive = h.positive;
          low = omega (arith, h.low);
          high = omega (arith, h.high);
          marks = reacted-have others R (suc i) s ps h.marks (λ e m k. let (_, v, o) = mark-product R s (picked s ps) (suc i) shape e m k in rw (v, o) own);
        })
    reacted-tracked R shape ps false b =
        rw (b, eq-eqb s.next s.next refl)
        (record {
          size = h.size;
          positive = h.positive;
          low = h.low;
          high = omega (arith, h.high);
          marks = reacted-have same R (suc i) s ps h.marks (λ e m k. absurd (clash (mark-product R s (picked s ps) (suc i) shape e m k).0 b));
        })

    ended-tracked : (p : Entry → Bool) (b : ℕ) → Tracked first (if_grown s.next (ended p b s).next begun (s.next - first) (first_product i)) (i + 1)
        (ended p b s)
    unfolding ended
    ended-tracked p b =
        rw (eq-eqb s.next s.next refl)
        (record { size = h.size; positive = h.positive; low = h.low; high = omega (arith, h.high); marks = ended-have same p b s h.marks })

    pub tracked-next : (t : Table) → Shaped t → (m : Move)
        → Tracked first (if_grown s.next (applied t (suc i) s m).next begun (s.next - first) (first_product i)) (i + 1) (applied t (suc i) s m)
    unfolding applied
    tracked-next t shaped (react r ps) = reacted-tracked (rule_at t r) (shaped r) ps (begins (rule_at t r)) refl
    tracked-next t shaped (commit b) = ended-tracked _ b
    tracked-next t shaped (abort b) = ended-tracked _ b

  -- ---- the mark of a transaction that owns something

  pub no-mark : mark_by begun first 0 ≡ 0
  no-mark = by_bool (leb first 0) (λ k. absurd (let l = leb-true first 0 k in omega (arith, h.positive))) (λ k. rw k)

  pub own-mark : {z : Sizes} → Sound z s → (e : Entry) → Among e s.entries → (e.owner ≡ 0 → ⊥)
      → (o : Origin) × Among o (marks_of e.owner s.entries) × OneOf (mark_by begun first e.owner) (marks_of e.owner s.entries)
  own-mark sound e m n =
      let (mark, k, kind, owner, value) = sound.right.own e m n in
      let (low, high, is) = h.marks mark k kind in
      let mine : is_mark_of e.owner mark ≡ true = and_intro (eq-eqb mark.kind 3 kind) (true-or false (eq-eqb mark.owner e.owner owner)) in
      let there : Among mark.origin (marks_of e.owner s.entries) = map-among (λ e. e.origin) (keep (is_mark_of e.owner) s.entries) mark
      (keep-among (is_mark_of e.owner) s.entries mark k mine) in
      let word : mark_by begun first e.owner ≡ get_or begun (mark.value - first) 0 = rw (le-leb first e.owner (omega arith), value) in
      let same : same_origin (origin_of (mark_by begun first e.owner)) mark.origin ≡ true =
      and_intro (eq-eqb _ mark.origin.maker (ap (λ (o : Origin). o.maker) (ap origin_of word ∙ is)))
      (eq-eqb _ mark.origin.index (ap (λ (o : Origin). o.index) (ap origin_of word ∙ is))) in (
        mark.origin,
        there,
        record {
          some = λ _. any-intro (same_origin (origin_of (mark_by begun first e.owner))) (marks_of e.owner s.entries) mark.origin there same;
          none = λ q. absurd (subst (Among mark.origin) (empty-nil (marks_of e.owner s.entries) q) there);
        },
      )
