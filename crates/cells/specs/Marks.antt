-- What a move does to owners and member marks: where an owner comes from, and that a mark stays at its origin, under the merged transaction.
use Rattle.std.specs.Prelude.{◌≡◌, refl, Bool, true, false, cond, ◌⊎◌, ℕ, suc, ◌<◌}
use Rattle.std.proofs.Common.{sym, ap, subst, ◌∙◌, true≢false, inl, inr, arith, eqb-true, eq-eqb, ne_eqb}
use Rattle.std.proofs.lemmas.Bool.{false≢true}
use Rattle.std.proofs.Math.Option.{none, some}
use mathlib.Core.List.{List, [], ◌∷◌, map, nil≢cons}
use Rattle.lists.specs.Lists.{all, is_empty, is_in, least}
use Rattle.lists.specs.Choices.{by_bool, clash, is_false, and_left, and_right}
use Rattle.lists.specs.Numbers.{is_in-cases}
use Rattle.lists.specs.Each.{head-eq, tail-eq}
use Rattle.semantics.specs.Table.{Table, Rule, rule_at, consumed, product_atoms, begins}
use Rattle.semantics.specs.State.{Origin, Entry, is_message, is_member_mark, owned}
use Rattle.semantics.specs.Move.{Move, react, commit, abort, merged, kind_made}
use Rattle.semantics.specs.Serial.{is_end, is_begin}
use Rattle.semantics.specs.declared.Atom.{Atom}
use Rattle.cells.specs.Origins.{or_else, bind_o, is_in_o, look, some_inj, none-some, found_at, same_refl}
use Rattle.cells.specs.ByOrigin.{ports-messages}
use Rattle.cells.specs.Rules.{product_of, Shape, plain, begin, inner, Shaped, owners, touched-plain, touched-inner, make}
use Rattle.cells.specs.Deeds.{Deed}
use Rattle.cells.specs.Cells.{Cells, apply, Source}
use Rattle.cells.specs.Actions.{Seen, strip, left, end_action, action_by, mark_of, EndTests, Tests, Ok, product-of, left-result, in_one, end-local}
use Rattle.cells.specs.Simulation.{Mark}

-- ---- where an owner comes from

-- v is the owner at o after a move on the transactions bs: that of the entry there before, merged; or that of the move's products
abbrev pub From : Cells → List ℕ → Bool → Origin → ℕ → Type 0
From f bs end o v = ((c : Entry) × (f o ≡ some c) × (v ≡ cond (is_in c.owner bs) (least bs) c.owner) × (end ≡ true → is_in c.owner bs ≡ false)) ⊎
    ((v ≡ least bs) × (end ≡ false))

pub end-came : (k : ℕ) (f : Cells) (a : Deed) (o : Origin) (e : Entry) → a.touched ≡ least a.touched ∷ [] → Source f (end_action k a.touched) o e
    → (e.owner ≡ 0 → ⊥) → From f a.touched true o e.owner
end-came k f a o e z (inr q) nz = absurd (none-some q)
end-came k f a o e z (inl (c, w, g, q)) nz = by_bool (is_in c.owner a.touched)
    (λ y. absurd (nz (left-result k (least a.touched) c e (eq-eqb c.owner (least a.touched) (in_one a.touched c.owner z y)) q)))
    (λ y. inl (c, w, rw y (ap (λ (x : Entry). x.owner) (some_inj (sym q ∙ (end-local k a.touched 0 z).other c y))), λ _. y))

pub came : (t : Table) (f : Cells) (a : Deed) (es : List Entry) (vs : List ℕ) (mv : Move) → Tests t a es mv → (o : Origin) (e : Entry)
    → Source f (action_by t a.place a.picks a.touched vs mv) o e → (e.owner ≡ 0 → ⊥) → From f a.touched (is_end mv) o e.owner
unfolding action_by
came t f a es vs (react r ps) T o e (inl (c, w, g, q)) nz = inl (c, w, ap (λ (x : Entry). x.owner) (sym (some_inj q)), λ z. absurd (false≢true z))
came t f a es vs (react r ps) T o e (inr q) nz = inr ((product-of (suc a.place) (least a.touched) vs (rule_at t r) o e q).1, refl)
came t f a es vs (commit b) T o e h nz = end-came 0 f a o e T.2 h nz
came t f a es vs (abort b) T o e h nz = end-came 1 f a o e T.2 h nz

-- ---- the transactions that a move touches are there, but for the one that it begins

pub owner-live : (f : Cells) (v : ℕ) (os : List Origin) (es : List Entry) → map f os ≡ map some es → is_in v (owners es) ≡ true
    → (o : Origin) × (e : Entry) × (f o ≡ some e) × (e.owner ≡ v)
owner-live f v os [] h k = absurd (false≢true k)
owner-live f v [] (e ∷ es) h k = absurd (nil≢cons h)
owner-live f v (o ∷ os) (e ∷ es) h k = go (owner-live f v os es (tail-eq h)) (is_in-cases v e.owner (owners es) k)
  where
    go : (is_in v (owners es) ≡ true → (o : Origin) × (e : Entry) × (f o ≡ some e) × (e.owner ≡ v)) → (v ≡ e.owner) ⊎ (is_in v (owners es) ≡ true)
        → (o : Origin) × (e : Entry) × (f o ≡ some e) × (e.owner ≡ v)
    go ih (inl q) = (o, e, head-eq h, sym q)
    go ih (inr q) = ih q

-- an end's marks
pub end_live : (f : Cells) (b : ℕ) (os : List Origin) (es : List Entry) → map f os ≡ map some es → all (mark_of b) es ≡ true → is_empty es ≡ false → Mark f b
end_live f b os [] h m n = absurd (true≢false n)
end_live f b [] (e ∷ es) h m n = absurd (nil≢cons h)
end_live f b (o ∷ os) (e ∷ es) h m n = let q = and_left (mark_of b e) (all (mark_of b) es) m in
    (o, e, head-eq h, eqb-true e.kind 3 (and_left (is_member_mark e) (owned b e) q), eqb-true e.owner b (and_right (is_member_mark e) (owned b e) q))

-- which transactions: by sort
pub touched-cases : (t : Table) → Shaped t → (a : Deed) (es : List Entry) (r : ℕ) (ps : List ℕ) → Tests t a es (react r ps) → begins (rule_at t r) ≡ false
    → (a.touched ≡ []) ⊎ (a.touched ≡ owners es)
touched-cases t sd a es r ps T n = go (sd r)
  where
    go : Shape (rule_at t r) → (a.touched ≡ []) ⊎ (a.touched ≡ owners es)
    go (plain c b h) = inl (T.2 ∙ touched-plain (rule_at t r) (least a.touched) (owners es) c b)
    go (begin c b h m rest q w k) = absurd (clash b n)
    go (inner c b h k) = inr (T.2 ∙ touched-inner (rule_at t r) (least a.touched) (owners es) c b)

pub touched-live : (t : Table) → Shaped t → (F : Seen) (a : Deed) → Ok t F a → is_begin t a.move ≡ false → (v : ℕ) → is_in v a.touched ≡ true
    → (o : Origin) × (e : Entry) × (F.cell o ≡ some e) × (e.owner ≡ v)
touched-live t sd F a k n v h = go a.move k.tests n
  where
    by_end : EndTests a k.es → (o : Origin) × (e : Entry) × (F.cell o ≡ some e) × (e.owner ≡ v)
    by_end T = let m = end_live F.cell (least a.touched) a.picks k.es k.found T.0 T.1 in (
      m.0,
      m.1,
      m.2,
      m.4
          ∙ sym (in_one a.touched v T.2 h),
    )

    by-react : (a.touched ≡ []) ⊎ (a.touched ≡ owners k.es) → (o : Origin) × (e : Entry) × (F.cell o ≡ some e) × (e.owner ≡ v)
    by-react (inl q) = absurd (false≢true (rw q at h))
    by-react (inr q) = owner-live F.cell v a.picks k.es k.found (rw q at h)

    go : (mv : Move) → Tests t a k.es mv → is_begin t mv ≡ false → (o : Origin) × (e : Entry) × (F.cell o ≡ some e) × (e.owner ≡ v)
    go (react r ps) T z = by-react (touched-cases t sd a k.es r ps T z)
    go (commit b) T z = by_end T
    go (abort b) T z = by_end T

-- ---- marks

abbrev pub MarkAt : Cells → Origin → ℕ → Type 0
MarkAt f o v = (e : Entry) × (f o ≡ some e) × (e.kind ≡ 3) × (e.owner ≡ v)

-- a message that is picked is no mark
pub not-picked : (t : Table) (f : Cells) (a : Deed) (es : List Entry) (r : ℕ) (ps : List ℕ) → Tests t a es (react r ps) → map f a.picks ≡ map some es
    → (o : Origin) (e : Entry) → f o ≡ some e → e.kind ≡ 3 → is_in_o o a.picks ≡ false
not-picked t f a es r ps T fd o e h k = is_false (is_in_o o a.picks) (λ q.
    let y = found_at f is_message o a.picks es fd (ports-messages (consumed (rule_at t r)) es T.0) q in
    let z = eqb-true y.0.kind 0 y.2 in let x : y.0.kind ≡ e.kind = ap (λ (d : Entry). d.kind) (some_inj (sym y.1 ∙ h)) in omega arith)

pub mark-stay : (t : Table) (f : Cells) (a : Deed) (es : List Entry) (vs : List ℕ) (o : Origin) (e : Entry) (mv : Move) → Tests t a es mv
    → map f a.picks ≡ map some es
    → (is_end mv ≡ true → is_in e.owner a.touched ≡ false) → f o ≡ some e → e.kind ≡ 3
    → MarkAt (apply f (action_by t a.place a.picks a.touched vs mv)) o (cond (is_in e.owner a.touched) (least a.touched) e.owner)
unfolding action_by
mark-stay t f a es vs o e (react r ps) T fd ne h k = (merged a.touched e, rw (not-picked t f a es r ps T fd o e h k, h), k, refl)
mark-stay t f a es vs o e (commit b) T fd ne h k = (e, rw (h, (end-local 0 a.touched a.place T.2).other e (ne refl)), k, rw (ne refl))
mark-stay t f a es vs o e (abort b) T fd ne h k = (e, rw (h, (end-local 1 a.touched a.place T.2).other e (ne refl)), k, rw (ne refl))

pub left-none : (k b : ℕ) (e : Entry) → k < 2 → e.kind ≡ 3 → e.owner ≡ b → left k b e ≡ none
left-none k b e h z w = rw (eq-eqb e.owner b w, ne_eqb e.kind k (λ q. omega arith))

-- an end takes the marks of its transaction away
pub mark-gone : (t : Table) (f : Cells) (a : Deed) (es : List Entry) (vs : List ℕ) (o : Origin) (e : Entry) (mv : Move) → Tests t a es mv → is_end mv ≡ true
    → is_in e.owner a.touched ≡ true → f o ≡ some e → e.kind ≡ 3
    → apply f (action_by t a.place a.picks a.touched vs mv) o ≡ none
unfolding action_by
mark-gone t f a es vs o e (react r ps) T n i h k = absurd (false≢true n)
mark-gone t f a es vs o e (commit b) T n i h k = rw (h, left-none 0 (least a.touched) e (omega arith) k (in_one a.touched e.owner T.2 i))
mark-gone t f a es vs o e (abort b) T n i h k = rw (h, left-none 1 (least a.touched) e (omega arith) k (in_one a.touched e.owner T.2 i))

-- the mark of a begin is its first product
abbrev pub first_of : ℕ → Origin
first_of i = record { maker = suc i; index = 0 }

pub begin-mark : (R : Rule) → Shape R → begins R ≡ true → (i w : ℕ) (vs : List ℕ)
    → (e : Entry) × (look (first_of i) (map strip (make (suc i) w vs 0 (product_atoms R))) ≡ some e) × (e.kind ≡ 3) × (e.owner ≡ w)
begin-mark R (plain c b h) n i w vs = absurd (clash n b)
begin-mark R (inner c b h k) n i w vs = absurd (clash n b)
begin-mark R (begin c b h m rest q z k) n i w vs = subst (λ (l : List Atom). (e : Entry) × (look (first_of i) (map strip (make (suc i) w vs 0 l)) ≡ some e) ×
    (e.kind ≡ 3) × (e.owner ≡ w)) (sym q) (
      strip (product_of w vs (first_of i) m),
      rw (same_refl (first_of i)),
      ap kind_made z,
      refl,
    )

pub mark_made : (t : Table) → Shaped t → (f : Cells) (a : Deed) (vs : List ℕ) (mv : Move) → is_begin t mv ≡ true → f (first_of a.place) ≡ none
    → MarkAt (apply f (action_by t a.place a.picks a.touched vs mv)) (first_of a.place) (least a.touched)
unfolding action_by
mark_made t sd f a vs (commit b) n fr = absurd (false≢true n)
mark_made t sd f a vs (abort b) n fr = absurd (false≢true n)
mark_made t sd f a vs (react r ps) n fr = let q = begin-mark (rule_at t r) (sd r) n a.place (least a.touched) vs in
    (q.0, go q.0 q.1 (is_in_o (first_of a.place) a.picks), q.2, q.3)
  where
    go : (e : Entry) → look (first_of a.place) (map strip (make (suc a.place) (least a.touched) vs 0 (product_atoms (rule_at t r)))) ≡ some e → (b : Bool)
        → or_else (cond b none (bind_o (λ e. some (merged a.touched e)) (f (first_of a.place))))
        (look (first_of a.place) (map strip (make (suc a.place) (least a.touched) vs 0 (product_atoms (rule_at t r))))) ≡ some e
    go e h true = h
    go e h false = rw fr h
