-- In every state of a log a transaction's id is the smallest of its members' ids.
use Rattle.std.specs.Prelude.{◌≡◌, Bool, true, false, cond, ◌⊎◌, List, [], ◌∷◌, ℕ, ◌≤◌}
use Rattle.std.proofs.Common.{sym, subst, inl, inr, arith, eqb-true, eq-eqb}
use Rattle.std.proofs.lemmas.Bool.{false≢true}
use Rattle.std.proofs.Math.Option.{some}
use Rattle.lists.specs.Lists.{is_in, least, keep}
use Rattle.lists.specs.Numbers.{is_in-head, is_in-cons, is_in-cases, least-is}
use Rattle.semantics.specs.State.{Origin, Entry, State, is_member_mark, owned, mark_values}
use Rattle.semantics.specs.Move.{entries_in}
use Rattle.semantics.specs.Serial.{same_origin}
use Rattle.semantics.specs.declared.Sizes.{Sizes}
use Rattle.lists.specs.Members.{Among}
use Rattle.wellformed.specs.Entries as Entries
use Rattle.wellformed.specs.Entries.{StateRight}
use Rattle.cells.specs.Origins.{look, some_inj, none-some}
use Rattle.cells.specs.ByOrigin.{Uniq, look-head, look-deeper, uniq-keep, look-kept, kept-look}
use Rattle.cells.specs.Rules.{values}

-- the transaction v's own mark
abbrev pub OwnMarkAt : List Entry → ℕ → Type 0
OwnMarkAt l v = (o : Origin) × (d : Entry) × (look o l ≡ some d) × (d.kind ≡ 3) × (d.owner ≡ v) × (d.value ≡ v)

pub record Named (s : State) : Type 0 where
  pub mark-low : (o : Origin) (d : Entry) → look o s.entries ≡ some d → d.kind ≡ 3 → d.owner ≤ d.value
  pub own-mark : (o : Origin) (d : Entry) → look o s.entries ≡ some d → (d.owner ≡ 0 → ⊥) → OwnMarkAt s.entries d.owner

-- ---- of a well-formed state

pub look-among : (o : Origin) (l : List Entry) (d : Entry) → look o l ≡ some d → Among d l
look-among o [] d h = absurd (none-some h)
look-among o (x ∷ l) d h = go (same_origin o x.origin) (look-among o l d) h
  where
    go : (b : Bool) → (look o l ≡ some d → Among d l) → cond b (some x) (look o l) ≡ some d → Among d (x ∷ l)
    go true ih w = inl (sym (some_inj w))
    go false ih w = inr (ih w)

pub among-look : (l : List Entry) → Uniq l → (d : Entry) → Among d l → look d.origin l ≡ some d
among-look [] u d m = absurd m
among-look (x ∷ l) u d (inl e) = subst (λ (y : Entry). look y.origin (x ∷ l) ≡ some y) (sym e) (look-head x l)
among-look (x ∷ l) u d (inr m) = look-deeper x l u.0 d.origin (among-look l u.1 d m)

pub named-of : (z : Sizes) (s : State) → Uniq s.entries → StateRight z s → Named s
named-of z s u right = record {
  mark-low = λ o d h k. ((right.each d (look-among o s.entries d h)).member-mark k).owner-le;
  own-mark = λ o d h n. here d.owner (right.own d (look-among o s.entries d h) n);
}
  where
    here : (v : ℕ) → Entries.HasOwnMark s.entries v → OwnMarkAt s.entries v
    here v (m, a, k, w, x) = (m.origin, m, among-look s.entries u m a, k, w, x)

-- ---- the smallest id

pub value-in : (o : Origin) (l : List Entry) (d : Entry) → look o l ≡ some d → is_in d.value (values l) ≡ true
value-in o [] d h = absurd (none-some h)
value-in o (x ∷ l) d h = go (value-in o l d) (same_origin o x.origin) h
  where
    go : (look o l ≡ some d → is_in d.value (values l) ≡ true) → (b : Bool) → cond b (some x) (look o l) ≡ some d → is_in d.value (values (x ∷ l)) ≡ true
    go ih true w = subst (λ (z : Entry). is_in z.value (values (x ∷ l)) ≡ true) (some_inj w) (is_in-head x.value (values l))
    go ih false w = is_in-cons d.value x.value (values l) (ih w)

pub value-look : (v : ℕ) (l : List Entry) → Uniq l → is_in v (values l) ≡ true → (o : Origin) × (d : Entry) × (look o l ≡ some d) × (d.value ≡ v)
value-look v [] u h = absurd (false≢true h)
value-look v (x ∷ l) u h = go (value-look v l u.1) (is_in-cases v x.value (values l) h)
  where
    go : (is_in v (values l) ≡ true → (o : Origin) × (d : Entry) × (look o l ≡ some d) × (d.value ≡ v)) → (v ≡ x.value) ⊎ (is_in v (values l) ≡ true)
        → (o : Origin) × (d : Entry) × (look o (x ∷ l) ≡ some d) × (d.value ≡ v)
    go ih (inl q) = (x.origin, x, look-head x l, sym q)
    go ih (inr q) = let r = ih q in (r.0, r.1, look-deeper x l u.0 r.0 r.2, r.3)

pub smallest : (s : State) → Uniq s.entries → Named s → (b : ℕ) → OwnMarkAt s.entries b → b ≡ least (mark_values (entries_in b s))
smallest s u N b (o, d, h, k, x, y) = sym (least-is b (mark_values (entries_in b s))
    (subst (λ (v : ℕ). is_in v (mark_values (entries_in b s)) ≡ true) y (value-in o (keep is_member_mark (entries_in b s)) d
    (look-kept is_member_mark o (entries_in b s) d u' (look-kept (owned b) o s.entries d u h (eq-eqb d.owner b x)) (eq-eqb d.kind 3 k))))
    (λ v q. at_least v (value-look v (keep is_member_mark (entries_in b s)) (uniq-keep is_member_mark (entries_in b s) u') q)))
  where
    u' : Uniq (entries_in b s)
    u' = uniq-keep (owned b) s.entries u

    at_least : (v : ℕ) → (o : Origin) × (d : Entry) × (look o (keep is_member_mark (entries_in b s)) ≡ some d) × (d.value ≡ v) → b ≤ v
    at_least v (o1, d1, h1, y1) =
        let p = kept-look is_member_mark o1 (entries_in b s) d1 u' h1 in
        let q = kept-look (owned b) o1 s.entries d1 u p.0 in
        let w = eqb-true d1.owner b q.1 in
        let z = N.mark-low o1 d1 q.0 (eqb-true d1.kind 3 p.1) in omega arith
