-- A commit or abort that is allowed on the cells is allowed in a list with the same cells under other ids, under the smallest of its members' ids there.
use Rattle.std.specs.Prelude.{◌≡◌, refl, Bool, true, false, cond, ◌||◌, ◌⊎◌, List, [], ◌∷◌, map, ℕ, ◌≤◌, ◌<◌, eqb}
use Rattle.std.proofs.Common.{sym, subst, ◌∙◌, inl, arith, eqb-true, eq-eqb, lt-ltb}
use Rattle.std.proofs.Math.Path.{ap}
use Rattle.std.proofs.lemmas.Bool.{false≢true}
use Rattle.std.proofs.Math.Logic.{inr}
use Rattle.std.proofs.Math.Option.{Option, none, some}
use Rattle.lists.specs.Lists.{any, is_in, keep, least}
use Rattle.lists.specs.Tests.{same_test}
use Rattle.lists.specs.Choices.{clash, and_left, and_right, and_intro}
use Rattle.lists.specs.Numbers.{is_in-head, is_in-cons, is_in-cases, least-is}
use Rattle.semantics.specs.Table.{Table}
use Rattle.semantics.specs.State.{Origin, Entry, State, is_abort_mark, is_member_mark, owned}
use Rattle.semantics.specs.Move.{to_global, is_open, entries_in, may_commit, may_abort, ended}
use Rattle.semantics.specs.Serial.{marks_in, same_origin, value_at}
use Rattle.cells.specs.Origins.{or_else, or_else-none, omap, bind_o, same-eq, is_in_o, is_in_o-head, is_in_o-cons, look, some_inj, none-some, found_at}
use Rattle.cells.specs.ByOrigin.{uniq-keep, place_found, look-any, all-look, look-kept, kept-look, origin-look, look-is_in}
use Rattle.cells.specs.Deeds.{Deed}
use Rattle.cells.specs.Cells.{apply}
use Rattle.cells.specs.Actions.{Seen, strip, left, end_action, mark_of, EndOk, may_leave, one_in}
use Rattle.cells.specs.Moves.{of_kind, look-ended, uniq-ended}
use Rattle.cells.specs.Simulation.{view-cell, Mark, left-strip, marked, marked-mark, mark-marked}
use Rattle.cells.specs.Marks.{end_live}
use Rattle.cells.specs.SmallestId.{OwnMarkAt, Named}
use Rattle.cells.specs.Rename.{rename, Live, Rel, there, back-again, live-zero}

-- a function on the origins of a list
value-of : (f : Origin → ℕ) (o : Origin) (os : List Origin) → is_in_o o os ≡ true → is_in (f o) (map f os) ≡ true
value-of f o [] h = absurd (false≢true h)
value-of f o (q ∷ os) h = go (same_origin o q) refl h (value-of f o os)
  where
    go : (b : Bool) → same_origin o q ≡ b → (b || is_in_o o os) ≡ true → (is_in_o o os ≡ true → is_in (f o) (map f os) ≡ true)
        → is_in (f o) (map f (q ∷ os)) ≡ true
    go true p w ih = subst (λ (z : Origin). is_in (f o) (f z ∷ map f os) ≡ true) (same-eq o q p) (is_in-head (f o) (map f os))
    go false p w ih = is_in-cons (f o) (f q) (map f os) (ih w)

value-from : (f : Origin → ℕ) (v : ℕ) (os : List Origin) → is_in v (map f os) ≡ true → (o : Origin) × (is_in_o o os ≡ true) × (f o ≡ v)
value-from f v [] h = absurd (false≢true h)
value-from f v (q ∷ os) h = go (value-from f v os) (is_in-cases v (f q) (map f os) h)
  where
    go : (is_in v (map f os) ≡ true → (o : Origin) × (is_in_o o os ≡ true) × (f o ≡ v)) → (v ≡ f q) ⊎ (is_in v (map f os) ≡ true)
        → (o : Origin) × (is_in_o o (q ∷ os) ≡ true) × (f o ≡ v)
    go ih (inl w) = (q, is_in_o-head q os, sym w)
    go ih (inr w) = let r = ih w in (r.0, is_in_o-cons r.0 q os r.1, r.2)

module _ (c : State) (F : Seen) (ρ : ℕ → ℕ) (rel : Rel c F ρ) (N : Named c) (a : Deed) (E : EndOk F a) where
  abbrev pub b : ℕ
  b = least a.touched

  -- its name now
  abbrev pub b' : ℕ
  b' = ρ b

  pub id-positive : b ≡ 0 → ⊥
  id-positive z = clash (one_in a.touched E.one) (rw z E.no_zero)

  pub end_mark : Mark F.cell b
  end_mark = end_live F.cell b a.picks E.es E.found E.marks E.some-mark

  pub live : Live F b
  live = inr (end_mark.0, end_mark.1, end_mark.2, end_mark.4)

  positive' : b' ≡ 0 → ⊥
  positive' z = id-positive (live-zero c F ρ rel b live z)

  -- the entries of b' are those of b
  theirs : (o : Origin) (d : Entry) → look o c.entries ≡ some d → d.owner ≡ b' → (e : Entry) × (F.cell o ≡ some e) × (e.owner ≡ b)
      × (rename ρ e ≡ strip d)
  theirs o d h w = let q = back-again c F ρ rel o d h in
      (q.0, q.1, rel.inj q.0.owner b (inr (o, q.0, q.1, refl)) live (ap (λ (x : Entry). x.owner) q.2 ∙ w), q.2)

  ours : (o : Origin) (e : Entry) → F.cell o ≡ some e → e.owner ≡ b → (d : Entry) × (look o c.entries ≡ some d) × (d.owner ≡ b') × (strip d ≡ rename ρ e)
  ours o e h w = let q = there c F ρ rel o e h in (q.0, q.1, ap (λ (x : Entry). x.owner) q.2 ∙ ap ρ w, q.2)

  pub own-there : OwnMarkAt c.entries b'
  own-there = let q = ours end_mark.0 end_mark.1 end_mark.2 end_mark.4 in
      subst (λ (v : ℕ). OwnMarkAt c.entries v) q.2 (N.own-mark end_mark.0 q.0 q.1 (λ z. positive' (sym q.2 ∙ z)))

  -- ---- the same members

  -- a mark of b' is one of the end's picks
  mark-picked : (o : Origin) (d : Entry) → look o c.entries ≡ some d → d.kind ≡ 3 → d.owner ≡ b' → is_in_o o a.picks ≡ true
  mark-picked o d h k w = let q = theirs o d h w in E.all-marks o q.0 q.1 q.2 (ap (λ (x : Entry). x.kind) q.3 ∙ k)

  picked-mark : (o : Origin) → is_in_o o a.picks ≡ true → (d : Entry) × (look o c.entries ≡ some d) × (d.kind ≡ 3) × (d.owner ≡ b')
  picked-mark o h =
      let q = found_at F.cell (mark_of b) o a.picks E.es E.found E.marks h in
      let d = ours o q.0 q.1 (eqb-true q.0.owner b (and_right (is_member_mark q.0) (owned b q.0) q.2)) in
      (d.0, d.1, ap (λ (x : Entry). x.kind) d.3 ∙ eqb-true q.0.kind 3 (and_left (is_member_mark q.0) (owned b q.0) q.2), d.2)

  pub members-same : (o : Origin) → is_in_o o (marks_in (b' ∷ []) c) ≡ is_in_o o a.picks
  members-same o = same_test (is_in_o o (marks_in (b' ∷ []) c)) (is_in_o o a.picks) forth back
    where
      forth : is_in_o o (marks_in (b' ∷ []) c) ≡ true → is_in_o o a.picks ≡ true
      forth h =
          let q = origin-look o (keep (marked b') c.entries) h in
          let k = kept-look (marked b') o c.entries q.0 rel.uniq q.1 in
          let m = marked-mark b' q.0 k.1 in
          mark-picked o q.0 k.0 (eqb-true q.0.kind 3 (and_left (is_member_mark q.0) (owned b' q.0) m))
          (eqb-true q.0.owner b' (and_right (is_member_mark q.0) (owned b' q.0) m))

      back : is_in_o o a.picks ≡ true → is_in_o o (marks_in (b' ∷ []) c) ≡ true
      back h = let d = picked-mark o h in look-is_in o (keep (marked b') c.entries) d.0
          (look-kept (marked b') o c.entries d.0 rel.uniq d.1 (mark-marked b' d.0 d.2 d.3))

  -- the smallest of the members' ids
  pub least-members : least (map (value_at c) a.members) ≡ b'
  least-members = ap (λ (l : List Origin). least (map (value_at c) l)) E.members
      ∙ least-is b' (map (value_at c) a.picks) own_in (λ v h. at_least v (value-from (value_at c) v a.picks h))
    where
      value-is : (o : Origin) (d : Entry) → look o c.entries ≡ some d → value_at c o ≡ d.value
      value-is o d h = ap (λ (x : Entry). x.value) (place_found o c.entries d h).1

      own_in : is_in b' (map (value_at c) a.picks) ≡ true
      own_in = go own-there
        where
          go : OwnMarkAt c.entries b' → is_in b' (map (value_at c) a.picks) ≡ true
          go (o, d, h, k, w, v) = subst (λ (n : ℕ). is_in n (map (value_at c) a.picks) ≡ true) (value-is o d h ∙ v)
              (value-of (value_at c) o a.picks (mark-picked o d h k w))

      at_least : (v : ℕ) → (o : Origin) × (is_in_o o a.picks ≡ true) × (value_at c o ≡ v) → b' ≤ v
      at_least v (o, h, w) = let d = picked-mark o h in let x = N.mark-low o d.0 d.1 d.2 in let y = value-is o d.0 d.1 in let z = d.3 in
          omega arith

  -- ---- allowed

  pub open-there : is_open b' c ≡ true
  open-there = and_intro (lt-ltb 0 b' (let n = positive' in omega arith)) (go own-there)
    where
      go : OwnMarkAt c.entries b' → any (owned b') c.entries ≡ true
      go (o, d, h, k, w, v) = look-any (owned b') o c.entries d h (eq-eqb d.owner b' w)

  pub may-commit : (t : Table) → ((o : Origin) (e : Entry) → F.cell o ≡ some e → e.owner ≡ b → may_leave t e ≡ true) → may_commit t b' c ≡ true
  may-commit t h = all-look (may_leave t) (entries_in b' c) (uniq-keep (owned b') c.entries rel.uniq)
      (λ o d f. let k = kept-look (owned b') o c.entries d rel.uniq f in let q = theirs o d k.0 (eqb-true d.owner b' k.1) in
      subst (λ (x : Entry). may_leave t x ≡ true) q.3 (h o q.0 q.1 q.2))

  pub may-abort : (o : Origin) × (e : Entry) × (F.cell o ≡ some e) × (e.owner ≡ b) × (is_abort_mark e ≡ true) → may_abort b' c ≡ true
  may-abort (o, e, f, w, s) = let q = ours o e f w in
      look-any is_abort_mark o (entries_in b' c) q.0 (look-kept (owned b') o c.entries q.0 rel.uniq q.1 (eq-eqb q.0.owner b' q.2))
      (subst (λ (x : Entry). is_abort_mark x ≡ true) (sym q.3) s)

  -- ---- the cells afterwards

  module _ (k : ℕ) (kl : k < 2) where
    left-rename : (x : Option Entry) → ((e : Entry) → x ≡ some e → Live F e.owner)
        → bind_o (left k b') (omap (rename ρ) x) ≡ omap (rename ρ) (bind_o (left k b) x)
    left-rename none l = refl
    left-rename (some e) l = rw test (go (owned b e) (eqb e.kind k))
      where
        test : eqb (ρ e.owner) b' ≡ eqb e.owner b
        test = same_test (eqb (ρ e.owner) b') (eqb e.owner b)
            (λ q. eq-eqb e.owner b (rel.inj e.owner b (l e refl) live (eqb-true (ρ e.owner) b' q)))
            (λ q. eq-eqb (ρ e.owner) b' (ap ρ (eqb-true e.owner b q)))

        go : (x y : Bool) → cond x (cond y (some (to_global (rename ρ e))) none) (some (rename ρ e)) ≡ omap (rename ρ)
            (cond x (cond y (some (to_global e)) none) (some e))
        go true true = λ j. some (record { origin = e.origin; owner = sym rel.zero_is j; kind = 0; port = e.port; value = e.value })
        go true false = refl
        go false y = refl

    abbrev pub afterwards : Seen
    afterwards = record { next = F.next; cell = apply F.cell (end_action k a.touched) }

    still-live : (v : ℕ) → Live afterwards v → Live F v
    still-live v (inl z) = inl z
    still-live v (inr (o, e, h, w)) = go (F.cell o) refl h
      where
        two : (d : Entry) → F.cell o ≡ some d → (x y : Bool) → or_else (cond x (cond y (some (to_global d)) none) (some d)) none ≡ some e → Live F v
        two d p true true q = inl (sym w ∙ ap (λ (x : Entry). x.owner) (sym (some_inj q)))
        two d p true false q = absurd (none-some q)
        two d p false y q = inr (o, d, p, ap (λ (x : Entry). x.owner) (some_inj q) ∙ w)

        go : (x : Option Entry) → F.cell o ≡ x → or_else (bind_o (left k b) x) none ≡ some e → Live F v
        go none p q = absurd (none-some q)
        go (some d) p q = two d p (owned b d) (eqb d.kind k) q

    pub rel-end : Rel (ended (of_kind k) b' c) afterwards ρ
    unfolding ended
    rel-end = record {
      uniq = uniq-ended k b' c rel.uniq;
      next-is = rel.next-is;
      cells = λ o. view-cell (ended (of_kind k) b' c) o ∙ ap (omap strip) (look-ended k b' c rel.uniq o) ∙ left-strip k b' kl (look o c.entries)
          ∙ ap (bind_o (left k b')) (sym (view-cell c o) ∙ rel.cells o) ∙ left-rename (F.cell o) (λ e h. inr (o, e, h, refl))
          ∙ ap (omap (rename ρ)) (sym (or_else-none (bind_o (left k b) (F.cell o))));
      zero_is = rel.zero_is;
      pos = rel.pos;
      inj = λ v w l m h. rel.inj v w (still-live v l) (still-live w m) h;
      below = λ v l. rel.below v (still-live v l);
    }
