-- A reaction that is allowed on the cells is allowed in a list with the same cells under other ids, on the entries of the same origins; and its
-- transaction has a new name.
use Rattle.std.specs.Prelude.{◌≡◌, refl, Bool, true, cond, not, ◌||◌, ◌⊎◌, List, [], ◌∷◌, map, ℕ, suc, ◌<◌, eqb, ltb, length}
use Rattle.std.proofs.Common.{sym, subst, ◌∙◌, inl, arith}
use Rattle.std.proofs.Math.Path.{ap}
use Rattle.std.proofs.Math.Bool.{false}
use Rattle.std.proofs.lemmas.Bool.{false≢true}
use Rattle.std.proofs.Math.Logic.{inr}
use Rattle.std.proofs.Math.Option.{Option, none, some}
use borrow.Author.Tests.{eqb-true, eqb-false, eq-eqb, ne_eqb}
use Rattle.lists.specs.Lists.{all, is_in, least}
use Rattle.lists.specs.Choices.{by_bool, clash, is_false}
use Rattle.lists.specs.Numbers.{all-is_in, least-in, least-some, least-pos, is_in-map, is_in-unmap}
use Rattle.lists.specs.Each.{All}
use Rattle.semantics.specs.Table.{Table, Rule, rule_at, consumed, product_atoms, begins}
use Rattle.semantics.specs.State.{Origin, Entry, State}
use Rattle.semantics.specs.Move.{react, picked, on_ports, owners_at, owners_fit, takes_part, merged, reacted}
use Rattle.semantics.specs.Serial.{origins_of, members_of}
use Rattle.wellformed.specs.Picks.{ReactGiven}
use Rattle.cells.specs.Origins.{or_else, omap, bind_o, is_in_o, distinct_o, look, none-some, is_none}
use Rattle.cells.specs.ByOrigin.{look-map, ports-messages, picks-distinct}
use Rattle.cells.specs.Rules.{Shape, plain, begin, inner, Shaped, owners, values, zeros, global-fit}
use Rattle.cells.specs.Rules.{touched_by, touched-plain, touched-begin, touched-inner, touched-merge, make}
use Rattle.cells.specs.Deeds.{Deed, with_move}
use Rattle.cells.specs.Cells.{apply, apply-inv}
use Rattle.cells.specs.Actions.{Seen, strip, received, react_action, action_by, later, Tests, mark_in, Ok}
use Rattle.cells.specs.Commute.{values-found}
use Rattle.cells.specs.Moves.{products_of, look-reacted, uniq-reacted}
use Rattle.cells.specs.Simulation.{view, view-cell, cell-eq, mark-nowhere, marks-listed, cells-part}
use Rattle.cells.specs.Marks.{From, came, owner-live}
use Rattle.cells.specs.Steps.{later-le}
use Rattle.cells.specs.Rename.{rename, Live, Rel, ports-rename, owners-rename, values-rename, fit-rename, make-rename, cell-rename, back-again, now_at, picked-again, live-zero}

abbrev upd : (ℕ → ℕ) → ℕ → ℕ → ℕ → ℕ
upd ρ b n v = cond (eqb v b) n (ρ v)

upd-at : (ρ : ℕ → ℕ) (b n : ℕ) → upd ρ b n b ≡ n
upd-at ρ b n = rw (eq-eqb b b refl)

upd-off : (ρ : ℕ → ℕ) (b n v : ℕ) → (v ≡ b → ⊥) → upd ρ b n v ≡ ρ v
upd-off ρ b n v h = rw (ne_eqb v b h)

module _ (t : Table) (sd : Shaped t) (c : State) (F : Seen) (ρ : ℕ → ℕ) (rel : Rel c F ρ) (a : Deed) (r : ℕ) (ps : List ℕ)
    (K : Ok t F (with_move a (react r ps))) where
  abbrev pub es : List Entry
  es = K.es

  pub T : Tests t a es (react r ps)
  T = K.tests

  abbrev pub R : Rule
  R = rule_at t r

  abbrev pub bs : List ℕ
  bs = a.touched

  abbrev pub qs : List ℕ
  qs = now_at c F ρ rel a.picks

  -- the owners of the picks, and the transactions touched, by their new names
  abbrev os' : List ℕ
  os' = owners_at c qs

  abbrev bs' : List ℕ
  bs' = touched_by R c.next os'

  pub seen-again : (picked c qs ≡ map (rename ρ) es) × (origins_of (picked c qs) ≡ a.picks) × All (λ p. p < length c.entries) qs
  seen-again = picked-again c F ρ rel a.picks es K.found (ports-messages (consumed R) es T.0)

  fresh-c : (o : Origin) → o.maker ≡ suc a.place → look o c.entries ≡ none
  fresh-c o h = is_none (look o c.entries) (λ d q. let w = back-again c F ρ rel o d q in none-some (sym (K.fresh o h) ∙ w.1))

  owner_of : (v : ℕ) → is_in v (owners es) ≡ true → Live F v
  owner_of v h = inr (owner-live F.cell v a.picks es K.found h)

  owners-c : os' ≡ map ρ (owners es)
  owners-c = ap owners seen-again.0 ∙ owners-rename ρ es

  fit-c : owners_fit R.class os' ≡ true
  fit-c = ap (owners_fit R.class) owners-c ∙ fit-rename ρ R.class (owners es) rel.zero_is (λ v q x. live-zero c F ρ rel v (owner_of v q) x) T.1

  -- the new name
  abbrev pub ρ' : ℕ → ℕ
  ρ' = upd ρ (least bs) (least bs')

  -- ---- by the sort of the rule

  bs-plain : R.class ≡ 0 → begins R ≡ false → bs ≡ []
  bs-plain c b = T.2 ∙ touched-plain R (least bs) (owners es) c b

  bs-begin : begins R ≡ true → bs ≡ least bs ∷ []
  bs-begin b = T.2 ∙ touched-begin R (least bs) (owners es) b

  bs-inner : eqb R.class 0 ≡ false → begins R ≡ false → bs ≡ owners es
  bs-inner c b = T.2 ∙ touched-inner R (least bs) (owners es) c b

  bs'-inner : eqb R.class 0 ≡ false → begins R ≡ false → bs' ≡ map ρ bs
  bs'-inner z b = touched-inner R c.next os' z b ∙ owners-c ∙ ap (map ρ) (sym (bs-inner z b))

  -- no transaction keeps none
  none-none : bs ≡ [] → least bs' ≡ 0
  none-none q = go (sd r)
    where
      go : Shape R → least bs' ≡ 0
      go (plain z b h) = ap least (touched-plain R c.next os' z b)
      go (begin z b h m rest x w k) = absurd (let n : ◌≡◌ {A = List ℕ} [] (least bs ∷ []) = sym q ∙ bs-begin b in let z : ◌≡◌ {A = ℕ} 0 1 = cc in omega arith)
      go (inner z b h k) = ap least (bs'-inner z b) ∙ ap (λ (l : List ℕ). least (map ρ l)) q

  old-name : (v : ℕ) → is_in v bs ≡ false → ρ' v ≡ ρ v
  old-name v h = go bs refl
    where
      go : (l : List ℕ) → bs ≡ l → ρ' v ≡ ρ v
      go (b ∷ l) w = upd-off ρ (least bs) (least bs') v (λ x. clash (subst (λ (y : List ℕ). is_in (least y) y ≡ true) (sym w) (least-in b l)) (rw x at h))
      go [] w = by_bool (eqb v (least bs))
          (λ x. let y : v ≡ 0 = eqb-true v (least bs) x ∙ ap least w in rw x (none-none w ∙ sym rel.zero_is ∙ ap ρ (sym y)))
          (λ x. rw x)

  new-name : ρ' (least bs) ≡ least bs'
  new-name = upd-at ρ (least bs) (least bs')

  -- the name of an owner that is there is touched as the owner is
  touched-same : (o : Origin) (e : Entry) → F.cell o ≡ some e → is_in (ρ e.owner) bs' ≡ is_in e.owner bs
  touched-same o e h = go (sd r)
    where
      v : ℕ
      v = e.owner

      live : Live F v
      live = inr (o, e, h, refl)

      other : is_in v bs ≡ false → (u : ℕ) × (is_in u bs ≡ true) × (ρ u ≡ ρ v) → bs ≡ owners es → ⊥
      other x (u, i, q) w = clash (subst (λ (k : ℕ). is_in k bs ≡ true) (rel.inj u v (owner_of u (subst (λ (m : List ℕ). is_in u m ≡ true) w i)) live q) i) x

      go : Shape R → is_in (ρ v) bs' ≡ is_in v bs
      go (plain z b n) = ap (is_in (ρ v)) (touched-plain R c.next os' z b) ∙ sym (ap (is_in v) (bs-plain z b))
      go (begin z b n m rest q w k) = ap (is_in (ρ v)) (touched-begin R c.next os' b)
          ∙ rw (ne_eqb (ρ v) c.next (λ x. let y = rel.below v live in let w = rel.next-is in omega arith)) (sym (K.unused b o e h))
      go (inner z b n k) = ap (is_in (ρ v)) (bs'-inner z b) ∙ by_bool (is_in v bs)
          (λ x. is_in-map ρ v bs x ∙ sym x)
          (λ x. is_false (is_in (ρ v) (map ρ bs)) (λ y. other x (is_in-unmap ρ (ρ v) bs y) (bs-inner z b)) ∙ sym x)

  -- ---- the members, and abort marks

  mark-named : (kind : ℕ) (o : Origin) → mark_in kind bs' (omap (rename ρ) (F.cell o)) ≡ mark_in kind bs (F.cell o)
  mark-named kind o = go (F.cell o) refl
    where
      go : (x : Option Entry) → F.cell o ≡ x → mark_in kind bs' (omap (rename ρ) x) ≡ mark_in kind bs x
      go none h = refl
      go (some e) h = rw (touched-same o e h)

  -- made in the same members
  pub members-again : begins R ≡ false → (o : Origin) → is_in_o o (members_of t a.place c (react r qs)) ≡ is_in_o o a.members
  members-again bare o = members ∙ ap (mark_in 3 bs') (rel.cells o) ∙ mark-named 3 o ∙ (K.inside bare o).0
    where
      members : is_in_o o (members_of t a.place c (react r qs)) ≡ mark_in 3 bs' ((view c).cell o)
      members = go (sd r)
        where
          go : Shape R → is_in_o o (members_of t a.place c (react r qs)) ≡ mark_in 3 bs' ((view c).cell o)
          go (plain z b h) = rw (z, b) (sym (mark-nowhere 3 ((view c).cell o)))
          go (begin z b h m rest x w k) = absurd (clash b bare)
          go (inner z b h k) = rw (z, b) (sym (marks-listed os' c rel.uniq o))

  -- ---- allowed

  -- and none of them has an abort mark
  part-again : all (takes_part c) os' ≡ true
  part-again = go (sd r)
    where
      global : R.class ≡ 0 → all (takes_part c) os' ≡ true
      global z = all-is_in (takes_part c) os' (λ v i. rw (eq-eqb v 0 (zeros os' (global-fit R os' z fit-c) v i)))

      go : Shape R → all (takes_part c) os' ≡ true
      go (plain z b h) = global z
      go (begin z b h m rest x w k) = global z
      go (inner z b h k) = cells-part os' c rel.uniq (λ o.
          sym (ap (λ (l : List ℕ). mark_in 2 l ((view c).cell o)) (touched-inner R c.next os' z b))
          ∙ ap (mark_in 2 bs') (rel.cells o) ∙ mark-named 2 o ∙ (K.inside b o).1)

  pub passes : ReactGiven R c qs
  passes = record {
    different = picks-distinct c.entries qs rel.uniq seen-again.2 ∙ ap distinct_o seen-again.1 ∙ T.3;
    ports = ap (on_ports (consumed R)) seen-again.0 ∙ ports-rename ρ (consumed R) es ∙ T.0;
    owners = fit-c;
    part = part-again;
    ids = ap (λ (n : ℕ). not (begins R) || ltb n 65536) rel.next-is ∙ K.roomy;
  }

  -- ---- the cells afterwards

  kept_entry : (o : Origin) (e : Entry) → F.cell o ≡ some e → merged os' (rename ρ e) ≡ rename ρ' (merged bs e)
  kept_entry o e h = touched-merge R c.next os' (sd r) fit-c (rename ρ e)
      ∙ (λ j. record { origin = e.origin; owner = own_eq j; kind = e.kind; port = e.port; value = e.value })
    where
      own_eq : cond (is_in (ρ e.owner) bs') (least bs') (ρ e.owner) ≡ ρ' (cond (is_in e.owner bs) (least bs) e.owner)
      own_eq = ap (λ (b : Bool). cond b (least bs') (ρ e.owner)) (touched-same o e h)
          ∙ by_bool (is_in e.owner bs) (λ x. rw x (sym new-name)) (λ x. rw x (sym (old-name e.owner x)))

  abbrev pub vs : List ℕ
  vs = received F a

  made-entries : map strip (products_of R (suc a.place) c qs) ≡ map (rename ρ') (map strip (make (suc a.place) (least bs) vs 0 (product_atoms R)))
  made-entries =
      (λ j. map strip (make (suc a.place) (sym new-name j)
      ((ap values seen-again.0 ∙ values-rename ρ es ∙ sym (values-found F.cell a.picks es K.found)) j) 0 (product_atoms R)))
      ∙ make-rename ρ' (suc a.place) (least bs) vs 0 (product_atoms R)

  abbrev pub action : Origin → Option Entry
  action = apply F.cell (react_action R a.place a.picks bs vs)

  cells-after : (o : Origin) → (view (reacted R (suc a.place) c qs)).cell o ≡ omap (rename ρ') (action o)
  cells-after o =
      view-cell (reacted R (suc a.place) c qs) o
      ∙ ap (omap strip) (look-reacted R (sd r) (suc a.place) c qs fit-c rel.uniq seen-again.2 fresh-c o)
      ∙ cell-eq (is_in_o o (origins_of (picked c qs))) (look o c.entries) (look o (products_of R (suc a.place) c qs)) (merged os') (merged os') (λ e. refl)
      ∙ (λ j. or_else (cond (is_in_o o (seen-again.1 j)) none (bind_o (λ e. some (merged os' e)) (there-is j))) (made-is j))
      ∙ cell-rename (is_in_o o a.picks) (F.cell o) (look o (map strip (make (suc a.place) (least bs) vs 0 (product_atoms R)))) ρ (merged os') (merged bs)
      (rename ρ')
      (λ e h. kept_entry o e h)
    where
      there-is : omap strip (look o c.entries) ≡ omap (rename ρ) (F.cell o)
      there-is = sym (view-cell c o) ∙ rel.cells o

      made-is : omap strip (look o (products_of R (suc a.place) c qs)) ≡ omap (rename ρ')
          (look o (map strip (make (suc a.place) (least bs) vs 0 (product_atoms R))))
      made-is = sym (look-map strip (λ e. refl) o (products_of R (suc a.place) c qs)) ∙ ap (look o) made-entries
          ∙ look-map (rename ρ') (λ e. refl) o (map strip (make (suc a.place) (least bs) vs 0 (product_atoms R)))

  -- ---- the owners afterwards

  abbrev Now : ℕ → Type 0
  Now v = ((v ≡ least bs) × (is_in (least bs) bs ≡ true)) ⊎ (Live F v × (is_in v bs ≡ false))

  now_of : (v : ℕ) (o : Origin) → From F.cell bs false o v → (v ≡ 0 → ⊥) → Now v
  now_of v o (inl (d, h, q, x)) n = by_bool (is_in d.owner bs)
      (λ y. let w : v ≡ least bs = q ∙ rw y in inl (w, least-pos bs (λ z. n (w ∙ z))))
      (λ y. let w : v ≡ d.owner = q ∙ rw y in inr (inr (o, d, h, sym w), rw w y))
  now_of v o (inr (q, x)) n = inl (q, least-pos bs (λ z. n (q ∙ z)))

  -- the name that merged transactions get is that of one of them
  one_of : bs ≡ owners es → is_in (least bs) bs ≡ true → (u : ℕ) × Live F u × (is_in u bs ≡ true) × (ρ u ≡ least (map ρ bs))
  one_of q i = go (is_in-unmap ρ (least (map ρ bs)) bs (least-some (ρ (least bs)) (map ρ bs) (is_in-map ρ (least bs) bs i)))
    where
      go : (u : ℕ) × (is_in u bs ≡ true) × (ρ u ≡ least (map ρ bs)) → (u : ℕ) × Live F u × (is_in u bs ≡ true) × (ρ u ≡ least (map ρ bs))
      go (u, x, y) = (u, owner_of u (subst (λ (l : List ℕ). is_in u l ≡ true) q x), x, y)

  new_apart : is_in (least bs) bs ≡ true → (v : ℕ) → Live F v → is_in v bs ≡ false → least bs' ≡ ρ v → ⊥
  new_apart i v l n h = go (sd r)
    where
      go : Shape R → ⊥
      go (plain z b x) = false≢true (rw (bs-plain z b) at i)
      go (begin z b x m rest q w k) = let y : c.next ≡ ρ v = sym (ap least (touched-begin R c.next os' b)) ∙ h in let w = rel.below v l in
          let x = rel.next-is in omega arith
      go (inner z b x k) = let u = one_of (bs-inner z b) i in clash
          (subst (λ (k : ℕ). is_in k bs ≡ true) (rel.inj u.0 v u.1 l (u.3 ∙ sym (ap least (bs'-inner z b)) ∙ h)) u.2) n

  new-below : is_in (least bs) bs ≡ true → least bs' < later (begins R) F.next
  new-below i = go (sd r)
    where
      go : Shape R → least bs' < later (begins R) F.next
      go (plain z b x) = absurd (false≢true (rw (bs-plain z b) at i))
      go (begin z b x m rest q w k) = let y : least bs' ≡ c.next = ap least (touched-begin R c.next os' b) in let w = rel.next-is in
          let x : later (begins R) F.next ≡ suc F.next = ap (λ (b : Bool). later b F.next) b in omega arith
      go (inner z b x k) = let u = one_of (bs-inner z b) i in let w = rel.below u.0 u.1 in let y : least bs' ≡ ρ u.0 = ap least (bs'-inner z b)
          ∙ sym u.3 in
          let x = later-le (begins R) F.next in omega arith

  now-inj : (v w : ℕ) → Now v → Now w → ρ' v ≡ ρ' w → v ≡ w
  now-inj v w (inl p) (inl q) h = p.0 ∙ sym q.0
  now-inj v w (inl p) (inr q) h = absurd (new_apart p.1 w q.0 q.1 (sym new-name ∙ ap ρ' (sym p.0) ∙ h ∙ old-name w q.1))
  now-inj v w (inr p) (inl q) h = absurd (new_apart q.1 v p.0 p.1 (sym new-name ∙ ap ρ' (sym q.0) ∙ sym h ∙ old-name v p.1))
  now-inj v w (inr p) (inr q) h = rel.inj v w p.0 q.0 (sym (old-name v p.1) ∙ h ∙ old-name w q.1)

  now-below : (v : ℕ) → Now v → ρ' v < later (begins R) F.next
  now-below v (inl p) = subst (λ (x : ℕ). x < later (begins R) F.next) (sym (ap ρ' p.0 ∙ new-name)) (new-below p.1)
  now-below v (inr p) = let w = rel.below v p.0 in let x = later-le (begins R) F.next in subst (λ (z : ℕ). z < later (begins R) F.next)
      (sym (old-name v p.1)) (omega arith)

  abbrev pub afterwards : Seen
  afterwards = record { next = later (begins R) F.next; cell = action }

  now-live : (v : ℕ) → Live afterwards v → Now v
  unfolding action_by
  now-live v (inl z) = inr (inl z, rw z K.no_zero)
  now-live v (inr (o, e, h, w)) = by_bool (eqb v 0)
      (λ z. let x = eqb-true v 0 z in inr (inl x, rw x K.no_zero))
      (λ z. let n = eqb-false v 0 z in now_of v o (subst (λ (x : ℕ). From F.cell bs false o x) w
      (came t F.cell a es vs (react r ps) T o e (apply-inv F.cell (react_action R a.place a.picks bs vs) o e h) (λ x. n (sym w ∙ x)))) n)

  pub rel-react : Rel (reacted R (suc a.place) c qs) afterwards ρ'
  unfolding reacted
  rel-react = record {
    uniq = uniq-reacted R (sd r) (suc a.place) c qs fit-c rel.uniq seen-again.2 fresh-c;
    next-is = ap (later (begins R)) rel.next-is;
    cells = cells-after;
    zero_is = old-name 0 K.no_zero ∙ rel.zero_is;
    pos = let x = later-le (begins R) F.next in let y = rel.pos in omega arith;
    inj = λ v w l m h. now-inj v w (now-live v l) (now-live w m) h;
    below = λ v l. now-below v (now-live v l);
  }
