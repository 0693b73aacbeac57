-- An allowed move of a log is allowed on the state's cells, and leaves the cells that it leaves.
use Rattle.std.specs.Prelude.{◌≡◌, Bool, false, cond, not, ◌&&◌, ℕ, suc, ◌≤◌, ◌<◌, eqb, ltb, length}
use Rattle.std.proofs.Math.Path.{refl, sym, ap, subst, fun_ext}
use Rattle.std.proofs.Common.{◌∙◌, arith}
use Rattle.std.proofs.Math.Bool.{true}
use Rattle.std.proofs.lemmas.Bool.{false≢true}
use Rattle.std.proofs.Math.Option.{Option, none, some}
use mathlib.Core.List.{List, [], ◌∷◌, map}
use borrow.Author.Tests.{eqb-true, eq-eqb, ne_eqb, ltb-true}
use Rattle.lists.specs.Lists.{all, any, is_empty, is_in, keep, least}
use Rattle.lists.specs.Tests.{same_test, or-right-true}
use Rattle.lists.specs.Choices.{clash, is_false, and_left, and_right, and_intro}
use Rattle.lists.specs.Numbers.{is_in-head, is_in-cons, is_in-one, all-use, all-is_in}
use Rattle.lists.specs.Each.{All, All-map, All-keep, all-kept}
use Rattle.semantics.specs.Table.{Table, Rule, rule_at, consumed, product_atoms, begins}
use Rattle.semantics.specs.State.{Origin, Entry, State, is_message, is_abort_mark, is_member_mark, owned}
use Rattle.semantics.specs.Move.{Move, react, commit, abort, is_zero, entry_at, picked, on_ports, owners_fit, takes_part, merged, reacted, to_global}
use Rattle.semantics.specs.Move.{is_open, entries_in, may_commit, may_abort, ended, allowed, applied}
use Rattle.semantics.specs.Serial.{origins_of, marks_in, members_of}
use Rattle.semantics.specs.declared.Verdict.TheVariants.{Allowed}
use Rattle.wellformed.specs.Picks.{ReactGiven}
use Rattle.cells.specs.Origins.{or_else, or_else-none, omap, bind_o, is_in_o, look, none-some, look-all, is_none, omap-some}
use Rattle.cells.specs.ByOrigin.{look-map, Uniq, look-head, look-deeper, look_at, uniq-keep, ports-head, ports-tail, ports-messages, ports-range, picks-distinct, any-look}
use Rattle.cells.specs.ByOrigin.{look-any, look-kept, kept-look, origin-look, look-is_in}
use Rattle.cells.specs.Rules.{Shape, plain, begin, inner, Shaped, owners, values, touched_by, global-fit, touched-begin, touched-inner, touched-least, touched-positive, touched-merge, make}
use Rattle.cells.specs.Deeds.{touched, handled, deed_at}
use Rattle.cells.specs.Cells.{Cells, apply, mine}
use Rattle.cells.specs.Actions.{StepOk, Seen, strip, cell_value, left, end_action, action_by, astep, mark_of, AllMarks, may_leave, mark_in, Inside, Ok, mine-in}
use Rattle.cells.specs.Actions.{mine-zero, later}
use Rattle.cells.specs.Commute.{values-found}
use Rattle.cells.specs.Moves.{products_of, look-reacted, uniq-reacted, of_kind, look-ended, uniq-ended, react-passes, commit-passes, abort-passes}

unfoldable pub view : State → Seen
view s = record { next = s.next; cell = λ o. look o (map strip s.entries) }

pub strip-message : (e : Entry) → is_message e ≡ true → strip e ≡ e
strip-message e h = λ j. record { origin = e.origin; owner = e.owner; kind = e.kind; port = e.port; value = go j }
  where
    go : cond (eqb e.kind 3) 0 e.value ≡ e.value
    go = rw (eqb-true e.kind 0 h)

pub view-cell : (s : State) (o : Origin) → (view s).cell o ≡ omap strip (look o s.entries)
unfolding view
view-cell s o = look-map strip (λ e. refl) o s.entries

-- an entry seen in the view is one of the state's
pub view-some : (s : State) (o : Origin) (e : Entry) → (view s).cell o ≡ some e → (d : Entry) × (look o s.entries ≡ some d) × (strip d ≡ e)
view-some s o e h = omap-some strip (look o s.entries) e (sym (view-cell s o) ∙ h)

pub view-look : (s : State) (o : Origin) (d : Entry) → look o s.entries ≡ some d → (view s).cell o ≡ some (strip d)
view-look s o d h = view-cell s o ∙ ap (omap strip) h

-- a member mark in the transaction v
abbrev pub Mark : Cells → ℕ → Type 0
Mark f v = (o : Origin) × (e : Entry) × (f o ≡ some e) × (e.kind ≡ 3) × (e.owner ≡ v)

-- what every state of a log keeps, before the move at place i
pub record Good (i : ℕ) (F : Seen) : Type 0 where
  pub pos : 1 ≤ F.next
  pub makers : (o : Origin) (e : Entry) → F.cell o ≡ some e → o.maker ≤ i
  pub below : (o : Origin) (e : Entry) → F.cell o ≡ some e → e.owner < F.next
  pub marks : (o : Origin) (e : Entry) → F.cell o ≡ some e → (e.owner ≡ 0 → ⊥) → Mark F.cell e.owner

pub record Sim (t : Table) (i k : ℕ) (s : State) (m : Move) : Type 0 where
  pub step : StepOk t i (view s) (deed_at t i k s m)
  pub same-cells : view (applied t (suc i) s m) ≡ astep t (view s) (deed_at t i k s m)
  pub uniq : Uniq (applied t (suc i) s m).entries

-- ---- reactions

mark-strip : (kind : ℕ) (bs : List ℕ) (x : Option Entry) → mark_in kind bs (omap strip x) ≡ mark_in kind bs x
mark-strip kind bs none = refl
mark-strip kind bs (some e) = refl

pub mark-nowhere : (kind : ℕ) (x : Option Entry) → mark_in kind [] x ≡ false
mark-nowhere kind none = refl
mark-nowhere kind (some e) = refl

-- the member marks of some transactions, listed
pub marks-listed : (bs : List ℕ) (s : State) → Uniq s.entries → (o : Origin) → mark_in 3 bs ((view s).cell o) ≡ is_in_o o (marks_in bs s)
marks-listed bs s u o =
    ap (mark_in 3 bs) (view-cell s o) ∙ mark-strip 3 bs (look o s.entries) ∙ same_test (mark_in 3 bs (look o s.entries)) (is_in_o o (marks_in bs s)) forth back
  where
    p : Entry → Bool
    p e = is_member_mark e && is_in e.owner bs

    there : (x : Option Entry) → look o s.entries ≡ x → mark_in 3 bs x ≡ true → is_in_o o (marks_in bs s) ≡ true
    there none w h = absurd (false≢true h)
    there (some e) w h =
        look-is_in o (keep p s.entries) e (look-kept p o s.entries e u w
        (and_intro (and_right (is_in e.owner bs) (is_member_mark e) h) (and_left (is_in e.owner bs) (is_member_mark e) h)))

    forth : mark_in 3 bs (look o s.entries) ≡ true → is_in_o o (marks_in bs s) ≡ true
    forth h = there (look o s.entries) refl h

    back : is_in_o o (marks_in bs s) ≡ true → mark_in 3 bs (look o s.entries) ≡ true
    back h =
        let q = origin-look o (keep p s.entries) h in
        let k = kept-look p o s.entries q.0 u q.1 in
        rw k.0 (and_intro (and_right (is_member_mark q.0) (is_in q.0.owner bs) k.1) (and_left (is_member_mark q.0) (is_in q.0.owner bs) k.1))

-- 18 on cells: no cell holds an abort mark of these transactions
pub part-cells : (bs : List ℕ) (s : State) → Uniq s.entries → is_in 0 bs ≡ false → all (takes_part s) bs ≡ true → (o : Origin)
    → mark_in 2 bs ((view s).cell o) ≡ false
part-cells bs s u n h o = ap (mark_in 2 bs) (view-cell s o) ∙ mark-strip 2 bs (look o s.entries) ∙ go (look o s.entries) refl
  where
    marked-no : (e : Entry) → look o s.entries ≡ some e → is_in e.owner bs ≡ true → is_abort_mark e ≡ true → ⊥
    marked-no e w i m =
        let b = e.owner in
        let z : is_zero b ≡ false = ne_eqb b 0 (λ q. clash i (rw q n)) in
        let k : may_abort b s ≡ true = look-any is_abort_mark o (entries_in b s) e (look-kept (owned b) o s.entries e u w (eq-eqb b b refl)) m in
        false≢true (sym (rw (z, k)) ∙ all-use (takes_part s) bs b h i)

    go : (x : Option Entry) → look o s.entries ≡ x → mark_in 2 bs x ≡ false
    go none w = refl
    go (some e) w = is_false (mark_in 2 bs (some e))
        (λ m. marked-no e w (and_left (is_in e.owner bs) (is_abort_mark e) m) (and_right (is_in e.owner bs) (is_abort_mark e) m))

-- .. and back
pub cells-part : (bs : List ℕ) (s : State) → Uniq s.entries → ((o : Origin) → mark_in 2 bs ((view s).cell o) ≡ false) → all (takes_part s) bs ≡ true
cells-part bs s u h = all-is_in (takes_part s) bs (λ v i. or-right-true (is_zero v) (ap not (is_false (may_abort v s) (marked-no v i))))
  where
    marked-no : (v : ℕ) → is_in v bs ≡ true → may_abort v s ≡ true → ⊥
    marked-no v i m =
        let q = any-look is_abort_mark (entries_in v s) (uniq-keep (owned v) s.entries u) m in
        let k = kept-look (owned v) q.0 s.entries q.1 u q.2 in
        let j : is_in q.1.owner bs ≡ true = rw (eqb-true q.1.owner v k.1) i in
        clash (and_intro j q.3) (sym (ap (mark_in 2 bs) (view-look s q.0 q.1 k.0)) ∙ h q.0)

pub view-found : (ts : List ℕ) (l : List Entry) (ps : List ℕ) → Uniq l → on_ports ts (map (entry_at l) ps) ≡ true
    → map (λ o. look o (map strip l)) (origins_of (map (entry_at l) ps)) ≡ map some (map (entry_at l) ps)
view-found [] l [] u h = refl
view-found [] l (p ∷ ps) u h = absurd (false≢true h)
view-found (t ∷ ts) l [] u h = refl
view-found (t ∷ ts) l (p ∷ ps) u h =
    cons-eq (look-map strip (λ e. refl) (entry_at l p).origin l
    ∙ ap (omap strip) (look_at l p u (ports-range l (p ∷ ps) (ports-messages (t ∷ ts) (map (entry_at l) (p ∷ ps)) h)).0)
    ∙ ap {B = Option Entry} some (strip-message (entry_at l p) (ports-head t ts (entry_at l p) (map (entry_at l) ps) h)))
    (view-found ts l ps u (ports-tail t ts (entry_at l p) (map (entry_at l) ps) h))
  where
    cons-eq : {x y : Option Entry} {xs ys : List (Option Entry)} → x ≡ y → xs ≡ ys → Path (List (Option Entry)) (x ∷ xs) (y ∷ ys)
    cons-eq p q = λ i. p i ∷ q i

pub all-zero : (bs : List ℕ) (es : List Entry) → all is_zero (owners es) ≡ true → all (mine bs) es ≡ true
all-zero bs [] h = refl
all-zero bs (e ∷ es) h = and_intro (mine-zero bs e (eqb-true e.owner 0 (and_left (eqb e.owner 0) (all is_zero (owners es)) h)))
    (all-zero bs es (and_right (eqb e.owner 0) (all is_zero (owners es)) h))

pub all_in : (bs : List ℕ) (es : List Entry) → ((v : ℕ) → is_in v (owners es) ≡ true → is_in v bs ≡ true) → all (mine bs) es ≡ true
all_in bs [] h = refl
all_in bs (e ∷ es) h = and_intro (mine-in bs e (h e.owner (is_in-head e.owner (owners es))))
    (all_in bs es (λ v k. h v (is_in-cons v e.owner (owners es) k)))

pub own-react : (R : Rule) → Shape R → (n : ℕ) (es : List Entry) → owners_fit R.class (owners es) ≡ true → all (mine (touched_by R n (owners es))) es ≡ true
own-react R (plain c b h) n es fit = all-zero (touched_by R n (owners es)) es (global-fit R (owners es) c fit)
own-react R (begin c b h m rest q w k) n es fit = all-zero (touched_by R n (owners es)) es (global-fit R (owners es) c fit)
own-react R (inner c b h k) n es fit = all_in (touched_by R n (owners es)) es
    (λ v z. subst (λ (l : List ℕ). is_in v l ≡ true) (sym (touched-inner R n (owners es) c b)) z)

pub unused-react : (R : Rule) (n v : ℕ) (os : List ℕ) → begins R ≡ true → v < n → is_in v (touched_by R n os) ≡ false
unused-react R n v os b k = rw (touched-begin R n os b, ne_eqb v n (λ q. omega arith))

pub cell-eq : (b : Bool) (x y : Option Entry) (g h : Entry → Entry) → ((e : Entry) → strip (g e) ≡ h (strip e))
    → omap strip (or_else (cond b none (omap g x)) y) ≡ or_else (cond b none (bind_o (λ e. some (h e)) (omap strip x))) (omap strip y)
cell-eq true x none g h p = refl
cell-eq true x (some e) g h p = refl
cell-eq false none none g h p = refl
cell-eq false none (some e) g h p = refl
cell-eq false (some e) y g h p = ap {B = Option Entry} some (p e)

module _ (t : Table) (sd : Shaped t) (i k : ℕ) (s : State) (r : ℕ) (ps : List ℕ) (u : Uniq s.entries) (g : Good i (view s))
    (P : ReactGiven (rule_at t r) s ps) where
  abbrev pub R : Rule
  R = rule_at t r

  abbrev pub es : List Entry
  es = picked s ps

  abbrev pub bs : List ℕ
  bs = touched_by R s.next (owners es)

  pub rng : All (λ p. p < length s.entries) ps
  rng = ports-range s.entries ps (ports-messages (consumed R) es P.ports)

  pub fresh-view : (o : Origin) → o.maker ≡ suc i → (view s).cell o ≡ none
  fresh-view o h = is_none ((view s).cell o) (λ e q. let w = g.makers o e q in omega arith)

  pub fresh-list : (o : Origin) → o.maker ≡ suc i → look o s.entries ≡ none
  fresh-list o h = is_none (look o s.entries) (λ e q. none-some (sym (fresh-view o h) ∙ view-look s o e q))

  no_zero : is_in 0 bs ≡ false
  unfolding view
  no_zero = touched-positive R s.next (owners es) (sd r) P.owners g.pos

  inside-react : Inside t (view s).cell bs (members_of t i s (react r ps)) (react r ps)
  inside-react bare o = go (sd r)
    where
      go : Shape R → (mark_in 3 bs ((view s).cell o) ≡ is_in_o o (members_of t i s (react r ps))) × (mark_in 2 bs ((view s).cell o) ≡ false)
      go (plain c b h) = rw (c, b) (mark-nowhere 3 ((view s).cell o), mark-nowhere 2 ((view s).cell o))
      go (begin c b h m rest q w x) = absurd (clash b bare)
      go (inner c b h x) = rw (c, b) (marks-listed (owners es) s u o, part-cells (owners es) s u (rw (c, b) at no_zero) P.part o)

  pub ok-react : Ok t (view s) (deed_at t i k s (react r ps))
  unfolding view handled touched
  ok-react = record {
    es = es;
    found = view-found (consumed R) s.entries ps u P.ports;
    tests = (P.ports, P.owners, touched-least R s.next (owners es), sym (picks-distinct s.entries ps u rng) ∙ P.different);
    own = own-react R (sd r) s.next es P.owners;
    no_zero = no_zero;
    roomy = P.ids;
    fresh = fresh-view;
    unused = λ op o e h. unused-react R s.next e.owner (owners es) op (g.below o e h);
    whole = tt;
    inside = inside-react;
  }

  pub values_eq : values es ≡ map (λ o. cell_value ((view s).cell o)) (origins_of es)
  unfolding view
  values_eq = sym (values-found (view s).cell (origins_of es) es (view-found (consumed R) s.entries ps u P.ports))

  pub cells-react : (o : Origin) → look o (map strip (reacted R (suc i) s ps).entries) ≡ (astep t (view s) (deed_at t i k s (react r ps))).cell o
  unfolding view handled touched astep action_by
  cells-react o = look-map strip (λ e. refl) o (reacted R (suc i) s ps).entries
      ∙ ap (omap strip) (look-reacted R (sd r) (suc i) s ps P.owners u rng fresh-list o)
      ∙ cell-eq (is_in_o o (origins_of es)) (look o s.entries) (look o (products_of R (suc i) s ps)) (merged (owners es)) (merged bs)
      (λ e. touched-merge R s.next (owners es) (sd r) P.owners (strip e))
      ∙ (λ j. or_else (cond (is_in_o o (origins_of es)) none (bind_o (λ e. some (merged bs e)) (sym (look-map strip (λ e. refl) o s.entries) j)))
      ((sym (look-map strip (λ e. refl) o (products_of R (suc i) s ps))
      ∙ ap (λ (vs : List ℕ). look o (map strip (make (suc i) (least bs) vs 0 (product_atoms R)))) values_eq) j))

  pub sim-react : Sim t i k s (react r ps)
  unfolding view handled touched astep applied reacted
  sim-react = record {
    step = record { ok = ok-react; place = refl; tick = λ b. touched-begin R s.next (owners es) b };
    same-cells = λ j. record { next = later (begins R) s.next; cell = fun_ext cells-react j };
    uniq = uniq-reacted R (sd r) (suc i) s ps P.owners u rng fresh-list;
  }

-- ---- ends

pub left-strip : (k b : ℕ) → k < 2 → (x : Option Entry) → omap strip (bind_o (left k b) x) ≡ bind_o (left k b) (omap strip x)
left-strip k b h none = refl
left-strip k b h (some e) = go (owned b e) (eqb e.kind k) refl
  where
    value-eq : eqb e.kind k ≡ true → e.value ≡ cond (eqb e.kind 3) 0 e.value
    value-eq q = let w = eqb-true e.kind k q in sym (rw (ne_eqb e.kind 3 (λ z. omega arith)))

    go : (c d : Bool) → eqb e.kind k ≡ d → omap strip (cond c (cond d (some (to_global e)) none) (some e))
        ≡ cond c (cond d (some (to_global (strip e))) none) (some (strip e))
    go true true q = λ j. some (record { origin = e.origin; owner = 0; kind = 0; port = e.port; value = value-eq q j })
    go true false q = refl
    go false d q = refl

-- each entry is found at its origin
pub all_found : (l : List Entry) → Uniq l → All (λ e. look e.origin l ≡ some e) l
all_found [] u = tt
all_found (x ∷ l) u = (
  look-head x l,
  All-map {P = λ e. look e.origin l ≡ some e} {Q = λ e. look e.origin (x ∷ l) ≡ some e}
      (λ e h. look-deeper x l u.0 e.origin h) l (all_found l u.1),
)

pub origins-found : (l ks : List Entry) → All (λ e. look e.origin l ≡ some e) ks → map (λ o. look o (map strip l)) (origins_of ks) ≡ map some (map strip ks)
origins-found l [] h = refl
origins-found l (e ∷ ks) h = λ j. (look-map strip (λ e. refl) e.origin l ∙ ap (omap strip) h.0) j ∷ origins-found l ks h.1 j

-- the member marks in a transaction
abbrev pub marked : ℕ → Entry → Bool
marked b e = is_member_mark e && is_in e.owner (b ∷ [])

pub marked-mark : (b : ℕ) (e : Entry) → marked b e ≡ true → mark_of b e ≡ true
marked-mark b e h = and_intro (and_left (is_member_mark e) (is_in e.owner (b ∷ [])) h)
    (eq-eqb e.owner b (is_in-one e.owner b (and_right (is_member_mark e) (is_in e.owner (b ∷ [])) h)))

pub mark-marked : (b : ℕ) (e : Entry) → e.kind ≡ 3 → e.owner ≡ b → marked b e ≡ true
mark-marked b e h k = and_intro (eq-eqb e.kind 3 h) (rw k (is_in-head b []))

module _ (t : Table) (i k : ℕ) (s : State) (b : ℕ) (u : Uniq s.entries) (g : Good i (view s)) (op : is_open b s ≡ true) where
  pub marks_here : List Entry
  marks_here = keep (marked b) s.entries

  pub open-positive : b ≡ 0 → ⊥
  open-positive z = let w = ltb-true 0 b (and_left (ltb 0 b) (any (owned b) s.entries) op) in omega arith

  pub marks-found : map (view s).cell (origins_of marks_here) ≡ map some (map strip marks_here)
  unfolding view marks_here
  marks-found = origins-found s.entries marks_here (All-keep (λ e. look e.origin s.entries ≡ some e) (marked b) s.entries
      (All-map {P = λ e. look e.origin s.entries ≡ some e} {Q = λ e. marked b e ≡ true → look e.origin s.entries ≡ some e} (λ e h z. h) s.entries
      (all_found s.entries u)))

  pub marks-mine : (p : Entry → Bool) → ((e : Entry) → marked b e ≡ true → p (strip e) ≡ true) → all p (map strip marks_here) ≡ true
  unfolding marks_here
  marks-mine p h = all-kept strip p (marked b) s.entries h

  pub open-mark : Mark (view s).cell b
  open-mark =
      let q = any-look (owned b) s.entries u (and_right (ltb 0 b) (any (owned b) s.entries) op) in
      let w : q.1.owner ≡ b = eqb-true q.1.owner b q.3 in
      subst (λ (v : ℕ). Mark (view s).cell v) w (g.marks q.0 (strip q.1) (view-look s q.0 q.1 q.2) (λ z. open-positive (sym w ∙ z)))

  pub all-marks : AllMarks (view s).cell b (origins_of marks_here)
  unfolding marks_here
  all-marks o e h w z = let v = view-some s o e h in
      look-is_in o (keep (marked b) s.entries) v.0 (look-kept (marked b) o s.entries v.0 u v.1
      (mark-marked b v.0 (ap (λ (x : Entry). x.kind) v.2 ∙ z) (ap (λ (x : Entry). x.owner) v.2 ∙ w)))

  pub marks-some : is_empty (map strip marks_here) ≡ false
  marks-some = let m = open-mark in go m.0 marks_here (all-marks m.0 m.1 m.2 m.4 m.3)
    where
      go : (o : Origin) (l : List Entry) → is_in_o o (origins_of l) ≡ true → is_empty (map strip l) ≡ false
      go o [] h = absurd (false≢true h)
      go o (x ∷ l) h = refl

  pub fresh-end : (o : Origin) → o.maker ≡ suc i → (view s).cell o ≡ none
  fresh-end o h = is_none ((view s).cell o) (λ e q. let w = g.makers o e q in omega arith)

  pub cells-end : (c : ℕ) → c < 2 → (o : Origin) → look o (map strip (ended (of_kind c) b s).entries) ≡ apply (view s).cell (end_action c (b ∷ [])) o
  unfolding view
  cells-end c h o = look-map strip (λ e. refl) o (ended (of_kind c) b s).entries ∙ ap (omap strip) (look-ended c b s u o)
      ∙ left-strip c b h (look o s.entries)
      ∙ ap (bind_o (left c b)) (sym (look-map strip (λ e. refl) o s.entries)) ∙ sym (or_else-none (bind_o (left c b) (look o (map strip s.entries))))

  pub sim-commit : may_commit t b s ≡ true → Sim t i k s (commit b)
  unfolding view handled touched astep action_by applied marks_here ended
  sim-commit may = record {
    step = record {
      ok = record {
        es = map strip marks_here;
        found = marks-found;
        tests = (marks-mine (mark_of b) (λ e h. marked-mark b e h), marks-some, refl, refl);
        own = marks-mine (mine (b ∷ [])) (λ e h. mine-in (b ∷ []) (strip e) (and_right (is_member_mark e) (is_in e.owner (b ∷ [])) h));
        no_zero = rw (ne_eqb 0 b (λ z. open-positive (sym z)));
        roomy = refl;
        fresh = fresh-end;
        unused = λ h. absurd (false≢true h);
        whole = (
          (λ o e h q. let v = view-some s o e h in
              subst (λ (x : Entry). may_leave t x ≡ true) v.2
              (look-all (may_leave t) o (entries_in b s) may (look-kept (owned b) o s.entries v.0 u v.1
              (eq-eqb v.0.owner b (ap (λ (x : Entry). x.owner) v.2 ∙ q))))),
          all-marks,
        );
        inside = tt;
      };
      place = refl;
      tick = λ h. absurd (false≢true h);
    };
    same-cells = λ j. record { next = s.next; cell = fun_ext (cells-end 0 (omega arith)) j };
    uniq = uniq-ended 0 b s u;
  }

  pub sim-abort : may_abort b s ≡ true → Sim t i k s (abort b)
  unfolding view handled touched astep action_by applied marks_here ended
  sim-abort may = record {
    step = record {
      ok = record {
        es = map strip marks_here;
        found = marks-found;
        tests = (marks-mine (mark_of b) (λ e h. marked-mark b e h), marks-some, refl, refl);
        own = marks-mine (mine (b ∷ [])) (λ e h. mine-in (b ∷ []) (strip e) (and_right (is_member_mark e) (is_in e.owner (b ∷ [])) h));
        no_zero = rw (ne_eqb 0 b (λ z. open-positive (sym z)));
        roomy = refl;
        fresh = fresh-end;
        unused = λ h. absurd (false≢true h);
        whole = (
          (let q = any-look is_abort_mark (entries_in b s) (uniq-keep (owned b) s.entries u) may in
              let k = kept-look (owned b) q.0 s.entries q.1 u q.2 in
              (q.0, strip q.1, view-look s q.0 q.1 k.0, eqb-true q.1.owner b k.1, q.3)),
          all-marks,
        );
        inside = tt;
      };
      place = refl;
      tick = λ h. absurd (false≢true h);
    };
    same-cells = λ j. record { next = s.next; cell = fun_ext (cells-end 1 (omega arith)) j };
    uniq = uniq-ended 1 b s u;
  }

-- any allowed move
pub sim : (t : Table) → Shaped t → (i k : ℕ) (s : State) (m : Move) → Uniq s.entries → Good i (view s) → allowed t s m ≡ Allowed → Sim t i k s m
sim t sd i k s (react r ps) u g h = sim-react t sd i k s r ps u g (react-passes t s r ps h)
sim t sd i k s (commit b) u g h = let q = commit-passes t s b h in sim-commit t i k s b u g q.0 q.1
sim t sd i k s (abort b) u g h = let q = abort-passes t s b h in sim-abort t i k s b u g q.0 q.1
