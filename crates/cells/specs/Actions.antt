-- The moves of a log as actions on cells, and what allows them there.
use Rattle.std.specs.Prelude.{◌≡◌, refl, Bool, true, false, cond, not, ◌&&◌, ◌||◌, List, [], ◌∷◌, map, ℕ, suc, eqb, ltb}
use Rattle.std.proofs.Common.{sym, ap, subst, ◌∙◌, true≢false, eqb-true, eq-eqb, ne_eqb}
use Rattle.std.proofs.lemmas.Bool.{false≢true}
use Rattle.std.proofs.Math.Option.{Option, none, some}
use Rattle.lists.specs.Lists.{all, is_empty, is_in, least}
use Rattle.lists.specs.Tests.{or-right-true}
use Rattle.lists.specs.Choices.{by_bool, clash, and_left, and_right, and_intro}
use Rattle.lists.specs.Numbers.{is_in-head, is_in-one, least-in}
use Rattle.semantics.specs.Table.{Table, Rule, rule_at, consumed, product_atoms, begins}
use Rattle.semantics.specs.State.{Origin, Entry, is_message, is_abort_mark, is_member_mark, owned}
use Rattle.semantics.specs.Move.{Move, react, commit, abort, on_ports, owners_fit, merged, to_global}
use Rattle.semantics.specs.Serial.{is_end, is_begin}
use Rattle.cells.specs.Origins.{is_in_o, distinct_o, look, some_inj, none-some, look-origin, look-all}
use Rattle.cells.specs.Rules.{owners, touched_by, merged-other, merged-in, make, make-all}
use Rattle.cells.specs.Deeds.{Deed}
use Rattle.cells.specs.Cells.{Cells, Action, apply, mine, Local, Inner}

-- a member mark without its id
abbrev pub strip : Entry → Entry
strip e = record { origin = e.origin; owner = e.owner; kind = e.kind; port = e.port; value = cond (eqb e.kind 3) 0 e.value }

abbrev pub cell_value : Option Entry → ℕ
cell_value none = 0
cell_value (some e) = e.value

abbrev pub react_action : Rule → ℕ → List Origin → List ℕ → List ℕ → Action
react_action R i os bs vs = record {
  gone = λ o. is_in_o o os;
  change = λ e. some (merged bs e);
  new = map strip (make (suc i) (least bs) vs 0 (product_atoms R));
}

-- the entry after the end of transaction b: of b's own, those of kind k become global messages, and the others go
abbrev pub left : ℕ → ℕ → Entry → Option Entry
left k b e = cond (owned b e) (cond (eqb e.kind k) (some (to_global e)) none) (some e)

abbrev pub end_action : ℕ → List ℕ → Action
end_action k bs = record { gone = λ o. false; change = left k (least bs); new = [] }

unfoldable pub action_by : Table → ℕ → List Origin → List ℕ → List ℕ → Move → Action
action_by t i os bs vs (react r ps) = react_action (rule_at t r) i os bs vs
action_by t i os bs vs (commit b) = end_action 0 bs
action_by t i os bs vs (abort b) = end_action 1 bs

-- a state as a function of the origin
pub record Seen : Type 0 where
  pub next : ℕ
  pub cell : Cells

abbrev pub action_of : Table → List ℕ → Deed → Action
action_of t vs a = action_by t a.place a.picks a.touched vs a.move

abbrev pub later : Bool → ℕ → ℕ
later b n = cond b (suc n) n

abbrev pub room : Bool → ℕ → Bool
room b n = not b || ltb n 65536

abbrev pub received : Seen → Deed → List ℕ
received F a = map (λ o. cell_value (F.cell o)) a.picks

unfoldable pub astep : Table → Seen → Deed → Seen
astep t F a = record { next = later (is_begin t a.move) F.next; cell = apply F.cell (action_of t (received F a) a) }

-- ---- what allows a move

abbrev pub mark_of : ℕ → Entry → Bool
mark_of b e = is_member_mark e && owned b e

-- what the tests ask of the entries picked: nothing of the state
abbrev pub EndTests : Deed → List Entry → Type 0
EndTests a es = (all (mark_of (least a.touched)) es ≡ true) × (is_empty es ≡ false) × (a.touched ≡ least a.touched ∷ []) × (a.members ≡ a.picks)

abbrev pub Tests : Table → Deed → List Entry → Move → Type 0
Tests t a es (react r ps) =
    (on_ports (consumed (rule_at t r)) es ≡ true) × (owners_fit (rule_at t r).class (owners es) ≡ true)
    × (a.touched ≡ touched_by (rule_at t r) (least a.touched) (owners es)) × (distinct_o a.picks ≡ true)
Tests t a es (commit b) = EndTests a es
Tests t a es (abort b) = EndTests a es

abbrev pub may_leave : Table → Entry → Bool
may_leave t e = not (is_abort_mark e) && (not (is_message e) || ltb e.port t.sizes.globals)

-- every member mark of b is among os
abbrev pub AllMarks : Cells → ℕ → List Origin → Type 0
AllMarks f b os = (o : Origin) (e : Entry) → f o ≡ some e → e.owner ≡ b → e.kind ≡ 3 → is_in_o o os ≡ true

-- what an end asks of its whole transaction
abbrev pub Whole : Table → Cells → ℕ → List Origin → Move → Type 0
Whole t f b os (react r ps) = Unit
Whole t f b os (commit c) = ((o : Origin) (e : Entry) → f o ≡ some e → e.owner ≡ b → may_leave t e ≡ true) × AllMarks f b os
Whole t f b os (abort c) = ((o : Origin) × (e : Entry) × (f o ≡ some e) × (e.owner ≡ b) × (is_abort_mark e ≡ true)) × AllMarks f b os

-- whether a cell holds a mark of this kind, an abort mark (2) or a member mark (3), of one of the transactions bs
abbrev pub mark_in : ℕ → List ℕ → Option Entry → Bool
mark_in kind bs none = false
mark_in kind bs (some e) = is_in e.owner bs && eqb e.kind kind

-- the members ms of a reaction that begins nothing are those of the transactions bs that it touches, and none of these has an abort mark
abbrev pub Inside : Table → Cells → List ℕ → List Origin → Move → Type 0
Inside t f bs ms (react r ps) = begins (rule_at t r) ≡ false → (o : Origin) → (mark_in 3 bs (f o) ≡ is_in_o o ms) × (mark_in 2 bs (f o) ≡ false)
Inside t f bs ms (commit b) = Unit
Inside t f bs ms (abort b) = Unit

-- it goes by the entries of these transactions alone
pub mark-same : (kind : ℕ) (bs : List ℕ) (x y : Option Entry) → ((e : Entry) → x ≡ some e → is_in e.owner bs ≡ true → y ≡ some e)
    → ((e : Entry) → y ≡ some e → is_in e.owner bs ≡ true → x ≡ some e) → mark_in kind bs x ≡ mark_in kind bs y
mark-same kind bs none none forth back = refl
mark-same kind bs none (some e) forth back = by_bool (is_in e.owner bs) (λ k. absurd (none-some (back e refl k))) (λ k. rw k)
mark-same kind bs (some e) none forth back = by_bool (is_in e.owner bs) (λ k. absurd (none-some (forth e refl k))) (λ k. rw k)
mark-same kind bs (some e) (some d) forth back =
    by_bool (is_in e.owner bs) (λ k. ap (λ (z : Entry). is_in z.owner bs && eqb z.kind kind) (sym (some_inj (forth e refl k))))
    (λ k. by_bool (is_in d.owner bs)
    (λ l. absurd (clash l (subst (λ (z : Entry). is_in z.owner bs ≡ false) (some_inj (back d refl l)) k))) (λ l. rw (k, l)))

pub record Ok (t : Table) (F : Seen) (a : Deed) : Type 0 where
  pub es : List Entry
  pub found : map F.cell a.picks ≡ map some es
  pub tests : Tests t a es a.move
  pub own : all (mine a.touched) es ≡ true
  pub no_zero : is_in 0 a.touched ≡ false
  pub roomy : room (is_begin t a.move) F.next ≡ true
  pub fresh : (o : Origin) → o.maker ≡ suc a.place → F.cell o ≡ none
  pub unused : is_begin t a.move ≡ true → (o : Origin) (e : Entry) → F.cell o ≡ some e → is_in e.owner a.touched ≡ false
  pub whole : Whole t F.cell (least a.touched) a.picks a.move
  pub inside : Inside t F.cell a.touched a.members a.move

-- the moves are all allowed, one after another from F, and lead to G
abbrev pub Runs : Table → Seen → List Deed → Seen → Type 0
Runs t F [] G = F ≡ G
Runs t F (a ∷ xs) G = Ok t F a × Runs t (astep t F a) xs G

-- the move a of a log, at place i: a begin gets the next id
pub record StepOk (t : Table) (i : ℕ) (F : Seen) (a : Deed) : Type 0 where
  pub ok : Ok t F a
  pub place : a.place ≡ i
  pub tick : is_begin t a.move ≡ true → a.touched ≡ F.next ∷ []

-- what Ok says of a commit or abort
pub record EndOk (F : Seen) (a : Deed) : Type 0 where
  pub es : List Entry
  pub found : map F.cell a.picks ≡ map some es
  pub marks : all (mark_of (least a.touched)) es ≡ true
  pub some-mark : is_empty es ≡ false
  pub one : a.touched ≡ least a.touched ∷ []
  pub members : a.members ≡ a.picks
  pub no_zero : is_in 0 a.touched ≡ false
  pub all-marks : AllMarks F.cell (least a.touched) a.picks

pub end-ok : (t : Table) (F : Seen) (a : Deed) → Ok t F a → is_end a.move ≡ true → EndOk F a
end-ok t F a k en = go a.move en k.tests k.whole
  where
    as-end : EndTests a k.es → AllMarks F.cell (least a.touched) a.picks → EndOk F a
    as-end T w = record { es = k.es; found = k.found; marks = T.0; some-mark = T.1; one = T.2; members = T.3; no_zero = k.no_zero; all-marks = w }

    go : (mv : Move) → is_end mv ≡ true → Tests t a k.es mv → Whole t F.cell (least a.touched) a.picks mv → EndOk F a
    go (react r ps) n T w = absurd (false≢true n)
    go (commit b) n T w = as-end T w.1
    go (abort b) n T w = as-end T w.1

-- ---- the actions of moves stay in their transactions

pub mine-in : (bs : List ℕ) (e : Entry) → is_in e.owner bs ≡ true → mine bs e ≡ true
mine-in bs e h = or-right-true (eqb e.owner 0) h

pub mine-zero : (bs : List ℕ) (e : Entry) → e.owner ≡ 0 → mine bs e ≡ true
mine-zero bs e h = rw (eq-eqb e.owner 0 h)

pub mine-least : (bs : List ℕ) (e : Entry) → e.owner ≡ least bs → mine bs e ≡ true
mine-least [] e h = mine-zero [] e h
mine-least (b ∷ bs) e h = mine-in (b ∷ bs) e (subst (λ (v : ℕ). is_in v (b ∷ bs) ≡ true) (sym h) (least-in b bs))

pub all-strip : (p : Entry → Bool) (l : List Entry) → all (λ e. p (strip e)) l ≡ true → all p (map strip l) ≡ true
all-strip p [] h = refl
all-strip p (e ∷ l) h = and_intro (and_left (p (strip e)) (all (λ e. p (strip e)) l) h) (all-strip p l (and_right (p (strip e)) (all (λ e. p (strip e)) l) h))

-- a product has the move for its maker, and the owner w
pub product-of : (i w : ℕ) (vs : List ℕ) (R : Rule) (o : Origin) (e : Entry) → look o (map strip (make i w vs 0 (product_atoms R))) ≡ some e
    → (o.maker ≡ i) × (e.owner ≡ w)
product-of i w vs R o e h =
    let p : Entry → Bool = λ e. eqb e.origin.maker i && eqb e.owner w in
    let l = map strip (make i w vs 0 (product_atoms R)) in
    let q = look-all p o l (all-strip p (make i w vs 0 (product_atoms R))
    (make-all (λ e. p (strip e)) i w vs 0 (product_atoms R) (λ e k l. and_intro (eq-eqb e.origin.maker i k) (eq-eqb e.owner w l)))) h in (
      ap (λ (x : Origin). x.maker) (sym (look-origin o l h)) ∙ eqb-true e.origin.maker i (and_left (eqb e.origin.maker i) (eqb e.owner w) q),
      eqb-true e.owner w (and_right (eqb e.origin.maker i) (eqb e.owner w) q),
    )

pub react-local : (R : Rule) (i : ℕ) (os : List Origin) (bs vs : List ℕ) → Local (react_action R i os bs vs) bs i
react-local R i os bs vs = record {
  other = λ e h. ap {B = Option Entry} some (merged-other bs e h);
  result = λ e e' h k. mine-least bs e' (ap (λ (x : Entry). x.owner) (sym (some_inj k)) ∙ merged-in bs e h);
  made = λ o e h. let q = product-of (suc i) (least bs) vs R o e h in (q.0, mine-least bs e q.1);
}

pub left-result : (k b : ℕ) (e e' : Entry) → owned b e ≡ true → left k b e ≡ some e' → e'.owner ≡ 0
left-result k b e e' h = rw h (go (eqb e.kind k))
  where
    go : (c : Bool) → cond c (some (to_global e)) none ≡ some e' → e'.owner ≡ 0
    go true q = ap (λ (x : Entry). x.owner) (sym (some_inj q))
    go false q = absurd (none-some q)

pub one_in : (bs : List ℕ) → bs ≡ least bs ∷ [] → is_in (least bs) bs ≡ true
one_in bs z = subst (λ (l : List ℕ). is_in (least bs) l ≡ true) (sym z) (is_in-head (least bs) [])

pub in_one : (bs : List ℕ) (v : ℕ) → bs ≡ least bs ∷ [] → is_in v bs ≡ true → v ≡ least bs
in_one bs v z h = is_in-one v (least bs) (subst (λ (l : List ℕ). is_in v l ≡ true) z h)

pub end-local : (k : ℕ) (bs : List ℕ) (i : ℕ) → bs ≡ least bs ∷ [] → Local (end_action k bs) bs i
end-local k bs i z = record {
  other = λ e h. let w = ne_eqb e.owner (least bs) (λ q. clash (rw q (one_in bs z)) h) in rw w;
  result = λ e e' h q. mine-zero bs e' (left-result k (least bs) e e' (eq-eqb e.owner (least bs) (in_one bs e.owner z h)) q);
  made = λ o e h. absurd (none-some h);
}

pub react-inner : (R : Rule) (i : ℕ) (os : List Origin) (bs vs : List ℕ) → is_in (least bs) bs ≡ true → Inner (react_action R i os bs vs) bs
react-inner R i os bs vs z = record {
  total = λ e h. (merged bs e, refl, rw (merged-in bs e h) z);
  inside = λ o e h. rw (product-of (suc i) (least bs) vs R o e h).1 z;
}

pub act-local : (t : Table) (a : Deed) (es : List Entry) (vs : List ℕ) → Tests t a es a.move → Local (action_of t vs a) a.touched a.place
unfolding action_by
act-local t a es vs = go a.move
  where
    go : (mv : Move) → Tests t a es mv → Local (action_by t a.place a.picks a.touched vs mv) a.touched a.place
    go (react r ps) h = react-local (rule_at t r) a.place a.picks a.touched vs
    go (commit b) h = end-local 0 a.touched a.place h.2
    go (abort b) h = end-local 1 a.touched a.place h.2

pub act-inner : (t : Table) (a : Deed) (vs : List ℕ) → is_end a.move ≡ false → is_in (least a.touched) a.touched ≡ true
    → Inner (action_of t vs a) a.touched
unfolding action_by
act-inner t a vs = go a.move
  where
    go : (mv : Move) → is_end mv ≡ false → is_in (least a.touched) a.touched ≡ true
        → Inner (action_by t a.place a.picks a.touched vs mv) a.touched
    go (react r ps) e z = react-inner (rule_at t r) a.place a.picks a.touched vs z
    go (commit b) e z = absurd (true≢false e)
    go (abort b) e z = absurd (true≢false e)
