-- Two moves on different transactions, both allowed in the same state: either stays allowed after the other, and both orders leave the same.
use Rattle.std.specs.Prelude.{◌≡◌, refl, Bool, cond, ◌⊎◌, ℕ, suc}
use Rattle.std.proofs.Math.Path.{sym, ap}
use Rattle.std.proofs.Common.{subst, ◌∙◌, inl, inr, arith, ltb-true, lt-ltb}
use Rattle.std.proofs.Math.Bool.{true, false}
use Rattle.std.proofs.lemmas.Bool.{false≢true}
use Rattle.std.proofs.Math.Option.{none, some}
use mathlib.Core.List.{List, [], ◌∷◌, map}
use Rattle.lists.specs.Lists.{is_in, least}
use Rattle.lists.specs.Choices.{clash, is_false}
use Rattle.lists.specs.Each.{head-eq, tail-eq}
use Rattle.semantics.specs.Table.{Table}
use Rattle.semantics.specs.State.{Origin, Entry}
use Rattle.semantics.specs.Move.{Move, react, commit, abort}
use Rattle.semantics.specs.Serial.{is_begin}
use Rattle.cells.specs.Origins.{or_else, bind_o, is_in_o, look, some_inj, is_none, found_at, map_frame}
use Rattle.cells.specs.Rules.{values}
use Rattle.cells.specs.Deeds.{Deed}
use Rattle.cells.specs.Cells.{Cells, Action, apply, mine, Local, frame-keep, frame-from, not_in, swap-cells}
use Rattle.cells.specs.Actions.{Seen, cell_value, received, action_by, action_of, astep, later, room, Tests, AllMarks, Whole, mark_in, Inside, mark-same, Ok, mine-in}
use Rattle.cells.specs.Actions.{one_in, act-local}

-- they touch no transaction in common, and neither takes what the other takes
pub record Apart (m x : Deed) : Type 0 where
  pub touched : (v : ℕ) → is_in v m.touched ≡ true → is_in v x.touched ≡ true → ⊥
  pub picks : (o : Origin) → is_in_o o m.picks ≡ true → is_in_o o x.picks ≡ true → ⊥
  pub places : m.place ≡ x.place → ⊥

pub apart-sym : (m x : Deed) → Apart m x → Apart x m
apart-sym m x P = record { touched = λ v h k. P.touched v k h; picks = λ o h k. P.picks o k h; places = λ q. P.places (sym q) }

pub room-down : (s s' : Bool) (n : ℕ) → room s (later s' n) ≡ true → room s n ≡ true
room-down s false n h = h
room-down false true n h = refl
room-down true true n h = let k = ltb-true (suc n) 65536 h in lt-ltb n 65536 (omega arith)

pub room-up : (s s' : Bool) (n : ℕ) → room s n ≡ true → room s' (later s n) ≡ true → room s (later s' n) ≡ true
room-up s false n h k = h
room-up false true n h k = refl
room-up true true n h k = k

pub later-comm : (s s' : Bool) (n : ℕ) → later s (later s' n) ≡ later s' (later s n)
later-comm false s' n = refl
later-comm true false n = refl
later-comm true true n = refl

pub gone-picked : (t : Table) (vs : List ℕ) (a : Deed) (o : Origin) → (action_of t vs a).gone o ≡ true → is_in_o o a.picks ≡ true
unfolding action_by
gone-picked t vs a o = go a.move
  where
    go : (mv : Move) → (action_by t a.place a.picks a.touched vs mv).gone o ≡ true → is_in_o o a.picks ≡ true
    go (react r ps) h = h
    go (commit b) h = absurd (false≢true h)
    go (abort b) h = absurd (false≢true h)

pub values-found : (f : Cells) (os : List Origin) (es : List Entry) → map f os ≡ map some es → map (λ o. cell_value (f o)) os ≡ values es
values-found f [] [] h = refl
values-found f [] (e ∷ es) h = cc
values-found f (o ∷ os) [] h = cc
values-found f (o ∷ os) (e ∷ es) h = let p = head-eq h in rw (p, values-found f os es (tail-eq h))

-- m after x
module _ (t : Table) (F : Seen) (m x : Deed) (P : Apart m x) (km : Ok t F m) (kx : Ok t F x) where
  pub B : Action
  B = action_of t (received F x) x

  pub LB : Local B x.touched x.place
  unfolding B
  LB = act-local t x kx.es (received F x) kx.tests

  pub f2 : Cells
  f2 = apply F.cell B

  pub not-x : (e : Entry) → mine m.touched e ≡ true → is_in e.owner x.touched ≡ false
  not-x e k = not_in m.touched x.touched e kx.no_zero (λ v h l. P.touched v l h) k

  -- what m handles is there after x
  pub found_after : map f2 m.picks ≡ map some km.es
  unfolding f2 B
  found_after = map_frame F.cell f2 (mine m.touched) m.picks km.es
      (λ o e i h k. frame-keep F.cell B x.touched x.place LB o e h (not-x e k)
      (is_false (B.gone o) (λ w. P.picks o i (gone-picked t (received F x) x o w))))
      km.found km.own

  pub fresh-after : (o : Origin) → o.maker ≡ suc m.place → f2 o ≡ none
  unfolding f2
  fresh-after o h = go (km.fresh o h) (B.gone o) (is_none (look o B.new) (λ e k. let q = (LB.made o e k).0 in P.places (omega arith)))
    where
      go : F.cell o ≡ none → (c : Bool) → look o B.new ≡ none → or_else (cond c none (bind_o B.change (F.cell o))) (look o B.new) ≡ none
      go p true q = q
      go p false q = rw (p, q)

  -- m's transactions have after x what they had before
  pub theirs-before : (o : Origin) (e : Entry) → f2 o ≡ some e → is_in e.owner m.touched ≡ true → F.cell o ≡ some e
  unfolding f2
  theirs-before o e h k = go (frame-from F.cell B x.touched x.place LB o e h)
    where
      go : (F.cell o ≡ some e) ⊎ (mine x.touched e ≡ true) → F.cell o ≡ some e
      go (inl q) = q
      go (inr q) = absurd (clash k (not_in x.touched m.touched e km.no_zero P.touched q))

  pub theirs-after : (o : Origin) (e : Entry) → F.cell o ≡ some e → is_in e.owner m.touched ≡ true → f2 o ≡ some e
  unfolding f2 B
  theirs-after o e h k = frame-keep F.cell B x.touched x.place LB o e h (not-x e (mine-in m.touched e k))
      (is_false (B.gone o) (λ w. let q = found_at F.cell (mine x.touched) o x.picks kx.es kx.found kx.own
      (gone-picked t (received F x) x o w) in
      clash k (subst (λ (z : Entry). is_in z.owner m.touched ≡ false) (some_inj (sym q.1 ∙ h))
      (not_in x.touched m.touched q.0 km.no_zero P.touched q.2))))

  pub unused-after : is_begin t m.move ≡ true → (o : Origin) (e : Entry) → f2 o ≡ some e → is_in e.owner m.touched ≡ false
  unused-after p o e h = is_false (is_in e.owner m.touched) (λ k. clash k (km.unused p o e (theirs-before o e h k)))

  pub whole-after : Whole t f2 (least m.touched) m.picks m.move
  whole-after = go m.move km.tests km.whole
    where
      marks : m.touched ≡ least m.touched ∷ [] → AllMarks F.cell (least m.touched) m.picks → AllMarks f2 (least m.touched) m.picks
      marks z w o e h k l = w o e (theirs-before o e h (rw k (one_in m.touched z))) k l

      go : (mv : Move) → Tests t m km.es mv → Whole t F.cell (least m.touched) m.picks mv → Whole t f2 (least m.touched) m.picks mv
      go (react r ps) T w = tt
      go (commit b) T w = ((λ o e h k. w.0 o e (theirs-before o e h (rw k (one_in m.touched T.2))) k), marks T.2 w.1)
      go (abort b) T w = (
        (w.0.0, w.0.1, theirs-after w.0.0 w.0.1 w.0.2 (rw w.0.3 (one_in m.touched T.2)), w.0.3, w.0.4),
        marks T.2
            w.1,
      )

  inside-after : Inside t f2 m.touched m.members m.move
  inside-after = go m.move km.inside
    where
      same : (kind : ℕ) (o : Origin) → mark_in kind m.touched (f2 o) ≡ mark_in kind m.touched (F.cell o)
      same kind o = mark-same kind m.touched (f2 o) (F.cell o) (λ e h k. theirs-before o e h k) (λ e h k. theirs-after o e h k)

      go : (mv : Move) → Inside t F.cell m.touched m.members mv → Inside t f2 m.touched m.members mv
      go (react r ps) w = λ b o. (same 3 o ∙ (w b o).0, same 2 o ∙ (w b o).1)
      go (commit b) w = tt
      go (abort b) w = tt

  pub ok-after : room (is_begin t m.move) (astep t F x).next ≡ true → Ok t (astep t F x) m
  unfolding astep f2 B
  ok-after rm = record {
    es = km.es;
    found = found_after;
    tests = km.tests;
    own = km.own;
    no_zero = km.no_zero;
    roomy = rm;
    fresh = fresh-after;
    unused = unused-after;
    whole = whole-after;
    inside = inside-after;
  }

  -- what m does after x is what it does before
  pub after_is : (astep t (astep t F x) m).cell ≡ apply (apply F.cell (action_of t (received F x) x)) (action_of t (received F m) m)
  unfolding astep f2 B
  after_is = ap (λ (vs : List ℕ). apply f2 (action_of t vs m)) (values-found f2 m.picks km.es found_after
      ∙ sym (values-found F.cell m.picks km.es km.found))

-- both orders come to the same
pub same-either : (t : Table) (F : Seen) (m x : Deed) → Apart m x → Ok t F m → Ok t F x → astep t (astep t F m) x ≡ astep t (astep t F x) m
unfolding astep
same-either t F m x P km kx = λ i. record { next = later-comm (is_begin t x.move) (is_begin t m.move) F.next i; cell = cells i }
  where
    picked : (a : Deed) → Ok t F a → (o : Origin) → (action_of t (received F a) a).gone o ≡ true → (e : Entry) × (F.cell o ≡ some e)
    picked a k o h = let q = found_at F.cell (mine a.touched) o a.picks k.es k.found k.own (gone-picked t (received F a) a o h) in
        (q.0, q.1)

    cells : (astep t (astep t F m) x).cell ≡ (astep t (astep t F x) m).cell
    cells = after_is t F x m (apart-sym m x P) kx km
        ∙ swap-cells F.cell (action_of t (received F m) m) (action_of t (received F x) x) m.touched x.touched m.place x.place
        (act-local t m km.es (received F m) km.tests) (act-local t x kx.es (received F x) kx.tests)
        km.no_zero kx.no_zero P.touched P.places km.fresh kx.fresh (picked m km) (picked x kx)
        ∙ sym (after_is t F m x P km kx)
