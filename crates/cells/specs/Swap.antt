-- Two moves of a log that touch different transactions may change places: both stay allowed, and the result is the same.
use Rattle.std.specs.Prelude.{◌≡◌, false, ℕ, suc, ◌≤◌, ◌<◌}
use Rattle.std.proofs.Common.{sym, subst, ◌∙◌, true≢false}
use Rattle.std.proofs.Math.Bool.{true}
use Rattle.std.proofs.Math.Option.{none, some}
use mathlib.Core.List.{List, [], ◌∷◌, map}
use native.Mathlib.Omega.{arith}
use Rattle.lists.specs.Lists.{is_in, least}
use Rattle.lists.specs.Choices.{clash, is_false}
use Rattle.semantics.specs.Table.{Table}
use Rattle.semantics.specs.State.{Origin, Entry}
use Rattle.semantics.specs.Move.{Move, react, commit, abort}
use Rattle.semantics.specs.Serial.{is_end, is_begin}
use Rattle.cells.specs.Origins.{is_in_o, look, some_inj, found_at, map_frame}
use Rattle.cells.specs.Deeds.{Deed}
use Rattle.cells.specs.Cells.{Cells, Action, apply, mine, Local, Inner, frame-keep, frame_back, frame-lives, not_in}
use Rattle.cells.specs.Commute.{Apart, room-down, room-up, gone-picked, ok-after, same-either}
use Rattle.cells.specs.Actions.{Seen, received, action_by, action_of, astep, Tests, AllMarks, Whole, mark_in, Inside, mark-same, Ok, one_in}
use Rattle.cells.specs.Actions.{act-local, act-inner}

-- two moves of the log, the first of which may be made after the second
pub record Swap (t : Table) (m x : Deed) : Type 0 where
  pub reacts : is_end m.move ≡ false
  pub some-touched : is_in (least m.touched) m.touched ≡ true
  pub apart : (v : ℕ) → is_in v m.touched ≡ true → is_in v x.touched ≡ true → ⊥
  pub earlier : m.place < x.place
  pub back : (o : Origin) → is_in_o o m.picks ≡ true → o.maker ≤ m.place

picked-gone : (t : Table) (vs : List ℕ) (a : Deed) (o : Origin) → is_end a.move ≡ false → is_in_o o a.picks ≡ true → (action_of t vs a).gone o ≡ true
unfolding action_by
picked-gone t vs a o = go a.move
  where
    go : (mv : Move) → is_end mv ≡ false → is_in_o o a.picks ≡ true → (action_by t a.place a.picks a.touched vs mv).gone o ≡ true
    go (react r ps) e h = h
    go (commit b) e h = absurd (true≢false e)
    go (abort b) e h = absurd (true≢false e)

module _ (t : Table) (F : Seen) (m x : Deed) (S : Swap t m x) (km : Ok t F m) (kx : Ok t (astep t F m) x) where
  pub A : Action
  A = action_of t (received F m) m

  pub LA : Local A m.touched m.place
  unfolding A
  LA = act-local t m km.es (received F m) km.tests

  IA : Inner A m.touched
  unfolding A
  IA = act-inner t m (received F m) S.reacts S.some-touched

  apart' : (v : ℕ) → is_in v x.touched ≡ true → is_in v m.touched ≡ true → ⊥
  apart' v h k = S.apart v k h

  f1 : Cells
  f1 = apply F.cell A

  x-found1 : map f1 x.picks ≡ map some kx.es
  unfolding astep f1 A
  x-found1 = kx.found

  x-found : map F.cell x.picks ≡ map some kx.es
  unfolding f1
  x-found = map_frame f1 F.cell (mine x.touched) x.picks kx.es
      (λ o e i h k. frame_back F.cell A m.touched m.place LA IA o e h (not_in x.touched m.touched e km.no_zero S.apart k))
      x-found1 kx.own

  m-picked : (o : Origin) → A.gone o ≡ true → (e : Entry) × (F.cell o ≡ some e) × (mine m.touched e ≡ true)
  unfolding A
  m-picked o h = found_at F.cell (mine m.touched) o m.picks km.es km.found km.own (gone-picked t (received F m) m o h)

  keep-x : (o : Origin) (e : Entry) → F.cell o ≡ some e → is_in e.owner x.touched ≡ true → f1 o ≡ some e
  unfolding f1
  keep-x o e h l = frame-keep F.cell A m.touched m.place LA o e h (is_false (is_in e.owner m.touched) (λ k. S.apart e.owner k l))
      (is_false (A.gone o) (λ k. let q = m-picked o k in
      clash l (subst (λ (z : Entry). is_in z.owner x.touched ≡ false) (some_inj (sym q.1 ∙ h))
      (not_in m.touched x.touched q.0 kx.no_zero apart' q.2))))

  fresh-x : (o : Origin) → o.maker ≡ suc x.place → F.cell o ≡ none
  unfolding astep f1 A
  fresh-x o h = frame-lives F.cell A m.touched m.place LA IA o (kx.fresh o h)
      (is_false (A.gone o) (λ k. let q = S.back o (gone-picked t (received F m) m o k) in let r = S.earlier in omega arith))

  whole-x : Whole t F.cell (least x.touched) x.picks x.move
  unfolding astep f1 A
  whole-x = go x.move kx.tests kx.whole
    where
      marks : x.touched ≡ least x.touched ∷ [] → AllMarks f1 (least x.touched) x.picks → AllMarks F.cell (least x.touched) x.picks
      marks z w o e h k l = w o e (keep-x o e h (rw k (one_in x.touched z))) k l

      go : (mv : Move) → Tests t x kx.es mv → Whole t f1 (least x.touched) x.picks mv → Whole t F.cell (least x.touched) x.picks mv
      go (react r ps) T w = tt
      go (commit b) T w = ((λ o e h k. w.0 o e (keep-x o e h (rw k (one_in x.touched T.2))) k), marks T.2 w.1)
      go (abort b) T w = (
        (
          w.0.0,
          w.0.1,
          frame_back F.cell A m.touched m.place LA IA w.0.0 w.0.1 w.0.2
              (is_false (is_in w.0.1.owner m.touched) (λ k. S.apart w.0.1.owner k (rw w.0.3 (one_in x.touched T.2)))),
          w.0.3,
          w.0.4,
        ),
        marks T.2 w.1,
      )

  inside-x : Inside t F.cell x.touched x.members x.move
  unfolding astep f1 A
  inside-x = go x.move kx.inside
    where
      back : (o : Origin) (e : Entry) → f1 o ≡ some e → is_in e.owner x.touched ≡ true → F.cell o ≡ some e
      back o e h l = frame_back F.cell A m.touched m.place LA IA o e h (is_false (is_in e.owner m.touched) (λ k. S.apart e.owner k l))

      same : (kind : ℕ) (o : Origin) → mark_in kind x.touched (F.cell o) ≡ mark_in kind x.touched (f1 o)
      same kind o = mark-same kind x.touched (F.cell o) (f1 o) (λ e h l. keep-x o e h l) (λ e h l. back o e h l)

      go : (mv : Move) → Inside t f1 x.touched x.members mv → Inside t F.cell x.touched x.members mv
      go (react r ps) w = λ b o. (same 3 o ∙ (w b o).0, same 2 o ∙ (w b o).1)
      go (commit b) w = tt
      go (abort b) w = tt

  -- the second move is allowed first
  pub ok-x : Ok t F x
  unfolding astep f1 A
  ok-x = record {
    es = kx.es;
    found = x-found;
    tests = kx.tests;
    own = kx.own;
    no_zero = kx.no_zero;
    roomy = room-down (is_begin t x.move) (is_begin t m.move) F.next kx.roomy;
    fresh = fresh-x;
    unused = λ p o e h. is_false (is_in e.owner x.touched) (λ l. clash l (kx.unused p o e (keep-x o e h l)));
    whole = whole-x;
    inside = inside-x;
  }

  both-apart : Apart m x
  unfolding f1 A
  both-apart = record { touched = S.apart; picks = both-pick; places = λ q. (let r = S.earlier in omega arith) }
    where
      both-pick : (o : Origin) → is_in_o o m.picks ≡ true → is_in_o o x.picks ≡ true → ⊥
      both-pick o h k = let q = found_at f1 (mine x.touched) o x.picks kx.es x-found1 kx.own k in
          let w = picked-gone t (received F m) m o S.reacts h in
          let l : look o A.new ≡ some q.0 = rw w at q.1 in
          let r = (LA.made o q.0 l).0 in let s = S.back o h in omega arith

  -- the first move is allowed after it
  pub ok-m : Ok t (astep t F x) m
  unfolding astep
  ok-m = ok-after t F m x both-apart km ok-x (room-up (is_begin t m.move) (is_begin t x.move) F.next km.roomy kx.roomy)

  -- both orders come to the same
  pub same : astep t (astep t F m) x ≡ astep t (astep t F x) m
  same = same-either t F m x both-apart km ok-x
