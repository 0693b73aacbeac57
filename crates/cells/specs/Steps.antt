-- A step of a log on cells: what is known of the cells stays known, and what becomes of the transactions that the move touches and of the others.
use Rattle.std.specs.Prelude.{◌≡◌, refl, Bool, true, false, ◌⊎◌, eqb}
use Rattle.std.proofs.Common.{sym, ◌∙◌, inl, inr, eqb-true}
use Rattle.std.proofs.Math.Path.{ap, subst}
use Rattle.std.proofs.Math.Bool.{cond}
use Rattle.std.proofs.Math.Option.{some}
use mathlib.Core.List.{List}
use Prim.Native.Nat.{ℕ, suc, ◌≤◌, ◌<◌}
use native.Mathlib.Omega.{arith}
use Rattle.lists.specs.Lists.{is_in, least}
use Rattle.lists.specs.Choices.{by_bool, clash, is_false, or_cases}
use Rattle.lists.specs.Numbers.{is_in-one, least-pos}
use Rattle.semantics.specs.Table.{Table}
use Rattle.semantics.specs.State.{Origin, Entry}
use Rattle.semantics.specs.Serial.{is_end, is_begin}
use Rattle.cells.specs.Rules.{Shaped}
use Rattle.cells.specs.Deeds.{Deed}
use Rattle.cells.specs.Cells.{Source, apply-inv, mine, frame-from}
use Rattle.cells.specs.Actions.{StepOk, Seen, received, action_of, astep, later, act-local}
use Rattle.cells.specs.Simulation.{Mark, Good}
use Rattle.cells.specs.Marks.{From, came, touched-live, mark-stay, first_of, mark_made}

-- no transaction is open
unfoldable pub NoneOpen : Seen → Type 0
NoneOpen G = (o : Origin) (e : Entry) → G.cell o ≡ some e → e.owner ≡ 0

pub later-le : (b : Bool) (n : ℕ) → n ≤ later b n
later-le true n = omega arith
later-le false n = omega arith

pub next_le : (t : Table) (F : Seen) (a : Deed) → F.next ≤ (astep t F a).next
unfolding astep
next_le t F a = later-le (is_begin t a.move) F.next

module _ (t : Table) (sd : Shaped t) (i : ℕ) (F : Seen) (a : Deed) (g : Good i F) (st : StepOk t i F a) where
  pub not-zero : (v : ℕ) → is_in v a.touched ≡ true → v ≡ 0 → ⊥
  not-zero v h q = clash h (rw q st.ok.no_zero)

  pub touched-bound : (v : ℕ) → is_in v a.touched ≡ true → v < (astep t F a).next
  unfolding astep
  touched-bound v h = by_bool (is_begin t a.move)
      (λ b. let w = is_in-one v F.next (subst (λ (l : List ℕ). is_in v l ≡ true) (st.tick b) h) in rw b (omega arith))
      (λ b. let l = touched-live t sd F a st.ok b v h in let w = g.below l.0 l.1 l.2 in let x = l.3 in rw b (omega arith))

  -- a transaction of an earlier id that a move touches is there already
  pub old-mark : (v : ℕ) → v < F.next → is_in v a.touched ≡ true → Mark F.cell v
  old-mark v lt h = by_bool (is_begin t a.move)
      (λ b. let w = is_in-one v F.next (subst (λ (l : List ℕ). is_in v l ≡ true) (st.tick b) h) in absurd (omega arith))
      (λ b. let l = touched-live t sd F a st.ok b v h in subst (λ (x : ℕ). Mark F.cell x) l.3
      (g.marks l.0 l.1 l.2 (λ z. not-zero v h (sym l.3 ∙ z))))

  pub keeps-mark : (v : ℕ) → (is_end a.move ≡ true → is_in v a.touched ≡ false) → Mark F.cell v
      → Mark (astep t F a).cell (cond (is_in v a.touched) (least a.touched) v)
  unfolding astep
  keeps-mark v e (o, d, h, x, w) =
      let q = mark-stay t F.cell a st.ok.es (received F a) o d a.move st.ok.tests st.ok.found (λ z. rw w (e z)) h x in
      (o, q.0, q.1, q.2, q.3 ∙ ap (λ (y : ℕ). cond (is_in y a.touched) (least a.touched) y) w)

  -- after a move that is no end, its transaction has a mark
  pub mark-left : (v : ℕ) → is_end a.move ≡ false → is_in v a.touched ≡ true → Mark (astep t F a).cell (least a.touched)
  unfolding astep
  mark-left v e h = by_bool (is_begin t a.move)
      (λ b. let q = mark_made t sd F.cell a (received F a) a.move b (st.ok.fresh (first_of a.place) refl) in
      (first_of a.place, q.0, q.1, q.2, q.3))
      (λ b. let l = touched-live t sd F a st.ok b v h in
      let m = keeps-mark v (λ z. absurd (clash z e)) (subst (λ (x : ℕ). Mark F.cell x) l.3
      (g.marks l.0 l.1 l.2 (λ z. not-zero v h (sym l.3 ∙ z)))) in
      subst (λ (x : Bool). Mark (astep t F a).cell (cond x (least a.touched) v)) h m)

  came_from : (o : Origin) (e : Entry) → (astep t F a).cell o ≡ some e → (e.owner ≡ 0 → ⊥) → From F.cell a.touched (is_end a.move) o e.owner
  unfolding astep
  came_from o e h nz = came t F.cell a st.ok.es (received F a) a.move st.ok.tests o e (apply-inv F.cell (action_of t (received F a) a) o e h) nz

  good-marks : (o : Origin) (e : Entry) → (astep t F a).cell o ≡ some e → (e.owner ≡ 0 → ⊥) → Mark (astep t F a).cell e.owner
  good-marks o e h nz = go (came_from o e h nz)
    where
      zero-case : (c : Entry) → c.owner ≡ 0 → cond (is_in c.owner a.touched) (least a.touched) c.owner ≡ 0
      zero-case c z = rw (z, st.ok.no_zero)

      go : From F.cell a.touched (is_end a.move) o e.owner → Mark (astep t F a).cell e.owner
      go (inl (c, w, q, x)) = subst (λ (v : ℕ). Mark (astep t F a).cell v) (sym q) (keeps-mark c.owner x (g.marks o c w (λ z. nz (q ∙ zero-case c z))))
      go (inr q) = subst (λ (v : ℕ). Mark (astep t F a).cell v) (sym q.0)
          (mark-left (least a.touched) q.1 (least-pos a.touched (λ z. nz (q.0 ∙ z))))

  pub good-next : Good (suc i) (astep t F a)
  unfolding astep
  good-next = record {
    pos = let w = later-le (is_begin t a.move) F.next in let p = g.pos in omega arith;
    makers = λ o e h. maker-of o e (apply-inv F.cell (action_of t (received F a) a) o e h);
    below = λ o e h. below_of o e (frame-from F.cell (action_of t (received F a) a) a.touched a.place
        (act-local t a st.ok.es (received F a) st.ok.tests) o e h);
    marks = good-marks;
  }
    where
      maker-of : (o : Origin) (e : Entry) → Source F.cell (action_of t (received F a) a) o e → o.maker ≤ suc i
      maker-of o e (inl q) = let w = g.makers o q.0 q.1 in omega arith
      maker-of o e (inr q) = let w = ((act-local t a st.ok.es (received F a) st.ok.tests).made o e q).0 in omega arith

      below_of : (o : Origin) (e : Entry) → (F.cell o ≡ some e) ⊎ (mine a.touched e ≡ true) → e.owner < later (is_begin t a.move) F.next
      below_of o e (inl q) = let w = g.below o e q in let l = later-le (is_begin t a.move) F.next in omega arith
      below_of o e (inr q) = two (or_cases (eqb e.owner 0) (is_in e.owner a.touched) q)
        where
          two : (eqb e.owner 0 ≡ true) ⊎ (is_in e.owner a.touched ≡ true) → e.owner < later (is_begin t a.move) F.next
          two (inl z) = let w = eqb-true e.owner 0 z in let l = later-le (is_begin t a.move) F.next in let p = g.pos in omega arith
          two (inr z) = touched-bound e.owner z

  -- a transaction of an earlier id that is there after a move: the move left it alone, or it is the one that the others were merged into
  pub still : (v : ℕ) → (v ≡ 0 → ⊥) → v < F.next → Mark (astep t F a).cell v
      → (Mark F.cell v) × ((is_in v a.touched ≡ true → (v ≡ least a.touched) × (is_end a.move ≡ false)))
  still v nz lt (o, e, h, x, w) = go (subst (λ (z : ℕ). From F.cell a.touched (is_end a.move) o z) w (came_from o e h (λ z. nz (sym w ∙ z))))
    where
      merged-into : v ≡ least a.touched → is_end a.move ≡ false
          → (Mark F.cell v) × ((is_in v a.touched ≡ true → (v ≡ least a.touched) × (is_end a.move ≡ false)))
      merged-into s r = (old-mark v lt (rw s (least-pos a.touched (λ z. nz (s ∙ z)))), λ u. (s, r))

      go : From F.cell a.touched (is_end a.move) o v → (Mark F.cell v)
          × ((is_in v a.touched ≡ true → (v ≡ least a.touched) × (is_end a.move ≡ false)))
      go (inl (c, p, q, r)) = by_bool (is_in c.owner a.touched)
          (λ y. merged-into (q ∙ rw y) (is_false (is_end a.move) (λ z. clash y (r z))))
          (λ y. let s : v ≡ c.owner = q ∙ rw y in
          (subst (λ (z : ℕ). Mark F.cell z) (sym s) (g.marks o c p (λ z. nz (s ∙ z))), λ u. absurd (clash u (rw s y))))
      go (inr (s, r)) = merged-into s r

  -- of the transactions touched, only the smallest id is there afterwards
  pub only : (v : ℕ) → is_in v a.touched ≡ true → Mark (astep t F a).cell v → v ≡ least a.touched
  only v h (o, e, y, x, w) = go (subst (λ (z : ℕ). From F.cell a.touched (is_end a.move) o z) w (came_from o e y (λ z. not-zero v h (sym w ∙ z))))
    where
      go : From F.cell a.touched (is_end a.move) o v → v ≡ least a.touched
      go (inl (c, p, q, s)) = by_bool (is_in c.owner a.touched) (λ z. q ∙ rw z) (λ z. let u : v ≡ c.owner = q ∙ rw z in absurd (clash h (rw u z)))
      go (inr (q, s)) = q
