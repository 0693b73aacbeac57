-- Each begin and each reaction made in transactions shares a member with exactly one commit or abort of the log, which stands after it; and each member
-- that a commit or abort ends was is_begin by a move before it.
use Rattle.std.specs.Prelude.{◌≡◌, refl, Bool, true, false, not, ◌&&◌, List, [], ◌∷◌, ◌++◌, ℕ, suc, ◌+◌, ◌≤◌, ◌<◌, eqb, length}
use Rattle.std.proofs.Common.{sym, ap, subst, ◌∙◌, append_assoc, arith, eqb-true, ne_eqb}
use Rattle.std.proofs.Math.Option.{none}
use Rattle.std.proofs.lemmas.Bool.{eqb-false, not-true}
use Rattle.lists.specs.Lists.{any, is_empty, count_if, one_if, least}
use Rattle.lists.specs.Choices.{by_bool, is_false, and_left, and_right}
use Rattle.lists.specs.Counting.{count-append}
use Rattle.lists.specs.Each.{All, any_found, count_same, count_none}
use Rattle.semantics.specs.Table.{Table}
use Rattle.semantics.specs.State.{Origin}
use Rattle.semantics.specs.Serial.{is_end, is_inner, same_origin, belongs_to}
use Rattle.serializability.specs.Statement.{ends_member_of}
use Rattle.cells.specs.Origins.{is_in_o, none-some}
use Rattle.cells.specs.Rules.{Shaped}
use Rattle.cells.specs.Deeds.{Deed, act_of}
use Rattle.serializability.specs.Keys.{ender-ge, key-full}
use Rattle.cells.specs.Actions.{Seen, received, astep, Ok, end-ok, one_in}
use Rattle.cells.specs.Simulation.{Good}
use Rattle.cells.specs.Marks.{MarkAt, mark-gone}
use Rattle.serializability.specs.SameKey.{LogRuns, next-good, key-bound}
use Rattle.cells.specs.Steps.{NoneOpen}
use Rattle.serializability.specs.FollowMark.{seen_after, none-stay, none_after, log-rest, ender-not}
use Rattle.serializability.specs.Blocks.{shares, end-member, same_block}

-- ---- one place of a log

module _ (t : Table) (G : Seen) where
  place_none : (ys : List Deed) (j : ℕ) (F : Seen) (k : ℕ) → LogRuns t j F ys G → k < j → count_if (λ a. eqb k a.place) ys ≡ 0
  place_none [] j F k r l = refl
  place_none (y ∷ ys) j F k r l = let w = r.0.step.place in
      rw (ne_eqb k y.place (λ q. omega arith), place_none ys (suc j) (astep t F y) k r.1 (omega arith))

  place-once : (ys : List Deed) (j : ℕ) (F : Seen) (k : ℕ) → LogRuns t j F ys G → j ≤ k → k < j + length ys → count_if (λ a. eqb k a.place) ys ≡ 1
  place-once [] j F k r l h = absurd (omega arith)
  place-once (y ∷ ys) j F k r l h = by_bool (eqb k y.place)
      (λ q. let w = r.0.step.place in let z = eqb-true k y.place q in rw (q, place_none ys (suc j) (astep t F y) k r.1 (omega arith)))
      (λ q. let w = r.0.step.place in let z = eqb-false k y.place q in rw (q, place-once ys (suc j) (astep t F y) k r.1 (omega arith) (omega arith)))

-- an end removes its members' marks
removed : (t : Table) (F : Seen) (b : Deed) → Ok t F b → is_end b.move ≡ true → (o : Origin) → is_in_o o b.members ≡ true → (astep t F b).cell o ≡ none
unfolding astep
removed t F b k en o h =
    let E = end-ok t F b k en in
    let m = end-member F b E o h in
    mark-gone t F.cell b k.es (received F b) o m.0 b.move k.tests en (rw m.3 (one_in b.touched E.one)) m.1 m.2

module _ (t : Table) (sd : Shaped t) (G : Seen) where
  -- x shares no member with an end before it
  ended-before : (i : ℕ) (F : Seen) (b : Deed) (zs ys : List Deed) (x : Deed) → Good i F → LogRuns t i F (b ∷ zs ++ x ∷ ys) G → is_end x.move ≡ false
      → ends_member_of (act_of x) (act_of b) ≡ false
  ended-before i F b zs ys x g r nx = is_false (ends_member_of (act_of x) (act_of b)) (λ h.
      let en = and_left (is_end b.move) (belongs_to (act_of b) (act_of x)) h in
      let sh = and_right (is_inner (act_of x)) (shares x b) (and_right (is_end b.move) (belongs_to (act_of b) (act_of x)) h) in
      go en (any_found (λ o. MarkAt (astep t (seen_after t (astep t F b) zs) x).cell o (least x.touched)) (λ o. any (same_origin o) b.members)
      x.members sh
      (rest.0.marked nx).0))
    where
      rest : LogRuns t (suc i + length zs) (seen_after t (astep t F b) zs) (x ∷ ys) G
      rest = (log-rest t sd (suc i) (astep t F b) G zs (x ∷ ys) (next-good t sd G i F b (zs ++ x ∷ ys) g r.0) r.1 (suc i + length zs) refl).0

      gone : (o : Origin) → is_end b.move ≡ true → is_in_o o b.members ≡ true → (astep t (seen_after t (astep t F b) zs) x).cell o ≡ none
      gone o en h = none-stay t (seen_after t (astep t F b) zs) x rest.0.step.ok o
          (none_after t (suc i) (astep t F b) G zs (x ∷ ys) r.1 o (removed t F b r.0.step.ok en o h)
          (let m = end-member F b (end-ok t F b r.0.step.ok en) o h in let w = g.makers o m.0 m.1 in omega arith))
          (let m = end-member F b (end-ok t F b r.0.step.ok en) o h in let w = g.makers o m.0 m.1 in let p = rest.0.step.place in omega arith)

      go : is_end b.move ≡ true → (o : Origin) × (any (same_origin o) b.members ≡ true)
          × (MarkAt (astep t (seen_after t (astep t F b) zs) x).cell o (least x.touched)) → ⊥
      go en (o, z, (e, p, k, w)) = none-some (sym (gone o en z) ∙ p)

  none_before : (xs : List Deed) (i : ℕ) (F : Seen) (x : Deed) (ys : List Deed) → Good i F → LogRuns t i F (xs ++ x ∷ ys) G → is_end x.move ≡ false
      → All (λ b. ends_member_of (act_of x) (act_of b) ≡ false) xs
  none_before [] i F x ys g r nx = tt
  none_before (b ∷ xs) i F x ys g r nx = (
    ended-before i F b xs ys x g r nx,
    none_before xs (suc i) (astep t F b) x ys (next-good t sd G i F b (xs ++ x ∷ ys) g r.0)
        r.1 nx,
  )

  -- the commit or abort after x with which it shares a member is the one at the place of its key
  after-key : (i : ℕ) (F : Seen) (x : Deed) (zs : List Deed) (ys : List Deed) → Good i F → LogRuns t i F (x ∷ zs ++ ys) G → is_end x.move ≡ false
      → is_empty x.touched ≡ false
      → All (λ a. ends_member_of (act_of x) (act_of a) ≡ eqb x.key a.place) ys
  after-key i F x zs [] g r nx ne = tt
  after-key i F x zs (a ∷ ys) g r nx ne = (
    by_bool (is_end a.move)
        (λ en. rw (en, nx, (r.0.marked nx).1 ∙ ne) (sym (same_block t sd G i F x zs ys a g r nx ne en)))
        (λ en. rw en (sym (ne_eqb x.key a.place (λ w. ender-not t sd G a ys en zs (suc i) (astep t F x) r.1 (least x.touched) (sym (r.0.key
        ∙ key-full (is_end x.move) i x.touched (zs ++ a ∷ ys) nx ne) ∙ w))))),
    after-key i F x (zs ++ a ∷ []) ys g (subst (λ (l : List Deed). LogRuns t i F (x ∷ l) G) (sym (append_assoc zs (a ∷ []) ys)) r) nx ne,
  )

  one-after : (i : ℕ) (F : Seen) (x : Deed) (ys : List Deed) → Good i F → LogRuns t i F (x ∷ ys) G → NoneOpen G → is_end x.move ≡ false
      → is_empty x.touched ≡ false → count_if (λ a. ends_member_of (act_of x) (act_of a)) ys ≡ 1
  one-after i F x ys g r n nx ne =
      count_same (λ a. ends_member_of (act_of x) (act_of a)) (λ a. eqb x.key a.place) ys (after-key i F x [] ys g r nx ne)
      ∙ place-once t G ys (suc i) (astep t F x) x.key r.1
      (let y = r.0.key ∙ key-full (is_end x.move) i x.touched ys nx ne in let z = ender-ge (suc i) ys (least x.touched) in omega arith)
      (let w = (key-bound t sd G i F (x ∷ ys) g r n).0 in omega arith)

  pub one-block-of : (xs : List Deed) (F : Seen) (x : Deed) (ys : List Deed) → Good 0 F → LogRuns t 0 F (xs ++ x ∷ ys) G → NoneOpen G
      → is_inner (act_of x) ≡ true
      → (count_if (λ a. ends_member_of (act_of x) (act_of a)) (xs ++ x ∷ ys) ≡ 1) × (count_if (λ a. ends_member_of (act_of x) (act_of a)) ys ≡ 1)
  one-block-of xs F x ys g r n h =
      let nx = not-true (is_end x.move) (and_left (not (is_end x.move)) (not (is_empty x.members)) h) in
      let rest = log-rest t sd 0 F G xs (x ∷ ys) g r (0 + length xs) refl in
      let ne = sym (rest.0.0.marked nx).1 ∙ not-true (is_empty x.members) (and_right (not (is_end x.move)) (not (is_empty x.members)) h) in
      let one = one-after (0 + length xs) (seen_after t F xs) x ys rest.1 rest.0 n nx ne in
      (total xs ys (none_before xs 0 F x ys g r nx) nx one, one)
    where
      total : (xs ys : List Deed) → All (λ b. ends_member_of (act_of x) (act_of b) ≡ false) xs → is_end x.move ≡ false
          → count_if (λ a. ends_member_of (act_of x) (act_of a)) ys ≡ 1 → count_if (λ a. ends_member_of (act_of x) (act_of a)) (xs ++ x ∷ ys) ≡ 1
      total xs ys b nx one =
          let z : ends_member_of (act_of x) (act_of x) ≡ false = ap (λ (c : Bool). c && belongs_to (act_of x) (act_of x)) nx in
          let k = ap one_if z in
          let u = count_none (λ a. ends_member_of (act_of x) (act_of a)) xs b in
          let w = count-append (λ a. ends_member_of (act_of x) (act_of a)) xs (x ∷ ys) in
          omega arith
