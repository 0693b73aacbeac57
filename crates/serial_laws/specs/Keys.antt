-- The key of each act, by a member of it: the place of the commit or abort that ends it, and its own place if none does.
use Rattle.std.specs.Prelude.{ℕ, suc, ◌+◌, ◌-◌, Bool, true, false, ◌&&◌, not, List, [], ◌∷◌, ◌++◌, map, ◌≡◌, refl, length, get_or}
use Rattle.std.proofs.Common.{true≢false, append_assoc, sym, ap, subst, ◌∙◌, arith}
use Rattle.std.proofs.lemmas.List.{map-append}
use Rattle.std.proofs.lemmas.Simd.{map-map}
use Rattle.std.proofs.lemmas.Bool.{not-true}
use Rattle.lists.specs.Lists.{is_empty, least}
use Rattle.lists.specs.Choices.{by_bool, and_left, and_right}
use Rattle.lists.specs.Mapped.{map_each}
use Rattle.lists.specs.Each.{All, All-map, any_found, empty-nil}
use Rattle.semantics.specs.Table.{Table}
use Rattle.semantics.specs.State.{Origin}
use Rattle.semantics.specs.Serial.{Act, is_end, is_inner, same_origin}
use Rattle.cells.specs.Origins.{is_in_o, same-eq}
use Rattle.cells.specs.Rules.{Shaped}
use Rattle.cells.specs.Deeds.{Deed, act_of}
use Rattle.serializability.specs.Keys.{ender, ender-ge, key_of, key-full}
use Rattle.cells.specs.Actions.{Seen, astep, end-ok}
use Rattle.cells.specs.Simulation.{Good}
use Rattle.cells.specs.Marks.{MarkAt}
use Rattle.serializability.specs.SameKey.{LogRuns, next-good, key-bound}
use Rattle.cells.specs.Steps.{NoneOpen}
use Rattle.serializability.specs.FollowMark.{seen_after, log-rest, place-length, ender-not, follow}
use Rattle.words.specs.Origin.{origin_of}
use Rattle.serial_laws.specs.Acts.{Recorded, concerns, end_after, key_by}
use Rattle.lists.specs.Splits.{place-split, All-split}
use Rattle.serial_laws.specs.EndPlace.{BeginsFirst}

-- the word of an inner act is the origin of one of its members
abbrev pub Told : List ℕ → Act → Type 0
Told members x = is_inner x ≡ true → concerns x (origin_of (get_or members x.place 0)) ≡ true

-- as the first pass records it
pub recorded-told : (t : Table) (l origins members : List ℕ) (xs : List Act) → All (Recorded t l origins members) xs → All (Told members) xs
recorded-told t l origins members = All-map (λ x h inner. h.some
    (not-true (is_empty x.members) (and_right (not (is_end x.move)) (not (is_empty x.members)) inner)))

-- the keys of the acts xs by such words
abbrev pub keys_by : List Act → List ℕ → List ℕ
keys_by xs members = map (λ x. key_by xs (get_or members x.place 0) x) xs

-- ---- of a log's moves

module _ (t : Table) (sd : Shaped t) (G : Seen) where
  pub begins-first : (i : ℕ) (F : Seen) (xs : List Deed) → LogRuns t i F xs G → All (λ a. BeginsFirst t (act_of a)) xs
  begins-first i F [] r = tt
  begins-first i F (a ∷ xs) r = (r.0.first, begins-first (suc i) (astep t F a) xs r.1)

  module _ (i : ℕ) (F : Seen) (x : Deed) (ys : List Deed) (g : Good i F) (r : LogRuns t i F (x ∷ ys) G) where
    -- an act that is not inner has its own place for key
    outer-key : is_inner (act_of x) ≡ false → x.key ≡ x.place
    outer-key h = r.0.key ∙ go (is_end x.move) refl (is_empty x.members) refl ∙ sym r.0.step.place
      where
        go : (b : Bool) → is_end x.move ≡ b → (c : Bool) → is_empty x.members ≡ c → key_of (is_end x.move) i x.touched ys ≡ i
        go true p c q = rw p
        go false p true q = rw (p, empty-nil x.touched (sym (r.0.marked p).1 ∙ q))
        go false p false q = absurd (true≢false (sym (ap (λ (b : Bool). not b && not (is_empty x.members)) p ∙ ap not q) ∙ h))

    -- the commit or abort at the place of an inner act's key ends every member of the act
    module _ (n : NoneOpen G) (nx : is_end x.move ≡ false) (ne : is_empty x.touched ≡ false) where
      key-is : x.key ≡ ender (suc i) ys (least x.touched)
      key-is = r.0.key ∙ key-full (is_end x.move) i x.touched ys nx ne

      mark_of : (o : Origin) → is_in_o o x.members ≡ true → MarkAt (astep t F x).cell o (least x.touched)
      mark_of o h = go (any_found (λ z. MarkAt (astep t F x).cell z (least x.touched)) (same_origin o) x.members h (r.0.marked nx).0)
        where
          go : (z : Origin) × (same_origin o z ≡ true) × MarkAt (astep t F x).cell z (least x.touched) → MarkAt (astep t F x).cell o (least x.touched)
          go (z, q, m) = subst (λ (w : Origin). MarkAt (astep t F x).cell w (least x.touched)) (sym (same-eq o z q)) m

      module _ (a : Deed) (us vs : List Deed) (q : ys ≡ us ++ a ∷ vs) (at : a.place ≡ x.key) where
        runs : LogRuns t (suc i) (astep t F x) (us ++ a ∷ vs) G
        runs = subst (λ (l : List Deed). LogRuns t (suc i) (astep t F x) l G) q r.1

        ender-is : (v : ℕ) → v ≡ least x.touched → ender (suc i) (us ++ a ∷ vs) v ≡ a.place
        ender-is v w = ap (λ (l : List Deed). ender (suc i) l v) (sym q) ∙ ap (ender (suc i) ys) w ∙ sym key-is ∙ sym at

        key-ends : is_end a.move ≡ true
        key-ends = by_bool (is_end a.move) (λ en. en)
            (λ en. absurd (ender-not t sd G a vs en us (suc i) (astep t F x) runs (least x.touched) (ender-is (least x.touched) refl)))

        key-member : (o : Origin) → is_in_o o x.members ≡ true → is_in_o o a.members ≡ true
        key-member o h =
            let (e, f, k, w) = mark_of o h in
            let good = next-good t sd G i F x ys g r.0 in
            let m = (follow t sd G a vs key-ends us (suc i) (astep t F x) good runs o e f k).0 (ender-is e.owner w) in
            let rest = (log-rest t sd (suc i) (astep t F x) G us (a ∷ vs) good runs (suc i + length us) refl).0 in
            let E = end-ok t (seen_after t (astep t F x) us) a rest.0.step.ok key-ends in
            subst (λ (l : List Origin). is_in_o o l ≡ true) (sym E.members) (E.all-marks o m.0 m.1 m.3 m.2)

    -- the end of an inner act
    end_of : NoneOpen G → is_inner (act_of x) ≡ true
        → (a : Deed) × (us : List Deed) × (vs : List Deed) × (ys ≡ us ++ a ∷ vs) × (a.place ≡ x.key) × (is_end a.move ≡ true)
        × ((o : Origin) → is_in_o o x.members ≡ true → is_in_o o a.members ≡ true)
    end_of n h =
        let nx = not-true (is_end x.move) (and_left (not (is_end x.move)) (not (is_empty x.members)) h) in
        let ne = sym (r.0.marked nx).1 ∙ not-true (is_empty x.members) (and_right (not (is_end x.move)) (not (is_empty x.members)) h) in
        let low = ender-ge (suc i) ys (least x.touched) in
        let is = key-is n nx ne in
        let high = (key-bound t sd G i F (x ∷ ys) g r n).0 in
        let (a, us, vs, q, l) = place-split ys (x.key - suc i) (omega arith) in
        let w = place-length t (suc i) (astep t F x) G us vs a (subst (λ (l : List Deed). LogRuns t (suc i) (astep t F x) l G) q r.1) in
        let at : a.place ≡ x.key = omega arith in
        (a, us, vs, q, at, key-ends n nx ne a us vs q at, key-member n nx ne a us vs q at)

-- ---- the keys of a log

module _ (t : Table) (sd : Shaped t) (G F : Seen) (ds : List Deed) (g : Good 0 F) (r : LogRuns t 0 F ds G) (n : NoneOpen G) where
  -- the act that ends an inner one, among the acts of the log
  pub inner-end : (us vs : List Deed) (x : Deed) → ds ≡ us ++ x ∷ vs → is_inner (act_of x) ≡ true
      → (a : Act) × (xs : List Act) × (ys : List Act) × (map act_of ds ≡ xs ++ a ∷ ys) × (a.place ≡ x.key) × (is_end a.move ≡ true)
      × ((o : Origin) → concerns (act_of x) o ≡ true → concerns a o ≡ true)
  inner-end us vs x q h =
      let rest = log-rest t sd 0 F G us (x ∷ vs) g (subst (λ (l : List Deed). LogRuns t 0 F l G) q r) (0 + length us) refl in
      let (a, bs, cs, w, at, en, f) = end_of t sd G (0 + length us) (seen_after t F us) x vs rest.1 rest.0 n h in (
        act_of a,
        map act_of (us ++ x ∷ bs),
        map act_of cs,
        ap (map act_of) (q ∙ ap (λ (l : List Deed). us ++ x ∷ l) w ∙ sym (append_assoc us (x ∷ bs) (a ∷ cs)))
            ∙ map-append act_of (us ++ x ∷ bs) (a ∷ cs),
        at,
        en,
        f,
      )

module _ (t : Table) (sd : Shaped t) (G F : Seen) (ds : List Deed) (g : Good 0 F) (r : LogRuns t 0 F ds G) (n : NoneOpen G)
    (end-place : (xs ys : List Act) (a : Act) → map act_of ds ≡ xs ++ a ∷ ys → is_end a.move ≡ true → (o : Origin) → concerns a o ≡ true
    → end_after (o.maker - 1) 0 (map act_of ds) ≡ a.place) where
  inner-key : (us vs : List Deed) (x : Deed) → ds ≡ us ++ x ∷ vs → is_inner (act_of x) ≡ true → (o : Origin) → is_in_o o x.members ≡ true
      → end_after (o.maker - 1) 0 (map act_of ds) ≡ x.key
  inner-key us vs x q h o c =
      let (a, xs, ys, w, at, en, f) = inner-end t sd G F ds g r n us vs x q h in
      end-place xs ys a w en o (f o c) ∙ at

  key-of : (members : List ℕ) → All (Told members) (map act_of ds) → All (λ x. key_by (map act_of ds) (get_or members x.place 0) (act_of x) ≡ x.key) ds
  key-of members told = All-split (λ x. key_by (map act_of ds) (get_or members x.place 0) (act_of x) ≡ x.key) ds (λ us vs x q.
      by_bool (is_inner (act_of x))
      (λ h. rw h (inner-key us vs x q h (origin_of (get_or members x.place 0)) (told_at us vs x q h)))
      (λ h. rw h (let rest = log-rest t sd 0 F G us (x ∷ vs) g (subst (λ (l : List Deed). LogRuns t 0 F l G) q r) (0 + length us) refl in
      sym (outer-key t sd G (0 + length us) (seen_after t F us) x vs rest.1 rest.0 h))))
    where
      told_at : (us vs : List Deed) (x : Deed) → ds ≡ us ++ x ∷ vs → Told members (act_of x)
      told_at us vs x q =
          All-right (map act_of us) (act_of x) (map act_of vs) (subst (All (Told members)) (ap (map act_of) q ∙ map-append act_of us (x ∷ vs)) told)
        where
          All-right : (xs : List Act) (y : Act) (zs : List Act) → All (Told members) (xs ++ y ∷ zs) → Told members y
          All-right [] y zs h = h.0
          All-right (x ∷ xs) y zs h = All-right xs y zs h.1

  pub keys-are : (members : List ℕ) → All (Told members) (map act_of ds)
      → keys_by (map act_of ds) members ≡ map (λ x. x.key) ds
  keys-are members told = map-map (λ x. key_by (map act_of ds) (get_or members x.place 0) x) act_of ds
      ∙ map_each (λ x. key_by (map act_of ds) (get_or members x.place 0) (act_of x)) (λ x. x.key) ds (key-of members told)
