-- Which move ends a transaction: two moves of a log that touch the same transaction have the same key, so that a later move of smaller key may go first.
use Rattle.std.specs.Prelude.{◌≡◌, Bool, false, cond, ℕ, suc, ◌+◌, ◌≤◌, ◌<◌, length}
use Rattle.std.proofs.Math.Path.{refl}
use Rattle.std.proofs.Common.{sym, ap, subst, ◌∙◌, inl, inr, arith}
use Rattle.std.proofs.Math.Bool.{true}
use mathlib.Core.List.{List, [], ◌∷◌}
use Rattle.lists.specs.Lists.{is_empty, is_in, least}
use Rattle.lists.specs.Choices.{by_bool, clash}
use Rattle.lists.specs.Numbers.{least-some}
use Rattle.lists.specs.Each.{All, All-map, All-two, All-forall}
use Rattle.semantics.specs.Table.{Table}
use Rattle.semantics.specs.State.{Origin}
use Rattle.semantics.specs.Serial.{is_end, is_begin}
use Rattle.cells.specs.Origins.{is_in_o, found_at}
use Rattle.cells.specs.Rules.{Shaped}
use Rattle.cells.specs.Deeds.{Deed}
use Rattle.serializability.specs.Keys.{ender, key_of, ender-ge, key-in, KeyCases, key-cases}
use Rattle.cells.specs.Cells.{mine}
use Rattle.cells.specs.Actions.{StepOk, Seen, astep, Runs}
use Rattle.cells.specs.Simulation.{Mark, Good}
use Rattle.cells.specs.Marks.{MarkAt, first_of}
use Rattle.cells.specs.Swap.{Swap}
use Rattle.serializability.specs.Sort.{Swaps, Pairs}
use Rattle.cells.specs.Steps.{NoneOpen, next_le, not-zero, touched-bound, old-mark, keeps-mark, mark-left, good-next, still, only}

-- the members of a move that is no end: right after it their marks are in its transaction, and it has some if it touches some transaction
abbrev pub MembersMarked : Table → Seen → Deed → Type 0
MembersMarked t F a = is_end a.move ≡ false → All (λ o. MarkAt (astep t F a).cell o (least a.touched)) a.members
    × (is_empty a.members ≡ is_empty a.touched)

-- the move a of a log, at place i, before the moves xs
pub record LogStep (t : Table) (i : ℕ) (F : Seen) (a : Deed) (xs : List Deed) : Type 0 where
  pub step : StepOk t i F a
  pub key : a.key ≡ key_of (is_end a.move) i a.touched xs
  pub marked : MembersMarked t F a
  pub first : is_begin t a.move ≡ true → a.members ≡ first_of a.place ∷ []

abbrev pub LogRuns : Table → ℕ → Seen → List Deed → Seen → Type 0
LogRuns t i F [] G = F ≡ G
LogRuns t i F (a ∷ xs) G = LogStep t i F a xs × LogRuns t (suc i) (astep t F a) xs G

pub runs : (t : Table) (i : ℕ) (F : Seen) (xs : List Deed) (G : Seen) → LogRuns t i F xs G → Runs t F xs G
runs t i F [] G h = h
runs t i F (a ∷ xs) G h = (h.0.step.ok, runs t (suc i) (astep t F a) xs G h.1)

-- ---- the log

module _ (t : Table) (sd : Shaped t) (G : Seen) where
  pub next-good : (i : ℕ) (F : Seen) (a : Deed) (xs : List Deed) → Good i F → LogStep t i F a xs → Good (suc i) (astep t F a)
  next-good i F a xs g r = good-next t sd i F a g r.step

  -- the key of a move that touches the transaction v is the place of v's end
  fate : (i : ℕ) (F : Seen) (xs : List Deed) → Good i F → LogRuns t i F xs G → (v : ℕ) → (v ≡ 0 → ⊥) → v < F.next
      → All (λ x. is_in v x.touched ≡ true → Mark F.cell v × (x.key ≡ ender i xs v)) xs
  fate i F [] g r v nz lt = tt
  fate i F (a ∷ xs) g r v nz lt = (
    λ h. (old-mark t sd i F a g r.0.step v lt h, r.0.key ∙ key-in (is_end a.move) i v a.touched xs h ∙ rw h),
    All-map {P = λ x. is_in v x.touched ≡ true → Mark (astep t F a).cell v × (x.key ≡ ender (suc i) xs v)} {Q = λ x. is_in v x.touched ≡ true
        → Mark F.cell v ×
        (x.key ≡ ender i (a ∷ xs) v)}
        (λ x ih h. let q = ih h in let s = still t sd i F a g r.0.step v nz lt q.0 in (s.0, q.1 ∙ same_end s.1))
        xs (fate (suc i) (astep t F a) xs (next-good i F a xs g r.0) r.1 v nz (let w = next_le t F a in omega arith)),
  )
    where
      same_end : (is_in v a.touched ≡ true → (v ≡ least a.touched) × (is_end a.move ≡ false)) → ender (suc i) xs v ≡ ender i (a ∷ xs) v
      same_end s = by_bool (is_in v a.touched)
          (λ y. let q = s y in rw (y, q.1, ← q.0))
          (λ y. rw y)

  -- a transaction that is there is ended before a log that leaves none open is over
  fate-bound : (i : ℕ) (F : Seen) (xs : List Deed) → Good i F → LogRuns t i F xs G → NoneOpen G → (v : ℕ) → (v ≡ 0 → ⊥) → Mark F.cell v
      → ender i xs v < i + length xs
  unfolding NoneOpen
  fate-bound i F [] g r n v nz (o, e, h, x, w) = absurd (nz (sym w ∙ n o e (ap (λ (H : Seen). H.cell o) (sym r) ∙ h)))
  fate-bound i F (a ∷ xs) g r n v nz l =
      go (λ w z m. fate-bound (suc i) (astep t F a) xs (next-good i F a xs g r.0) r.1 n w z m) (is_in v a.touched) refl (is_end a.move) refl
    where
      moved : (is_end a.move ≡ true → is_in v a.touched ≡ false) → Mark (astep t F a).cell (cond (is_in v a.touched) (least a.touched) v)
      moved z = keeps-mark t sd i F a g r.0.step v z l

      go : ((w : ℕ) → (w ≡ 0 → ⊥) → Mark (astep t F a).cell w → ender (suc i) xs w < suc i + length xs) → (c : Bool) → is_in v a.touched ≡ c → (d : Bool)
          → is_end a.move ≡ d
          → cond c (cond d i (ender (suc i) xs (least a.touched))) (ender (suc i) xs v) < i + length (a ∷ xs)
      go ih true p true q = omega arith
      go ih true p false q =
          let h = ih (least a.touched) (not-zero t sd i F a g r.0.step (least a.touched) (least-some v a.touched p))
          (subst (λ (x : Bool). Mark (astep t F a).cell (cond x (least a.touched) v)) p (moved (λ z. absurd (clash z q)))) in omega arith
      go ih false p d q =
          let h = ih v nz (subst (λ (x : Bool). Mark (astep t F a).cell (cond x (least a.touched) v)) p (moved (λ z. p))) in omega arith

  -- a place is not above its key
  pub places-below-keys : (i : ℕ) (F : Seen) (xs : List Deed) → LogRuns t i F xs G → All (λ x. (i ≤ x.place) × (x.place ≤ x.key)) xs
  places-below-keys i F [] r = tt
  places-below-keys i F (a ∷ xs) r = (
    (let w = r.0.step.place in omega arith, ge (key-cases (is_end a.move) i a.touched xs)),
    All-map {P = λ x. (suc i ≤ x.place) × (x.place ≤ x.key)} {Q = λ x. (i ≤ x.place) × (x.place ≤ x.key)} (λ x h. (let w = h.0 in omega arith, h.1)) xs
        (places-below-keys (suc i) (astep t F a) xs r.1),
  )
    where
      ge : KeyCases (is_end a.move) i a.touched xs → a.place ≤ a.key
      ge (inl q) = let w = r.0.step.place in let u = r.0.key in omega arith
      ge (inr q) = let w = r.0.step.place in let u = r.0.key in let z = q.2 in let y = ender-ge (suc i) xs (least a.touched) in omega arith

  pub key-bound : (i : ℕ) (F : Seen) (xs : List Deed) → Good i F → LogRuns t i F xs G → NoneOpen G → All (λ x. x.key < i + length xs) xs
  key-bound i F [] g r n = tt
  key-bound i F (a ∷ xs) g r n = (
    lt (key-cases (is_end a.move) i a.touched xs),
    All-map {P = λ x. x.key < suc i + length xs} {Q = λ x. x.key < i + length (a ∷ xs)} (λ x h. omega arith) xs
        (key-bound (suc i) (astep t F a) xs (next-good i F a xs g r.0) r.1 n),
  )
    where
      lt : KeyCases (is_end a.move) i a.touched xs → a.key < i + length (a ∷ xs)
      lt (inl q) = let u = r.0.key in omega arith
      lt (inr q) = let u = r.0.key in let z = q.2 in
          let y = fate-bound (suc i) (astep t F a) xs (next-good i F a xs g r.0) r.1 n (least a.touched)
          (not-zero t sd i F a g r.0.step (least a.touched) q.1)
          (mark-left t sd i F a g r.0.step (least a.touched) q.0 q.1) in omega arith

  -- a later move with a smaller key may go first
  pub pairs : (i : ℕ) (F : Seen) (xs : List Deed) → Good i F → LogRuns t i F xs G → Pairs t xs
  pairs i F [] g r = tt
  pairs i F (a ∷ xs) g r = (swaps (key-cases (is_end a.move) i a.touched xs), pairs (suc i) (astep t F a) xs g' r.1)
    where
      g' : Good (suc i) (astep t F a)
      g' = next-good i F a xs g r.0

      back-of : (o : Origin) → is_in_o o a.picks ≡ true → o.maker ≤ a.place
      back-of o h = let q = found_at F.cell (mine a.touched) o a.picks r.0.step.ok.es r.0.step.ok.found r.0.step.ok.own h in
          let w = g.makers o q.0 q.1 in let u = r.0.step.place in omega arith

      touches : All (λ x. (v : ℕ) → (is_in v a.touched ≡ true) → is_in v x.touched ≡ true → Mark (astep t F a).cell v × (x.key ≡ ender (suc i) xs v)) xs
      touches = All-forall (λ v. is_in v a.touched ≡ true) (λ v x. is_in v x.touched ≡ true → Mark (astep t F a).cell v × (x.key ≡ ender (suc i) xs v)) xs
          (λ v h. fate (suc i) (astep t F a) xs g' r.1 v (not-zero t sd i F a g r.0.step v h) (touched-bound t sd i F a g r.0.step v h))

      same_key : (x : Deed) → x.key < a.key → (v : ℕ) → is_in v a.touched ≡ true → Mark (astep t F a).cell v → x.key ≡ ender (suc i) xs v
          → key_of (is_end a.move) i a.touched xs ≡ ender (suc i) xs (least a.touched) → ⊥
      same_key x lt v y l e d = let c : ender (suc i) xs v ≡ ender (suc i) xs (least a.touched) = ap (ender (suc i) xs)
          (only t sd i F a g r.0.step v y l) in
          let u = r.0.key in omega arith

      swaps : KeyCases (is_end a.move) i a.touched xs → Swaps t a xs
      swaps (inl q) = All-map {P = λ x. (suc i ≤ x.place) × (x.place ≤ x.key)} {Q = λ x. x.key < a.key → Swap t a x}
          (λ x h lt. let u = r.0.key in let w = h.0 in
          let y = h.1 in absurd (omega arith)) xs (places-below-keys (suc i) (astep t F a) xs r.1)
      swaps (inr q) = All-two (λ x p h lt. record {
        reacts = q.0;
        some-touched = q.1;
        apart = λ v y z. same_key x lt v y (h v y z).0 (h v y z).1 q.2;
        earlier = let w = p.0 in let u = r.0.step.place in omega arith;
        back = back-of;
      }) xs (places-below-keys (suc i) (astep t F a) xs r.1) touches
