-- Following a member mark through a log: the key of a move is the place of the commit or abort that removes its members' marks.
use Rattle.std.specs.Prelude.{◌≡◌, Bool, false, cond, ℕ, suc, ◌+◌, ◌≤◌, length}
use Rattle.std.proofs.Math.Path.{refl, ap}
use Rattle.std.proofs.Common.{sym, subst, ◌∙◌, inl, inr, arith}
use Rattle.std.proofs.Math.Bool.{true}
use Rattle.std.proofs.Math.Option.{none, some}
use mathlib.Core.List.{List, [], ◌∷◌, ◌++◌}
use Rattle.lists.specs.Lists.{is_in, least}
use Rattle.lists.specs.Choices.{by_bool, clash, is_false}
use Rattle.semantics.specs.Table.{Table}
use Rattle.semantics.specs.State.{Origin, Entry}
use Rattle.semantics.specs.Serial.{is_end}
use Rattle.cells.specs.Origins.{some_inj, none-some, is_none}
use Rattle.cells.specs.Rules.{Shaped}
use Rattle.cells.specs.Deeds.{Deed}
use Rattle.serializability.specs.Keys.{ender, ender-ge}
use Rattle.cells.specs.Cells.{Source, apply, apply-inv}
use Rattle.cells.specs.Actions.{Seen, received, action_by, action_of, astep, Ok, end-ok, one_in, in_one, act-local}
use Rattle.cells.specs.Simulation.{Good}
use Rattle.cells.specs.Marks.{MarkAt, mark-stay, mark-gone}
use Rattle.serializability.specs.SameKey.{LogRuns, next-good}

abbrev pub seen_after : Table → Seen → List Deed → Seen
seen_after t F [] = F
seen_after t F (a ∷ xs) = seen_after t (astep t F a) xs

-- what is gone stays gone
pub none-stay : (t : Table) (F : Seen) (a : Deed) → Ok t F a → (o : Origin) → F.cell o ≡ none → o.maker ≤ a.place → (astep t F a).cell o ≡ none
unfolding astep
none-stay t F a k o h m = is_none (apply F.cell (action_of t (received F a) a) o) (λ e q. go e (apply-inv F.cell (action_of t (received F a) a) o e q))
  where
    go : (e : Entry) → Source F.cell (action_of t (received F a) a) o e → ⊥
    go e (inl (c, p, q, r)) = none-some (sym h ∙ p)
    go e (inr q) = let w = ((act-local t a k.es (received F a) k.tests).made o e q).0 in omega arith

pub none_after : (t : Table) (i : ℕ) (F G : Seen) (xs ys : List Deed) → LogRuns t i F (xs ++ ys) G → (o : Origin) → F.cell o ≡ none → o.maker ≤ i
    → (seen_after t F xs).cell o ≡ none
none_after t i F G [] ys r o h m = h
none_after t i F G (a ∷ xs) ys r o h m = none_after t (suc i) (astep t F a) G xs ys r.1 o
    (none-stay t F a r.0.step.ok o h (let w = r.0.step.place in omega arith)) (omega arith)

-- the rest of a log
pub log-rest : (t : Table) → Shaped t → (i : ℕ) (F G : Seen) (xs ys : List Deed) → Good i F → LogRuns t i F (xs ++ ys) G → (j : ℕ) → j ≡ i + length xs
    → LogRuns t j (seen_after t F xs) ys G × Good j (seen_after t F xs)
log-rest t sd i F G [] ys g r j q = let w : i ≡ j = omega arith in (subst (λ (k : ℕ). LogRuns t k F ys G) w r, subst (λ (k : ℕ). Good k F) w g)
log-rest t sd i F G (x ∷ xs) ys g r j q = log-rest t sd (suc i) (astep t F x) G xs ys (next-good t sd G i F x (xs ++ ys) g r.0) r.1 j (omega arith)

pub place-length : (t : Table) (i : ℕ) (F G : Seen) (xs ys : List Deed) (a : Deed) → LogRuns t i F (xs ++ a ∷ ys) G → a.place ≡ i + length xs
place-length t i F G [] ys a r = let w = r.0.step.place in omega arith
place-length t i F G (x ∷ xs) ys a r = let w = place-length t (suc i) (astep t F x) G xs ys a r.1 in omega arith

module _ (t : Table) (sd : Shaped t) (G : Seen) (a : Deed) (ys : List Deed) where
  place-ge : (i : ℕ) (F : Seen) (xs : List Deed) → LogRuns t i F (xs ++ a ∷ ys) G → i ≤ a.place
  place-ge i F xs r = let w = place-length t i F G xs ys a r in omega arith

  -- only a commit or abort ends a transaction
  pub ender-not : is_end a.move ≡ false → (xs : List Deed) (i : ℕ) (F : Seen) → LogRuns t i F (xs ++ a ∷ ys) G → (v : ℕ)
      → ender i (xs ++ a ∷ ys) v ≡ a.place → ⊥
  ender-not n [] i F r v q = go (is_in v a.touched) r.0.step.place (ender-ge (suc i) ys (least a.touched)) (ender-ge (suc i) ys v) (rw n at q)
    where
      go : (c : Bool) → a.place ≡ i → suc i ≤ ender (suc i) ys (least a.touched) → suc i ≤ ender (suc i) ys v
          → cond c (ender (suc i) ys (least a.touched)) (ender (suc i) ys v) ≡ a.place → ⊥
      go true p x y w = omega arith
      go false p x y w = omega arith
  ender-not n (x ∷ xs) i F r v q = go (λ w. ender-not n xs (suc i) (astep t F x) r.1 w) (place-ge (suc i) (astep t F x) xs r.1) (is_in v x.touched)
      (is_end x.move) q
    where
      go : ((w : ℕ) → ender (suc i) (xs ++ a ∷ ys) w ≡ a.place → ⊥) → suc i ≤ a.place → (c d : Bool)
          → cond c (cond d i (ender (suc i) (xs ++ a ∷ ys) (least x.touched))) (ender (suc i) (xs ++ a ∷ ys) v) ≡ a.place → ⊥
      go ih l true true w = omega arith
      go ih l true false w = ih (least x.touched) w
      go ih l false d w = ih v w

  module _ (en : is_end a.move ≡ true) where
    -- a mark o, in e's transaction now, will be in a's right before a if and only if a is the move that ends e's transaction
    abbrev pub Follows : ℕ → Seen → List Deed → Origin → Entry → Type 0
    Follows i F xs o e =
        (ender i (xs ++ a ∷ ys) e.owner ≡ a.place → MarkAt (seen_after t F xs).cell o (least a.touched))
        × ((d : Entry) → (seen_after t F xs).cell o ≡ some d → d.owner ≡ least a.touched → ender i (xs ++ a ∷ ys) e.owner ≡ a.place)

    pub follow : (xs : List Deed) (i : ℕ) (F : Seen) → Good i F → LogRuns t i F (xs ++ a ∷ ys) G → (o : Origin) (e : Entry) → F.cell o ≡ some e → e.kind ≡ 3
        → Follows i F xs o e
    unfolding astep
    follow [] i F g r o e h k = (
      λ q. by_bool (is_in e.owner a.touched)
          (λ w. (e, h, k, in_one a.touched e.owner (end-ok t F a r.0.step.ok en).one w))
          (λ w. absurd (let z : ender i (a ∷ ys) e.owner ≡ ender (suc i) ys e.owner = rw w in let y = ender-ge (suc i) ys e.owner in
          let x = r.0.step.place in omega arith)),
      λ d p q. let w : e.owner ≡ least a.touched = ap (λ (x : Entry). x.owner) (some_inj (sym h ∙ p)) ∙ q in
          let z : is_in e.owner a.touched ≡ true = rw w (one_in a.touched (end-ok t F a r.0.step.ok en).one) in
          rw (z, en) (sym r.0.step.place),
    )
    follow (x ∷ xs) i F g r o e h k = go (λ e' h' k'. follow xs (suc i) (astep t F x) (next-good t sd G i F x (xs ++ a ∷ ys) g r.0) r.1 o e' h' k')
        (is_end x.move) refl (is_in e.owner x.touched) refl
      where
        stays : (is_end x.move ≡ true → is_in e.owner x.touched ≡ false)
            → MarkAt (apply F.cell (action_by t x.place x.picks x.touched (received F x) x.move)) o
            (cond (is_in e.owner x.touched) (least x.touched) e.owner)
        stays n = mark-stay t F.cell x r.0.step.ok.es (received F x) o e x.move r.0.step.ok.tests r.0.step.ok.found n h k

        step-to : (e' : Entry) → Follows (suc i) (astep t F x) xs o e' → ender i (x ∷ xs ++ a ∷ ys) e.owner ≡ ender (suc i) (xs ++ a ∷ ys) e'.owner
            → Follows i F (x ∷ xs) o e
        step-to e' ih q = ((λ w. ih.0 (sym q ∙ w)), (λ d p w. q ∙ ih.1 d p w))

        same_end : (v : ℕ) → (is_end x.move ≡ true → is_in e.owner x.touched ≡ false)
            → v ≡ cond (is_in e.owner x.touched) (least x.touched) e.owner
            → ender i (x ∷ xs ++ a ∷ ys) e.owner ≡ ender (suc i) (xs ++ a ∷ ys) v
        same_end v n q = by_bool (is_in e.owner x.touched)
            (λ w. let y : v ≡ least x.touched = q ∙ rw w in let z : is_end x.move ≡ false = is_false (is_end x.move) (λ z. clash w (n z)) in
            rw (w, z, y))
            (λ w. let y : v ≡ e.owner = q ∙ rw w in rw (w, y))

        go : ((e' : Entry) → (astep t F x).cell o ≡ some e' → e'.kind ≡ 3 → Follows (suc i) (astep t F x) xs o e') → (b : Bool) → is_end x.move ≡ b
            → (c : Bool)
            → is_in e.owner x.touched ≡ c → Follows i F (x ∷ xs) o e
        go ih true p true q = (
          (λ w. absurd (let y = place-ge (suc i) (astep t F x) xs r.1 in let z : ender i (x ∷ xs ++ a ∷ ys) e.owner ≡ i = rw (q, p) in omega arith)),
          (λ d w v. absurd (none-some (sym
              (none_after t (suc i) (astep t F x) G xs (a ∷ ys) r.1 o
              (mark-gone t F.cell x r.0.step.ok.es (received F x) o e x.move r.0.step.ok.tests p q h k)
              (let y = g.makers o e h in omega arith))
              ∙ w))),
        )
        go ih true p false q = let s = stays (λ z. q) in step-to s.0 (ih s.0 s.1 s.2) (same_end s.0.owner (λ z. q) s.3)
        go ih false p c q = let s = stays (λ z. absurd (clash z p)) in
            step-to s.0 (ih s.0 s.1 s.2) (same_end s.0.owner (λ z. absurd (clash z p)) s.3)
