-- Each member that a commit or abort ends was is_begin by a move before it: where a member mark comes from.
use Rattle.std.specs.Prelude.{◌≡◌, refl, Bool, true, false, cond, ◌&&◌, ◌⊎◌, List, [], ◌∷◌, ◌++◌, ℕ, suc, ◌+◌, eqb, ltb, length}
use Rattle.std.proofs.Common.{sym, ap, subst, ◌∙◌, inl, inr, arith, ltb-true}
use Rattle.std.proofs.Math.Option.{none, some}
use Rattle.lists.specs.Lists.{all, any}
use Rattle.lists.specs.Tests.{or-right-true}
use Rattle.semantics.specs.Table.{Table, Rule, rule_at, begins, product_atoms}
use Rattle.semantics.specs.State.{Origin, Entry, owned}
use Rattle.semantics.specs.Move.{Move, react, commit, abort, to_global}
use Rattle.semantics.specs.Serial.{is_end, same_origin, is_begin}
use Rattle.semantics.specs.declared.Atom.{Atom}
use Rattle.cells.specs.Origins.{is_in_o, is_in_o-head, look, some_inj, none-some, look-all, same-eq, omap-some}
use Rattle.cells.specs.ByOrigin.{look-map}
use Rattle.cells.specs.Rules.{Shape, plain, begin, inner, Shaped, make, make-kinds, kinds-plain, kinds-inner, kinds-rest}
use Rattle.cells.specs.Deeds.{Deed}
use Rattle.cells.specs.Cells.{Cells, Source, apply-inv}
use Rattle.cells.specs.Actions.{Seen, strip, received, left, action_by, action_of, astep, end-ok}
use Rattle.cells.specs.Marks.{first_of}
use Rattle.cells.specs.Simulation.{Good}
use Rattle.serializability.specs.SameKey.{LogRuns}
use Rattle.serializability.specs.FollowMark.{seen_after, log-rest}
use Rattle.serializability.specs.Blocks.{end-member}

no-marks : (i w : ℕ) (vs : List ℕ) (q : ℕ) (ats : List Atom) (o : Origin) (d : Entry) → all (λ e. ltb e.kind 3) (make i w vs q ats) ≡ true
    → look o (make i w vs q ats) ≡ some d → d.kind ≡ 3 → ⊥
no-marks i w vs q ats o d h k z = let y = ltb-true d.kind 3 (look-all (λ e. ltb e.kind 3) o (make i w vs q ats) h k) in omega arith

-- a product that is a member mark is the first product of a begin
made-mark : (R : Rule) → Shape R → (i w : ℕ) (vs : List ℕ) (o : Origin) (d : Entry) → look o (make (suc i) w vs 0 (product_atoms R)) ≡ some d → d.kind ≡ 3
    → (begins R ≡ true) × (o ≡ first_of i)
made-mark R (plain c b h) i w vs o d k z = absurd (no-marks (suc i) w vs 0 (product_atoms R) o d
    (make-kinds (λ n. ltb n 3) (suc i) w vs 0 (product_atoms R) (kinds-plain (product_atoms R) h)) k z)
made-mark R (inner c b h n) i w vs o d k z = absurd (no-marks (suc i) w vs 0 (product_atoms R) o d
    (make-kinds (λ n. ltb n 3) (suc i) w vs 0 (product_atoms R) (kinds-inner (product_atoms R) n)) k z)
made-mark R (begin c b h m rest q y n) i w vs o d k z = (
  b,
  go (same_origin o (first_of i)) refl
      (subst (λ (l : List Atom). look o (make (suc i) w vs 0 l) ≡ some d) q k),
)
  where
    go : (x : Bool) → same_origin o (first_of i) ≡ x → look o (make (suc i) w vs 0 (m ∷ rest)) ≡ some d → o ≡ first_of i
    go true p k = same-eq o (first_of i) p
    go false p k = absurd (no-marks (suc i) w vs 1 rest o d (make-kinds (λ n. ltb n 3) (suc i) w vs 1 rest (kinds-rest rest n)) (rw p at k) z)

left-mark : (k b : ℕ) (c d : Entry) → left k b c ≡ some d → d.kind ≡ 3 → c.kind ≡ 3
left-mark k b c d h z = go (owned b c) (eqb c.kind k) h
  where
    go : (x y : Bool) → cond x (cond y (some (to_global c)) none) (some c) ≡ some d → c.kind ≡ 3
    go true true w = absurd (let v : d.kind ≡ 0 = ap (λ (x : Entry). x.kind) (sym (some_inj w)) in omega arith)
    go true false w = absurd (none-some w)
    go false y w = ap (λ (x : Entry). x.kind) (some_inj w) ∙ z

-- a mark after a move was there before, or the move is its begin
mark-from : (t : Table) → Shaped t → (f : Cells) (a : Deed) (vs : List ℕ) (mv : Move) (o : Origin) (d : Entry)
    → Source f (action_by t a.place a.picks a.touched vs mv) o d → d.kind ≡ 3
    → ((c : Entry) × (f o ≡ some c) × (c.kind ≡ 3)) ⊎ ((is_begin t mv ≡ true) × (o ≡ first_of a.place))
unfolding action_by
mark-from t sd f a vs (react r ps) o d (inl (c, p, g, q)) z = inl (c, p, ap (λ (x : Entry). x.kind) (some_inj q) ∙ z)
mark-from t sd f a vs (react r ps) o d (inr q) z =
    let l = make (suc a.place) _ vs 0 (product_atoms (rule_at t r)) in
    let y = omap-some strip (look o l) d (sym (look-map strip (λ e. refl) o l) ∙ q) in
    inr (made-mark (rule_at t r) (sd r) a.place _ vs o y.0 y.1 (ap (λ (x : Entry). x.kind) y.2 ∙ z))
mark-from t sd f a vs (commit b) o d (inl (c, p, g, q)) z = inl (c, p, left-mark 0 _ c d q z)
mark-from t sd f a vs (commit b) o d (inr q) z = absurd (none-some q)
mark-from t sd f a vs (abort b) o d (inl (c, p, g, q)) z = inl (c, p, left-mark 1 _ c d q z)
mark-from t sd f a vs (abort b) o d (inr q) z = absurd (none-some q)

-- the begin among xs of the member o
abbrev pub begun_in : Table → Origin → List Deed → Bool
begun_in t o xs = any (λ x. is_begin t x.move && any (same_origin o) x.members) xs

mark-source : (t : Table) → Shaped t → (xs : List Deed) (i : ℕ) (F G : Seen) (ys : List Deed) → LogRuns t i F (xs ++ ys) G → (o : Origin) (d : Entry)
    → (seen_after t F xs).cell o ≡ some d → d.kind ≡ 3
    → ((c : Entry) × (F.cell o ≡ some c) × (c.kind ≡ 3)) ⊎ (begun_in t o xs ≡ true)
unfolding astep
mark-source t sd [] i F G ys r o d h z = inl (d, h, z)
mark-source t sd (x ∷ xs) i F G ys r o d h z = go (mark-source t sd xs (suc i) (astep t F x) G ys r.1 o d h z)
  where
    begun-here : (is_begin t x.move ≡ true) × (o ≡ first_of x.place) → begun_in t o (x ∷ xs) ≡ true
    begun-here (b, q) =
        let m : any (same_origin o) x.members ≡ true = subst (λ (l : List Origin). any (same_origin o) l ≡ true) (sym (r.0.first b))
        (rw q (is_in_o-head (first_of x.place) [])) in
        rw (b, m)

    two : ((c : Entry) × (F.cell o ≡ some c) × (c.kind ≡ 3)) ⊎ ((is_begin t x.move ≡ true) × (o ≡ first_of x.place))
        → ((c : Entry) × (F.cell o ≡ some c) × (c.kind ≡ 3)) ⊎ (begun_in t o (x ∷ xs) ≡ true)
    two (inl q) = inl q
    two (inr q) = inr (begun-here q)

    go : ((c : Entry) × ((astep t F x).cell o ≡ some c) × (c.kind ≡ 3)) ⊎ (begun_in t o xs ≡ true)
        → ((c : Entry) × (F.cell o ≡ some c) × (c.kind ≡ 3)) ⊎ (begun_in t o (x ∷ xs) ≡ true)
    go (inl (c, p, k)) = two (mark-from t sd F.cell x (received F x) x.move o c (apply-inv F.cell (action_of t (received F x) x) o c p) k)
    go (inr q) = inr (or-right-true (is_begin t x.move && any (same_origin o) x.members) q)

-- from a start without marks
pub begun-before-of : (t : Table) → Shaped t → (xs : List Deed) (F G : Seen) (a : Deed) (ys : List Deed) → Good 0 F
    → ((o : Origin) (c : Entry) → F.cell o ≡ some c → c.kind ≡ 3 → ⊥) → LogRuns t 0 F (xs ++ a ∷ ys) G → is_end a.move ≡ true
    → (o : Origin) → is_in_o o a.members ≡ true → begun_in t o xs ≡ true
begun-before-of t sd xs F G a ys g none_yet r en o h =
    let k = (log-rest t sd 0 F G xs (a ∷ ys) g r (0 + length xs) refl).0.0.step.ok in
    let m = end-member (seen_after t F xs) a (end-ok t (seen_after t F xs) a k en) o h in
    go (mark-source t sd xs 0 F G (a ∷ ys) r o m.0 m.1 m.2)
  where
    go : ((c : Entry) × (F.cell o ≡ some c) × (c.kind ≡ 3)) ⊎ (begun_in t o xs ≡ true) → begun_in t o xs ≡ true
    go (inl (c, p, z)) = absurd (none_yet o c p z)
    go (inr q) = q
