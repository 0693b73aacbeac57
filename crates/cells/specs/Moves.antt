-- What an allowed move leaves, as a function of the origin; and what it is to be allowed.
use Rattle.std.specs.Prelude.{◌≡◌, Bool, not, ◌&&◌, ◌||◌, ℕ, suc, ◌<◌, eqb, length}
use Rattle.std.proofs.Math.Path.{refl, ap, subst}
use Rattle.std.proofs.Common.{sym, ◌∙◌, arith, eqb-true, eq-eqb}
use Rattle.std.proofs.Math.Bool.{true, false, cond}
use Rattle.std.proofs.Math.Option.{Option, none, some}
use mathlib.Core.List.{List, [], ◌∷◌, ◌++◌, map}
use Rattle.lists.specs.Lists.{least, without, keep}
use Rattle.lists.specs.Choices.{is_false}
use Rattle.lists.specs.Each.{All}
use Rattle.semantics.specs.Table.{Table, Rule, rule_at, product_atoms}
use Rattle.semantics.specs.State.{Origin, Entry, State, owned}
use Rattle.semantics.specs.Move.{Move, react, commit, abort, unless, picked, owners_at, owners_fit, merged, reacted, is_open, may_commit, may_abort, to_global, freed, ended, allowed, applied, step}
use Rattle.semantics.specs.Serial.{origins_of, same_origin, after}
use Rattle.semantics.specs.declared.Atom.{Atom}
use Rattle.semantics.specs.declared.Refusal.TheVariants.{NoTransaction, EndNotAllowed}
use Rattle.semantics.specs.declared.Verdict.TheVariants.{Allowed}
use Rattle.wellformed.specs.Verdicts.{both-allowed, unless_allowed}
use Rattle.wellformed.specs.Picks.{ReactGiven, react-given}
use Rattle.cells.specs.Origins.{or_else, omap, bind_o, same-eq, is_in_o, look, none-some, look-origin, look-all, is_none}
use Rattle.cells.specs.ByOrigin.{look-append, look-map, Uniq, look-keep, uniq-keep, uniq-map, uniq-append, look-without, uniq-without, only_if}
use Rattle.cells.specs.Rules.{Shape, values, touched_by, make, make-all, products-make}
use Rattle.cells.specs.Actions.{left}

-- ---- products have different origins

pub look-other : (o : Origin) (e : Entry) (l : List Entry) → (e.origin.index ≡ o.index → ⊥) → look o (e ∷ l) ≡ look o l
look-other o e l h = rw (is_false (same_origin o e.origin) (λ w. h (sym (ap (λ (x : Origin). x.index) (same-eq o e.origin w)))))

pub make-none : (i w : ℕ) (vs : List ℕ) (q : ℕ) (ats : List Atom) (o : Origin) → o.index < q → look o (make i w vs q ats) ≡ none
make-none i w vs q [] o h = refl
make-none i w vs q (a ∷ ats) o h = look-other o (record { origin = record { maker = i; index = q }; owner = w; kind = _; port = a.port; value = _ })
    (make i w vs (suc q) ats) (λ e. omega arith)
    ∙ make-none i w vs (suc q) ats o (omega arith)

pub make-uniq : (i w : ℕ) (vs : List ℕ) (q : ℕ) (ats : List Atom) → Uniq (make i w vs q ats)
make-uniq i w vs q [] = tt
make-uniq i w vs q (a ∷ ats) = (make-none i w vs (suc q) ats (record { maker = i; index = q }) (omega arith), make-uniq i w vs (suc q) ats)

pub make-maker : (i w : ℕ) (vs : List ℕ) (q : ℕ) (ats : List Atom) (o : Origin) (e : Entry) → look o (make i w vs q ats) ≡ some e → o.maker ≡ i
make-maker i w vs q ats o e k =
    ap (λ (x : Origin). x.maker) (sym (look-origin o (make i w vs q ats) k))
    ∙ eqb-true e.origin.maker i (look-all (λ e. eqb e.origin.maker i) o (make i w vs q ats)
    (make-all (λ e. eqb e.origin.maker i) i w vs q ats (λ e p q. eq-eqb e.origin.maker i p)) k)

-- ---- a reaction

abbrev pub products_of : Rule → ℕ → State → List ℕ → List Entry
products_of R i s ps = make i (least (touched_by R s.next (owners_at s ps))) (values (picked s ps)) 0 (product_atoms R)

module _ (R : Rule) (sh : Shape R) (i : ℕ) (s : State) (ps : List ℕ) (fit : owners_fit R.class (owners_at s ps) ≡ true) (u : Uniq s.entries)
    (rng : All (λ p. p < length s.entries) ps)
    (fr : (o : Origin) → o.maker ≡ i → look o s.entries ≡ none) where
  pub kept : List Entry
  kept = map (merged (owners_at s ps)) (without ps 0 s.entries)

  pub entries-reacted : (reacted R i s ps).entries ≡ kept ++ products_of R i s ps
  unfolding reacted kept
  entries-reacted = ap (λ (l : List Entry). map (merged (owners_at s ps)) (without ps 0 s.entries) ++ l) (products-make R sh s (picked s ps) i fit)

  pub look-stay : (o : Origin) → look o kept ≡ cond (is_in_o o (origins_of (picked s ps))) none (omap (merged (owners_at s ps)) (look o s.entries))
  unfolding kept
  look-stay o = look-map (merged (owners_at s ps)) (λ e. refl) o (without ps 0 s.entries)
      ∙ ap (omap (merged (owners_at s ps))) (look-without s.entries ps u rng o)
      ∙ go (is_in_o o (origins_of (picked s ps)))
    where
      go : (b : Bool) → omap (merged (owners_at s ps)) (cond b none (look o s.entries)) ≡ cond b none (omap (merged (owners_at s ps)) (look o s.entries))
      go true = refl
      go false = refl

  pub look-reacted : (o : Origin) → look o (reacted R i s ps).entries
      ≡ or_else (cond (is_in_o o (origins_of (picked s ps))) none (omap (merged (owners_at s ps)) (look o s.entries))) (look o (products_of R i s ps))
  look-reacted o = ap (look o) entries-reacted ∙ look-append o kept (products_of R i s ps)
      ∙ ap (λ (x : Option Entry). or_else x (look o (products_of R i s ps))) (look-stay o)

  pub uniq-reacted : Uniq (reacted R i s ps).entries
  unfolding kept
  uniq-reacted = subst Uniq (sym entries-reacted) (uniq-append kept (products_of R i s ps) uniq-stay
      (make-uniq i (least (touched_by R s.next (owners_at s ps))) (values (picked s ps)) 0 (product_atoms R)) apart)
    where
      uniq-stay : Uniq kept
      uniq-stay = uniq-map (merged (owners_at s ps)) (λ e. refl) (without ps 0 s.entries) (uniq-without s.entries ps u rng)

      two : (b : Bool) → Path (Option Entry) (cond b none none) none
      two true = refl
      two false = refl

      apart : (o : Origin) (e : Entry) → look o kept ≡ some e → look o (products_of R i s ps) ≡ none
      apart o e k = is_none (look o (products_of R i s ps)) (λ d q.
          none-some (sym (look-stay o ∙ rw (fr o (make-maker i (least (touched_by R s.next (owners_at s ps))) (values (picked s ps)) 0 (product_atoms R) o d q))
          (two (is_in_o o (origins_of (picked s ps))))) ∙ k))

-- ---- an end

abbrev pub of_kind : ℕ → Entry → Bool
of_kind k e = eqb e.kind k

pub look-ended : (k b : ℕ) (s : State) → Uniq s.entries → (o : Origin) → look o (ended (of_kind k) b s).entries ≡ bind_o (left k b) (look o s.entries)
unfolding ended
look-ended k b s u o =
    look-map (freed (of_kind k) b) origin-same o (keep (λ e. not (owned b e) || of_kind k e) s.entries)
    ∙ ap (omap (freed (of_kind k) b)) (look-keep (λ e. not (owned b e) || of_kind k e) o s.entries u)
    ∙ go (look o s.entries)
  where
    origin-same : (e : Entry) → (freed (of_kind k) b e).origin ≡ e.origin
    origin-same e = two (owned b e && of_kind k e)
      where
        two : (c : Bool) → (cond c (to_global e) e).origin ≡ e.origin
        two true = refl
        two false = refl

    go : (x : Option Entry) → omap (freed (of_kind k) b) (bind_o (only_if (λ e. not (owned b e) || of_kind k e)) x) ≡ bind_o (left k b) x
    go none = refl
    go (some e) = two (owned b e) refl (of_kind k e) refl
      where
        two : (c : Bool) → owned b e ≡ c → (d : Bool) → of_kind k e ≡ d
            → omap (freed (of_kind k) b) (cond (not c || d) (some e) none) ≡ cond c (cond d (some (to_global e)) none) (some e)
        two true p true q = rw (p, q)
        two true p false q = refl
        two false p true q = rw p
        two false p false q = rw p

pub uniq-ended : (k b : ℕ) (s : State) → Uniq s.entries → Uniq (ended (of_kind k) b s).entries
unfolding ended
uniq-ended k b s u = uniq-map (freed (of_kind k) b) (λ e. two e (owned b e && of_kind k e)) (keep (λ e. not (owned b e) || of_kind k e) s.entries)
    (uniq-keep (λ e. not (owned b e) || of_kind k e) s.entries u)
  where
    two : (e : Entry) (c : Bool) → (cond c (to_global e) e).origin ≡ e.origin
    two e true = refl
    two e false = refl

-- ---- allowed

pub react-passes : (t : Table) (s : State) (r : ℕ) (ps : List ℕ) → allowed t s (react r ps) ≡ Allowed → ReactGiven (rule_at t r) s ps
unfolding allowed
react-passes t s r ps h = react-given (rule_at t r) s ps h

pub react-allowed : (t : Table) (s : State) (r : ℕ) (ps : List ℕ) → ReactGiven (rule_at t r) s ps → allowed t s (react r ps) ≡ Allowed
unfolding allowed
react-allowed t s r ps p = rw (p.different, p.ports, p.owners, p.part, p.ids)

pub commit-passes : (t : Table) (s : State) (b : ℕ) → allowed t s (commit b) ≡ Allowed → (is_open b s ≡ true) × (may_commit t b s ≡ true)
unfolding allowed
commit-passes t s b h = let a = both-allowed (unless (is_open b s) NoTransaction) (unless (may_commit t b s) EndNotAllowed) h in
    (unless_allowed (is_open b s) NoTransaction a.0, unless_allowed (may_commit t b s) EndNotAllowed a.1)

pub abort-passes : (t : Table) (s : State) (b : ℕ) → allowed t s (abort b) ≡ Allowed → (is_open b s ≡ true) × (may_abort b s ≡ true)
unfolding allowed
abort-passes t s b h = let a = both-allowed (unless (is_open b s) NoTransaction) (unless (may_abort b s) EndNotAllowed) h in
    (unless_allowed (is_open b s) NoTransaction a.0, unless_allowed (may_abort b s) EndNotAllowed a.1)

-- what an allowed move leaves
pub after-allowed : (t : Table) (i : ℕ) (s : State) (m : Move) → allowed t s m ≡ Allowed → after t i s m ≡ applied t i s m
unfolding after step
after-allowed t i s m h = rw h
