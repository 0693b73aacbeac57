-- The picks of a reaction that is allowed: places of messages, one for each consume, owned as the rule's class wants.
use Rattle.std.specs.Prelude.{ℕ, suc, ◌+◌, ◌≤◌, ◌<◌, Bool, true, false, ◌&&◌, cond, List, [], ◌∷◌, map, ◌≡◌, refl, ltb, eqb, length}
use Rattle.std.proofs.lemmas.Bool.{false≢true}
use Rattle.std.proofs.Common.{inl, inr, sym, ap, subst, ◌∙◌, arith, ltb-true, ltb-false, eqb-true, eq-eqb, ne_eqb}
use Rattle.std.proofs.lemmas.List.{length-map}
use Rattle.std.proofs.Math.ListN.{get_or-eq_default}
use Rattle.lists.specs.Lists.{all, keep, distinct, least, without}
use Rattle.lists.specs.Choices.{by_bool, and_left, and_right, and-three}
use Rattle.lists.specs.Members.{Among, all-each, among-map, map-among, get_or-among, is_in-among}
use Rattle.lists.specs.Smallest.{least-among}
use Rattle.lists.specs.Removed.{keep-without, length_without}
use Rattle.semantics.specs.Table.{Rule, consumed}
use Rattle.semantics.specs.State.{Entry, State, is_message, is_member_mark}
use Rattle.semantics.specs.Move.{is_zero, nothing, entry_at, picked, on_ports, picks_ok, owners_at, owners_fit, takes_part, has_id, react_faults, react_allowed}
use Rattle.semantics.specs.declared.Refusal.TheVariants.{WrongPick, WrongOwner, NoMoreIds, TransactionAborting}
use Rattle.semantics.specs.declared.Verdict.TheVariants.{Allowed}
use Rattle.wellformed.specs.Verdicts.{unless_allowed, passed-each}

pub on_ports-messages : (ports : List ℕ) (es : List Entry) → on_ports ports es ≡ true → (e : Entry) → Among e es → e.kind ≡ 0
on_ports-messages [] [] h e m = absurd m
on_ports-messages [] (x ∷ es) h e m = absurd (false≢true h)
on_ports-messages (p ∷ ps) [] h e m = absurd m
on_ports-messages (p ∷ ps) (x ∷ es) h e (inl q) =
    ap (λ (x : Entry). x.kind) q ∙ eqb-true x.kind 0 (and-three (is_message x) (eqb x.port p) (on_ports ps es) h).0
on_ports-messages (p ∷ ps) (x ∷ es) h e (inr m) = on_ports-messages ps es (and-three (is_message x) (eqb x.port p) (on_ports ps es) h).2 e m

pub on_ports-length : (ports : List ℕ) (es : List Entry) → on_ports ports es ≡ true → length es ≡ length ports
on_ports-length [] [] h = refl
on_ports-length [] (x ∷ es) h = absurd (false≢true h)
on_ports-length (p ∷ ps) [] h = absurd (false≢true h)
on_ports-length (p ∷ ps) (x ∷ es) h = ap suc (on_ports-length ps es (and-three (is_message x) (eqb x.port p) (on_ports ps es) h).2)

-- a message stands at no place past the last
pub message-within : (es : List Entry) (p : ℕ) → (entry_at es p).kind ≡ 0 → p < length es
message-within es p h = by_bool (ltb p (length es)) (ltb-true p (length es))
    (λ q. absurd (four (ap (λ (e : Entry). e.kind) (get_or-eq_default es nothing (ltb-false p (length es) q))) h))
  where
    four : {n : ℕ} → n ≡ 4 → n ≡ 0 → ⊥
    four a b = omega arith

-- picks that are messages on these ports are places
pub picks-within : (ports : List ℕ) (es : List Entry) (ps : List ℕ) → on_ports ports (map (entry_at es) ps) ≡ true → (p : ℕ) → Among p ps → p < length es
picks-within ports es ps h p m = message-within es p (on_ports-messages ports (map (entry_at es) ps) h (entry_at es p) (map-among (entry_at es) ps p m))

-- ---- owners that fit a rule's class (8)

module _ (class : ℕ) (os : List ℕ) (fit : owners_fit class os ≡ true) where
  pub fit-zero : class ≡ 0 → (o : ℕ) → Among o os → o ≡ 0
  fit-zero c o m = eqb-true o 0 (all-each is_zero os (rw (eq-eqb class 0 c) at fit) o m)

  pub fit-positive : (class ≡ 0 → ⊥) → (o : ℕ) → Among o os → 1 ≤ o
  fit-positive c o m = go (eqb class 1) (rw (ne_eqb class 0 c) at fit)
    where
      go : (b : Bool) → cond b (all (λ o. ltb 0 o && eqb o (least os)) os) (all (λ o. ltb 0 o) os) ≡ true → 1 ≤ o
      go true h = ltb-true 0 o (and_left (ltb 0 o) (eqb o (least os)) (all-each (λ o. ltb 0 o && eqb o (least os)) os h o m))
      go false h = ltb-true 0 o (all-each (λ o. ltb 0 o) os h o m)

-- ---- what an allowed reaction has passed

module _ (R : Rule) (s : State) (ps : List ℕ) where
  pub record ReactGiven : Type 0 where
    pub different : distinct ps ≡ true
    pub ports : on_ports (consumed R) (picked s ps) ≡ true
    pub owners : owners_fit R.class (owners_at s ps) ≡ true
    pub part : all (takes_part s) (owners_at s ps) ≡ true
    pub ids : has_id R s ≡ true

  pub react-given : react_allowed R s ps ≡ Allowed → ReactGiven
  react-given h =
      let (a, (b, (c, (d, _)))) = passed-each (react_faults R s ps) h in
      let k = unless_allowed (picks_ok R s ps) WrongPick a in
      record {
        different = and_left (distinct ps) (on_ports (consumed R) (picked s ps)) k;
        ports = and_right (distinct ps) (on_ports (consumed R) (picked s ps)) k;
        owners = unless_allowed (owners_fit R.class (owners_at s ps)) WrongOwner b;
        part = unless_allowed (all (takes_part s) (owners_at s ps)) TransactionAborting c;
        ids = unless_allowed (has_id R s) NoMoreIds d;
      }

module _ {R : Rule} {s : State} {ps : List ℕ} (g : ReactGiven R s ps) where
  pub pick-message : (p : ℕ) → Among p ps → (entry_at s.entries p).kind ≡ 0
  pick-message p m = on_ports-messages (consumed R) (picked s ps) g.ports (entry_at s.entries p) (map-among (entry_at s.entries) ps p m)

  pub pick-lt : (p : ℕ) → Among p ps → p < length s.entries
  pick-lt = picks-within (consumed R) s.entries ps g.ports

  pub pick-among : (e : Entry) → Among e (picked s ps) → Among e s.entries
  pick-among e m = let (p, k, q) = among-map (entry_at s.entries) ps e m in
      subst (λ (x : Entry). Among x s.entries) (sym q) (get_or-among nothing s.entries p (pick-lt p k))

  pub picks-length : length ps ≡ length (consumed R)
  picks-length = sym (length-map ps (entry_at s.entries)) ∙ on_ports-length (consumed R) (picked s ps) g.ports

  pub left-length : length (without ps 0 s.entries) + length ps ≡ length s.entries
  left-length = length_without ps s.entries g.different pick-lt

  -- no mark is picked
  pub marks-left : keep is_member_mark (without ps 0 s.entries) ≡ keep is_member_mark s.entries
  marks-left = keep-without is_member_mark nothing ps 0 s.entries
      (λ k h. let e = pick-message (0 + k) (is_in-among (0 + k) ps h) in let q : 0 + k ≡ k = omega arith in
      let e = subst (λ (n : ℕ). (entry_at s.entries n).kind ≡ 0) q e in ne_eqb (entry_at s.entries k).kind 3 (λ l. omega arith))

  -- ---- owners

  pub owners-zero : R.class ≡ 0 → (o : ℕ) → Among o (owners_at s ps) → o ≡ 0
  owners-zero = fit-zero R.class (owners_at s ps) g.owners

  pub owners-positive : (R.class ≡ 0 → ⊥) → (o : ℕ) → Among o (owners_at s ps) → 1 ≤ o
  owners-positive = fit-positive R.class (owners_at s ps) g.owners

  pub home-zero : R.class ≡ 0 → least (owners_at s ps) ≡ 0
  home-zero c = go (owners_at s ps) (owners-zero c)
    where
      go : (os : List ℕ) → ((o : ℕ) → Among o os → o ≡ 0) → least os ≡ 0
      go [] f = refl
      go (k ∷ ks) f = f (least (k ∷ ks)) (least-among k ks)

  pub least-owner : 1 ≤ length (consumed R) → Among (least (owners_at s ps)) (owners_at s ps)
  least-owner l = go (owners_at s ps) (length-map (picked s ps) (λ e. e.owner) ∙ length-map ps (entry_at s.entries) ∙ picks-length)
    where
      go : (os : List ℕ) → length os ≡ length (consumed R) → Among (least os) os
      go [] e = absurd (omega arith)
      go (k ∷ ks) e = least-among k ks

  pub owner-pick : (o : ℕ) → Among o (owners_at s ps) → (e : Entry) × Among e s.entries × (o ≡ e.owner)
  owner-pick o m = let (e, k, q) = among-map (λ e. e.owner) (picked s ps) o m in (e, pick-among e k, q)
