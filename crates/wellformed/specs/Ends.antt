-- A release or call-off keeps a state sound, and its values small.
use Rattle.std.specs.Prelude.{ℕ, ◌<◌, Bool, true, false, ◌||◌, List, [], ◌∷◌, map, ◌⊎◌, ◌≡◌, refl}
use Rattle.std.proofs.Math.Bool.{not}
use Rattle.std.proofs.Common.{inl, inr, sym, subst, ◌∙◌, arith, eqb-true, ne_eqb}
use Rattle.std.proofs.Math.Logic.{⊎_elim}
use Rattle.std.proofs.Math.Path.{ap}
use Rattle.std.proofs.lemmas.Bool.{eqb-false}
use Rattle.lists.specs.Lists.{keep_if, keep}
use Rattle.lists.specs.Choices.{by_bool}
use Rattle.lists.specs.Members.{Among, among-map, map-among, among-keep, keep-among}
use Rattle.lists.specs.Unrepeated.{distinct-map-keep}
use Rattle.semantics.specs.State.{Entry, State, is_member_mark, owned}
use Rattle.semantics.specs.Move.{to_global, freed, ended}
use Rattle.semantics.specs.declared.Sizes.{Sizes}
use Rattle.wellformed.specs.Entries.{EntryRight, message-entry, Sound, Small}

-- what is freed by the end of b, and what stays
module _ (p : Entry → Bool) (b : ℕ) where
  abbrev pub stays : Entry → Bool
  stays e = not (owned b e) || p e

  pub among-ended : (es : List Entry) (d : Entry) → Among d (map (freed p b) (keep stays es))
      → (e : Entry) × Among e es × (((e.owner ≡ b) × (p e ≡ true) × (d ≡ to_global e)) ⊎ ((e.owner ≡ b → ⊥) × (d ≡ e)))
  among-ended es d m =
      let (e, k, q) = among-map (freed p b) (keep stays es) d m in
      let (l, h) = among-keep stays es e k in (
        e,
        l,
        by_bool (owned b e)
            (λ o. let t : p e ≡ true = rw o at h in inl (eqb-true e.owner b o, t, q ∙ rw (o, t)))
            (λ o. inr (eqb-false e.owner b o, q ∙ rw o)),
      )

  pub ended-among : (es : List Entry) (e : Entry) → Among e es → (e.owner ≡ b → ⊥) → Among e (map (freed p b) (keep stays es))
  ended-among es e m n =
      let o : owned b e ≡ false = ne_eqb e.owner b n in
      let q : freed p b e ≡ e = rw o in
      subst (λ (x : Entry). Among x (map (freed p b) (keep stays es))) q (map-among (freed p b) (keep stays es) e (keep-among stays es e m (rw o)))

  -- the marks that stay are those of other owners
  pub marks-ended : ((e : Entry) → p e ≡ true → e.kind ≡ 3 → ⊥) → (es : List Entry)
      → keep is_member_mark (map (freed p b) (keep stays es)) ≡ keep (λ e. not (owned b e)) (keep is_member_mark es)
  marks-ended h [] = refl
  marks-ended h (e ∷ es) = go (marks-ended h es) (owned b e) refl (p e) refl (is_member_mark e) refl
    where
      go : keep is_member_mark (map (freed p b) (keep stays es)) ≡ keep (λ e. not (owned b e)) (keep is_member_mark es)
          → (o : Bool) → owned b e ≡ o → (q : Bool) → p e ≡ q → (m : Bool) → is_member_mark e ≡ m
          → keep is_member_mark (map (freed p b) (keep_if (not o || q) e (keep stays es))) ≡ keep (λ e. not (owned b e)) (keep_if m e (keep is_member_mark es))
      go ih true w true t true k = absurd (h e t (eqb-true e.kind 3 k))
      go ih true w true t false k = rw (w, t) ih
      go ih true w false t true k = rw w ih
      go ih true w false t false k = ih
      go ih false w q t true k = rw (w, k, ih)
      go ih false w q t false k = rw (w, k) ih

module _ {z : Sizes} {s : State} (sound : Sound z s) (p : Entry → Bool) (b : ℕ) (unmarked : (e : Entry) → p e ≡ true → e.kind ≡ 3 → ⊥)
    (global : (e : Entry) → Among e s.entries → e.owner ≡ b → p e ≡ true → (e.port < z.globals)) where
  entry-ended : (e : Entry) → Among e s.entries → e.owner ≡ b → p e ≡ true → EntryRight z s.next (to_global e)
  entry-ended e m o t = let l = global e m o t in message-entry z s.next (to_global e) refl (omega arith) (λ q. l)

  pub ended-keeps : Sound z (ended p b s)
  unfolding ended
  ended-keeps = record {
    right = record {
      each = λ d m. let (e, k, c) = among-ended p b s.entries d m in ⊎_elim
          (λ (o, t, q). rw q (entry-ended e k o t))
          (λ (n, q). rw q (sound.right.each e k)) c;
      marks = rw (marks-ended p b unmarked s.entries)
          (distinct-map-keep (λ e. e.value) (λ e. not (owned b e)) (keep is_member_mark s.entries) sound.right.marks);
      own = λ d m n. let (e, k, c) = among-ended p b s.entries d m in ⊎_elim
          (λ (o, t, q). absurd (n (ap (λ (x : Entry). x.owner) q)))
          (λ (h, q). let w = ap (λ (x : Entry). x.owner) q in
          let (a, l, r, u, v) = sound.right.own e k (λ y. n (w ∙ y)) in
          rw w (a, ended-among p b s.entries a l (λ y. h (sym u ∙ y)), r, u, v)) c;
    };
    next_low = sound.next_low;
    next-high = sound.next-high;
  }

pub ended-small : (p : Entry → Bool) (b : ℕ) (s : State) → Small s.entries → Small (ended p b s).entries
unfolding ended
ended-small p b s small d m = let (e, k, c) = among-ended p b s.entries d m in ⊎_elim
    (λ (o, t, q). rw q (small e k))
    (λ (n, q). rw q (small e k)) c
