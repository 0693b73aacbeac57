-- What a reaction changes in the messages that rules may consume from a port, where it stops no transaction but the one that it begins.
use Rattle.std.specs.Prelude.{ℕ, suc, ◌+◌, ◌≤◌, ◌<◌, Bool, true, false, ◌&&◌, not, ◌⊎◌, ◌≡◌, ltb}
use Rattle.std.proofs.lemmas.Bool.{false≢true}
use Rattle.std.proofs.Math.Bool.{and-true, and-false, or-false}
use mathlib.Core.List.{List, [], ◌∷◌}
use Rattle.std.proofs.Common.{inl, inr, sym, ap, ◌∙◌, arith}
use Rattle.std.proofs.Math.Path.{refl}
use borrow.Author.Tests.{eqb-true, eqb-false, eq-eqb, ne_eqb, lt-ltb}
use Rattle.std.proofs.Math.Dec.{eqb}
use Rattle.lists.specs.Lists.{given, any, keep, count_if, is_in, least}
use Rattle.lists.specs.Choices.{by_bool, is_false, and-three, and_intro, given-intro}
use Rattle.lists.specs.Counting.{count_map}
use Rattle.lists.specs.Each.{All}
use Rattle.lists.specs.Keys.{times_in}
use Rattle.lists.specs.Members.{Among, all-each, any_some, any-intro, among-keep, map-among, is_in-among}
use Rattle.lists.specs.Smallest.{least-of}
use Rattle.lists.specs.Totals.{count-keep}
use Rattle.semantics.specs.Table.{Rule, class_of, has_role, consumed, product_atoms}
use Rattle.semantics.specs.State.{Origin, Entry, State, is_message, is_abort_mark, owned}
use Rattle.semantics.specs.Move.{is_zero, picked, on_ports, owners_at, takes_part, entries_in, may_abort, merged, made, products, reacted}
use Rattle.semantics.specs.declared.Sizes.{Sizes}
use Rattle.semantics.specs.declared.Atom.{Atom}
use Rattle.wellformed.specs.Rules.{AtomRight, RuleRight, product-atom}
use Rattle.wellformed.specs.Entries.{Sound}
use Rattle.wellformed.specs.MoveWords.{open-id}
use Rattle.wellformed.specs.Picks.{ReactGiven, owners-zero, owners-positive, home-zero, least-owner, owner-pick}
use Rattle.enabled.specs.Keys.{takeable, takeable_on}
use Rattle.enabled.specs.Reactions.{OfClass}
use Rattle.supply.specs.Atoms.{supplies, supplies_on, consumes_on}
use Rattle.supply.specs.Unpicked.{new_entries, left-picked, products-only, entries-after, part-after}

-- inside a transaction: on inner ports
inside : (o port globals : ℕ) → (o ≡ 0 → ⊥) → given (ltb port globals) (eqb o 0) ≡ not (ltb port globals)
inside o port globals n = rw (ne_eqb o 0 n) (or-false (not (ltb port globals)))

-- ---- what is consumed

pub times-consumed : (p : ℕ) (R : Rule) → times_in p (consumed R) ≡ count_if (consumes_on p) R.atoms
unfolding times_in
times-consumed p R =
    count_map (λ (a : Atom). a.port) (λ x. eqb x p) (keep (has_role 0) R.atoms)
    ∙ count-keep (λ a. eqb a.port p) (has_role 0) R.atoms

module _ (z : Sizes) {R : Rule} {s : State} {ps : List ℕ} (g : ReactGiven R s ps) (ports : All (OfClass z R.class) (consumed R)) (p : ℕ) where
  abbrev os : List ℕ
  os = owners_at s ps

  abbrev part : ℕ → Bool
  part = takes_part s

  abbrev on : Entry → Bool
  on = takeable_on z part p

  takes : (o : ℕ) → Among o os → part o ≡ true
  takes = all-each part os g.part

  -- a picked message may be consumed: it is global on a global port
  picked-takeable : (e : Entry) → Among e.owner os → is_message e ≡ true → class_of z e.port ≡ R.class → takeable z part e ≡ true
  picked-takeable e m k c = and_intro
      (and_intro k (given-intro (ltb e.port z.globals) (owned 0 e) (λ l.
      let d : R.class ≡ 0 = sym c ∙ rw l in
      eq-eqb e.owner 0 (owners-zero g d e.owner m))))
      (takes e.owner m)

  on-ports : (ts : List ℕ) (es : List Entry) → All (OfClass z R.class) ts → ((e : Entry) → Among e es → Among e.owner os) → on_ports ts es ≡ true
      → count_if on es ≡ times_in p ts
  unfolding times_in
  on-ports [] [] c f h = refl
  on-ports [] (e ∷ es) c f h = absurd (false≢true h)
  on-ports (t ∷ ts) [] c f h = absurd (false≢true h)
  on-ports (t ∷ ts) (e ∷ es) ((_, c), cs) f h =
      let (k, q, rest) = and-three (is_message e) (eqb e.port t) (on_ports ts es) h in
      let q = eqb-true e.port t q in
      let one : on e ≡ eqb t p = rw (picked-takeable e (f e (inl refl)) k (ap (class_of z) q ∙ c), q) in
      rw (one, on-ports ts es cs (λ d m. f d (inr m)) rest)

  picked-count : count_if on (picked s ps) ≡ count_if (consumes_on p) R.atoms
  picked-count = on-ports (consumed R) (picked s ps) ports (λ e m. map-among (λ (e : Entry). e.owner) (picked s ps) e m) g.ports ∙ times-consumed p R

  -- no more is consumed than there is
  pub consumed-le : count_if (consumes_on p) R.atoms ≤ count_if on s.entries
  consumed-le = omega (arith, left-picked g on, picked-count)

  -- ---- what stays

  -- transactions that merge all take part, and so does what they become
  stays_on : (e : Entry) → on (merged os e) ≡ on e
  stays_on e = by_bool (is_in e.owner os)
      (λ h. let m = is_in-among e.owner os h in
      let l = least-of os e.owner m in
      let both : part (least os) ≡ part e.owner = takes (least os) l ∙ sym (takes e.owner m) in
      rw h (λ k. is_message e && given (ltb e.port z.globals) (zero m l k) && both k && eqb e.port p))
      (λ h. rw h)
    where
      zero : Among e.owner os → Among (least os) os → eqb (least os) 0 ≡ eqb e.owner 0
      zero m l = by_bool (eqb R.class 0)
          (λ c. let c = eqb-true R.class 0 c in rw (owners-zero g c e.owner m, owners-zero g c (least os) l))
          (λ c. let c = eqb-false R.class 0 c in
          let a = owners-positive g c e.owner m in let b = owners-positive g c (least os) l in
          ne_eqb (least os) 0 (λ q. omega arith) ∙ sym (ne_eqb e.owner 0 (λ q. omega arith)))

  -- ---- what is made

  module _ (right : RuleRight z R) (sound : Sound z s) (calm : (R.class ≡ 0) ⊎ (any (has_role 5) R.atoms ≡ false)) (i : ℕ) where
    abbrev global : Bool
    global = eqb R.class 0

    abbrev aborts : Bool
    aborts = any (has_role 5) R.atoms

    abbrev es : List Entry
    es = picked s ps

    abbrev part_then : ℕ → Bool
    part_then = takes_part (reacted R i s ps)

    abbrev on_then : Entry → Bool
    on_then = takeable_on z part_then p

    old-owner : (e : Entry) → Among e s.entries → e.owner < s.next
    old-owner e m = by_bool (is_zero e.owner)
        (λ q. let o = eqb-true e.owner 0 q in omega (arith, sound.next_low))
        (λ q. let n = eqb-false e.owner 0 q in
        (open-id e.owner s sound (and_intro (lt-ltb 0 e.owner (omega arith))
        (any-intro (owned e.owner) s.entries e m (eq-eqb e.owner e.owner refl)))).1)

    old_home : (o : ℕ) → Among o os → o < s.next
    old_home o m = let (e, k, q) = owner-pick g o m in omega (arith, old-owner e k)

    -- who takes part before the reaction does after it, and nobody else
    part-old : (o : ℕ) → o < s.next → part_then o ≡ part o
    part-old o l = part-after g i sound.right calm o ∙ rw (ne_eqb s.next o (λ q. omega arith), and-false aborts, or-false (may_abort o s))

    -- nothing is in the transaction that is to begin, so it takes part unless it is aborted
    part-new : part_then s.next ≡ not aborts
    part-new =
        let none : may_abort s.next s ≡ false = is_false (may_abort s.next s) (λ h.
        let (e, m, _) = any_some is_abort_mark (entries_in s.next s) h in
        let (m, o) = among-keep (owned s.next) s.entries e m in
        let q = eqb-true e.owner s.next o in
        absurd (omega (arith, old-owner e m))) in
        let l = sound.next_low in
        part-after g i sound.right calm s.next
        ∙ rw (none, ne_eqb s.next 0 (λ q. omega arith), eq-eqb s.next s.next refl, and-true aborts)

    stays_then : (e : Entry) → Among e s.entries → on_then (merged os e) ≡ on e
    stays_then e m =
        let o = (merged os e).owner in
        (λ k. is_message e && given (ltb e.port z.globals) (eqb o 0) && part-old o old k && eqb e.port p) ∙ stays_on e
      where
        old : (merged os e).owner < s.next
        old = by_bool (is_in e.owner os)
            (λ h. rw h (old_home (least os) (least-of os e.owner (is_in-among e.owner os h))))
            (λ h. rw h (old-owner e m))

    made-takeable : (a : Atom) → Among a (product_atoms R) → (o : Origin) → takeable z part_then (made R s es o a) ≡ supplies z.globals global aborts a
    made-takeable a m o =
        by_bool (has_role 1 a) (λ q. emitted (eqb-true a.role 1 q))
        (λ q. by_bool (has_role 3 a) (λ r. body (eqb-true a.role 3 r))
        (λ r. by_bool (has_role 2 a) (λ t. let e = eqb-true a.role 2 t in rw e)
        (λ t. by_bool (has_role 4 a) (λ u. let e = eqb-true a.role 4 u in rw e)
        (λ u. let e = last (eqb-false a.role 1 q) (eqb-false a.role 2 t) (eqb-false a.role 3 r) (eqb-false a.role 4 u) in rw e))))
      where
        atom : AtomRight z R a
        atom = (product-atom right a m).0

        last : (a.role ≡ 1 → ⊥) → (a.role ≡ 2 → ⊥) → (a.role ≡ 3 → ⊥) → (a.role ≡ 4 → ⊥) → a.role ≡ 5
        last e f h n = let l = (product-atom right a m).1 in let k = atom.role-le in omega arith

        emitted : a.role ≡ 1 → takeable z part_then (made R s es o a) ≡ supplies z.globals global aborts a
        emitted q = by_bool (eqb R.class 0)
            (λ c. let d = eqb-true R.class 0 c in rw (q, c, home-zero g d, lt-ltb a.port z.globals (atom.emit-global q d)))
            (λ c. let d = eqb-false R.class 0 c in
            let l = least-owner g right.consumes-some in
            let k = owners-positive g d (least os) l in
            let takes-then : part_then (least os) ≡ true = part-old (least os) (old_home (least os) l) ∙ takes (least os) l in
            rw (q, c, inside (least os) a.port z.globals (λ h. omega arith), takes-then)
            (and-true (not (ltb a.port z.globals)) ∙ sym (or-false (not (ltb a.port z.globals)))))

        body : a.role ≡ 3 → takeable z part_then (made R s es o a) ≡ supplies z.globals global aborts a
        body q = by_bool (eqb R.class 0)
            (λ c. let l = sound.next_low in rw (q, c, inside s.next a.port z.globals (λ h. omega arith), part-new))
            (λ c. absurd (none (atom.inner (eqb-false R.class 0 c))))
          where
            none : (a.role ≡ 0) ⊎ (a.role ≡ 1) ⊎ (a.role ≡ 5) → ⊥
            none (inl r) = omega arith
            none (inr (inl r)) = omega arith
            none (inr (inr r)) = omega arith

    made-count : (q : ℕ) (atoms : List Atom) → ((a : Atom) → Among a atoms → Among a (product_atoms R))
        → count_if on_then (products R s es i q atoms) ≡ count_if (supplies_on z.globals global aborts p) atoms
    made-count q [] f = refl
    made-count q (a ∷ atoms) f =
        rw (made-takeable a (f a (inl refl)) (record { maker = i; index = q }), made-count (suc q) atoms (λ b m. f b (inr m)))

    new-count : count_if on_then (new_entries g i) ≡ count_if (supplies_on z.globals global aborts p) R.atoms
    new-count =
        made-count 0 (product_atoms R) (λ a m. m)
        ∙ count-keep (supplies_on z.globals global aborts p) (λ a. not (has_role 0 a)) R.atoms
        ∙ ap (λ (f : Atom → Bool). count_if f R.atoms) (products-only (supplies_on z.globals global aborts p) (λ a e. rw e))

    pub supply-after : count_if on_then (reacted R i s ps).entries + count_if (consumes_on p) R.atoms
        ≡ count_if on s.entries + count_if (supplies_on z.globals global aborts p) R.atoms
    supply-after = omega (arith, entries-after g i on on_then stays_then, picked-count, new-count)
