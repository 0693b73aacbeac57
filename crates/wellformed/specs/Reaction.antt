-- An allowed reaction keeps a state sound, and its values small.
use Rattle.std.specs.Prelude.{ℕ, zero, suc, ◌≤◌, ◌<◌, Bool, true, false, not, cond, List, ◌++◌, map, ◌⊎◌, ◌≡◌, refl, ltb, eqb, length, replicate}
use Rattle.std.proofs.Common.{append-nil, inl, inr, sym, ap, subst, ◌∙◌, arith, ltb-true, eqb-true, eq-eqb, ne_eqb}
use Rattle.std.proofs.Math.Logic.{⊎_elim}
use Rattle.std.proofs.lemmas.Bool.{eqb-false}
use Rattle.lists.specs.Lists.{count_if, keep, is_in, distinct, least, without}
use Rattle.lists.specs.Choices.{by_bool, is_false, given_holds}
use Rattle.lists.specs.Members.{Among, any_some, among-map, map-among, among-keep, keep-among, among-append, among-left, among-right, is_in-among, among-is_in}
use Rattle.lists.specs.Smallest.{least-le, least-of}
use Rattle.lists.specs.Totals.{count-keep-le}
use Rattle.lists.specs.Removed.{among-without}
use Rattle.lists.specs.Unrepeated.{distinct_snoc}
use Rattle.lists.specs.Parts.{get_or-each}
use Rattle.semantics.specs.Table.{Rule, has_role, consumed, product_atoms, begins}
use Rattle.semantics.specs.State.{Origin, Entry, State, is_member_mark, mark_values}
use Rattle.semantics.specs.Move.{picked, owners_at, merged, value_in, kind_made, made, products, reacted}
use Rattle.semantics.specs.declared.Sizes.{Sizes}
use Rattle.semantics.specs.declared.Atom.{Atom}
use Rattle.semantics.specs.declared.AtomValue.{AtomValue}
use Rattle.semantics.specs.declared.AtomValue.TheVariants.{Constant, Received}
use Rattle.wellformed.specs.Rules.{ValueRight, AtomRight, RuleRight, product-atom, role-begins, begins-global}
use Rattle.wellformed.specs.Entries.{EntryRight, HasOwnMark, message-entry, compensation-entry, abort-entry, member-entry, Sound, Small}
use Rattle.wellformed.specs.Products.{among-products, products-among, marks-added}
use Rattle.wellformed.specs.Picks.{ReactGiven, pick-among, marks-left, owners-zero, owners-positive, home-zero, least-owner, owner-pick}

module _ {z : Sizes} {R : Rule} (right : RuleRight z R) {s : State} (sound : Sound z s) {ps : List ℕ} (g : ReactGiven R s ps) (i : ℕ) where
  abbrev os : List ℕ
  os = owners_at s ps

  abbrev new : List Entry
  new = products R s (picked s ps) i 0 (product_atoms R)

  abbrev all-entries : List Entry
  all-entries = map (merged os) (without ps 0 s.entries) ++ new

  abbrev next' : ℕ
  next' = cond (begins R) (suc s.next) s.next

  next_le : s.next ≤ next'
  next_le = go (begins R)
    where
      go : (b : Bool) → s.next ≤ cond b (suc s.next) s.next
      go true = omega arith
      go false = omega arith

  id-free : begins R ≡ true → s.next < 65536
  id-free h = ltb-true s.next 65536 (given_holds (begins R) (ltb s.next 65536) g.ids h)

  next-high : next' ≤ 65536
  next-high = by_bool (begins R) (λ h. let l = id-free h in rw h (omega arith)) (λ h. rw h sound.next-high)

  -- ---- what stays

  -- a mark stays, under the owner that its batch now has
  mark-stays : (m : Entry) → Among m s.entries → m.kind ≡ 3 → Among (merged os m) all-entries
  mark-stays m k e =
      let h : Among m (keep is_member_mark (without ps 0 s.entries)) = rw (marks-left g) (keep-among is_member_mark s.entries m k (eq-eqb m.kind 3 e)) in
      among-left (map (merged os) (without ps 0 s.entries)) new (merged os m)
      (map-among (merged os) (without ps 0 s.entries) m (among-keep is_member_mark (without ps 0 s.entries) m h).0)

  merged-in : (e : Entry) → Among e.owner os → (merged os e).owner ≡ least os
  merged-in e m = rw (among-is_in e.owner os m)

  merged-out : (e : Entry) → is_in e.owner os ≡ false → (merged os e).owner ≡ e.owner
  merged-out e h = rw h

  -- the batch of the products of a local or merge rule, and of what is merged, has its mark
  home-mark : Among (least os) os → (least os ≡ 0 → ⊥) → HasOwnMark all-entries (least os)
  home-mark k n =
      let (e, m, q) = owner-pick g (least os) k in
      let (d, l, a, b, c) = sound.right.own e m (λ o. n (q ∙ o)) in
      (merged os d, mark-stays d l a, a, merged-in d (subst (λ (n : ℕ). Among n os) (q ∙ sym b) k), c ∙ sym q)

  -- what is merged stays outside or inside a batch
  merged-zero : (e : Entry) → (merged os e).owner ≡ 0 → e.owner ≡ 0
  merged-zero e h = by_bool (is_in e.owner os)
      (λ q. let m = is_in-among e.owner os q in let w = merged-in e m in
      by_bool (eqb R.class 0) (λ c. owners-zero g (eqb-true R.class 0 c) e.owner m)
      (λ c. absurd (let l = owners-positive g (eqb-false R.class 0 c) (least os) (least-of os e.owner m) in omega arith)))
      (λ q. let w = merged-out e q in omega arith)

  merged-le : (e : Entry) → (merged os e).owner ≤ e.owner
  merged-le e = by_bool (is_in e.owner os)
      (λ q. let m = is_in-among e.owner os q in let w = merged-in e m in let l = least-le os e.owner m in omega arith)
      (λ q. let w = merged-out e q in omega arith)

  kept-right : (e : Entry) → Among e s.entries → EntryRight z next' (merged os e)
  kept-right e m = let r = sound.right.each e m in record {
    kind-le = r.kind-le;
    global = λ o. r.global (merged-zero e o);
    message = r.message;
    compensation = r.compensation;
    abort-mark = r.abort-mark;
    member-mark = λ k. let q = r.member-mark k in record {
      port-zero = q.port-zero;
      owner-low = positive (merged os e).owner (λ o. let w = merged-zero e o in let l = q.owner-low in omega arith);
      owner-le = let l = merged-le e in let h = q.owner-le in omega arith;
      value-lt = let l = next_le in let h = q.value-lt in omega arith;
    };
  }
    where
      positive : (n : ℕ) → (n ≡ 0 → ⊥) → 1 ≤ n
      positive n h = omega arith

  kept-own : (e : Entry) → Among e s.entries → ((merged os e).owner ≡ 0 → ⊥) → HasOwnMark all-entries (merged os e).owner
  kept-own e m n = by_bool (is_in e.owner os)
      (λ q. let k = is_in-among e.owner os q in let w = merged-in e k in
      rw w (home-mark (least-of os e.owner k) (λ o. n (w ∙ o))))
      (λ q. let w = merged-out e q in
      let (d, l, a, b, c) = sound.right.own e m (λ o. n (w ∙ o)) in
      rw w (merged os d, mark-stays d l a, a, merged-out d (rw b q) ∙ b, c))

  -- ---- what is made

  home-positive : (R.class ≡ 0 → ⊥) → 1 ≤ least os
  home-positive c = owners-positive g c (least os) (least-owner g right.consumes-some)

  module _ (a : Atom) (o : Origin) where
    abbrev e : Entry
    e = made R s (picked s ps) o a

    owner-next : R.class ≡ 0 → (a.role ≡ 1 → ⊥) → e.owner ≡ s.next
    owner-next c n = rw (eq-eqb R.class 0 c, ne_eqb a.role 1 n)

    owner-home : (R.class ≡ 0 → ⊥) → e.owner ≡ least os
    owner-home c = rw (ne_eqb R.class 0 c)

    owner-emitted : R.class ≡ 0 → a.role ≡ 1 → e.owner ≡ 0
    owner-emitted c r = let h : e.owner ≡ least os = rw (eq-eqb R.class 0 c, eq-eqb a.role 1 r) in h ∙ home-zero g c

    value-other : (a.role ≡ 2 → ⊥) → e.value ≡ value_in (map (λ e. e.value) (picked s ps)) a.value
    value-other n = rw (ne_eqb a.role 2 n)

  mark_made : (a : Atom) (o : Origin) → R.class ≡ 0 → a.role ≡ 2 → ((e a o).kind ≡ 3) × ((e a o).owner ≡ s.next) × ((e a o).value ≡ s.next)
  mark_made a o c r = (rw (eq-eqb a.role 2 r), owner-next a o c (λ q. omega arith), rw (eq-eqb a.role 2 r))

  -- a begin's mark is the own mark of the transaction that it opens
  begun-mark : begins R ≡ true → HasOwnMark all-entries s.next
  begun-mark h =
      let (a, m, q) = any_some (has_role 2) R.atoms h in
      let r = eqb-true a.role 2 q in
      let n : not (has_role 0 a) ≡ true = rw (ne_eqb a.role 0 (λ l. omega arith)) in
      let (o, k) = products-among R s (picked s ps) i 0 (product_atoms R) a (keep-among (λ a. not (has_role 0 a)) R.atoms a m n) in
      let (b, c, d) = mark_made a o (begins-global right h) r in
      (e a o, among-right (map (merged os) (without ps 0 s.entries)) new (e a o) k, b, c, d)

  module _ (a : Atom) (m : Among a (product_atoms R)) (o : Origin) where
    atom : AtomRight z R a
    atom = (product-atom right a m).0

    in-rule : Among a R.atoms
    in-rule = (among-keep (λ a. not (has_role 0 a)) R.atoms a m).0

    owner-positive : (a.role ≡ 1 → ⊥) → 1 ≤ (e a o).owner
    owner-positive n = by_bool (eqb R.class 0)
        (λ c. let w = owner-next a o (eqb-true R.class 0 c) n in let l = sound.next_low in omega arith)
        (λ c. let w = owner-home a o (eqb-false R.class 0 c) in let l = home-positive (eqb-false R.class 0 c) in omega arith)

    made-right : EntryRight z next' (e a o)
    made-right = go (role-cases a.role atom.role-le (product-atom right a m).1)
      where
        role-cases : (n : ℕ) → n ≤ 5 → 1 ≤ n → (n ≡ 1) ⊎ (n ≡ 2) ⊎ (n ≡ 3) ⊎ (n ≡ 4) ⊎ (n ≡ 5)
        role-cases zero h l = absurd (omega arith)
        role-cases (suc zero) h l = inl refl
        role-cases (suc (suc zero)) h l = inr (inl refl)
        role-cases (suc (suc (suc zero))) h l = inr (inr (inl refl))
        role-cases (suc (suc (suc (suc zero)))) h l = inr (inr (inr (inl refl)))
        role-cases (suc (suc (suc (suc (suc zero))))) h l = inr (inr (inr (inr refl)))
        role-cases (suc (suc (suc (suc (suc (suc n)))))) h l = absurd (omega arith)

        go : (a.role ≡ 1) ⊎ (a.role ≡ 2) ⊎ (a.role ≡ 3) ⊎ (a.role ≡ 4) ⊎ (a.role ≡ 5) → EntryRight z next' (e a o)
        go (inl q) = message-entry z next' (e a o) (ap kind_made q) atom.port-lt
            (λ h. by_bool (eqb R.class 0) (λ c. atom.emit-global q (eqb-true R.class 0 c))
            (λ c. absurd (let w = owner-home a o (eqb-false R.class 0 c) in let l = home-positive (eqb-false R.class 0 c) in omega arith)))
        go (inr (inl q)) =
            let b = role-begins right a in-rule q in
            let (k, w, v) = mark_made a o (begins-global right b) q in
            let n : next' ≡ suc s.next = rw b in
            let l = sound.next_low in
            member-entry z next' (e a o) k (record {
              port-zero = (atom.mark-bare (inl q)).0;
              owner-low = omega arith;
              owner-le = omega arith;
              value-lt = omega arith;
            })
        go (inr (inr (inl q))) =
            message-entry z next' (e a o) (ap kind_made q) atom.port-lt (λ h. absurd (let l = owner-positive (λ r. omega arith) in omega arith))
        go (inr (inr (inr (inl q)))) = compensation-entry z next' (e a o) (ap kind_made q) (owner-positive (λ r. omega arith)) (atom.compensate-global q)
        go (inr (inr (inr (inr q)))) =
            let (p, v) = atom.mark-bare (inr q) in
            abort-entry z next' (e a o) (ap kind_made q) (owner-positive (λ r. omega arith)) p
            (value-other a o (λ r. omega arith) ∙ ap (value_in (map (λ e. e.value) (picked s ps))) v)

    made-own : ((e a o).owner ≡ 0 → ⊥) → HasOwnMark all-entries (e a o).owner
    made-own n = by_bool (eqb R.class 0)
        (λ c. let c = eqb-true R.class 0 c in
        let r : a.role ≡ 1 → ⊥ = λ q. n (owner-emitted a o c q) in
        rw (owner-next a o c r) (begun-mark (by_bool (eqb a.role 2) (λ q. role-begins right a in-rule (eqb-true a.role 2 q))
        (λ q. atom.begun c (three a.role (product-atom right a m).1 r (eqb-false a.role 2 q))))))
        (λ c. let c = eqb-false R.class 0 c in let l = home-positive c in
        rw (owner-home a o c) (home-mark (least-owner g right.consumes-some) (λ q. omega arith)))
      where
        three : (n : ℕ) → 1 ≤ n → (n ≡ 1 → ⊥) → (n ≡ 2 → ⊥) → 3 ≤ n
        three n l f h = omega arith

    made-small : Small s.entries → (e a o).value < 65536
    made-small small = by_bool (eqb a.role 2)
        (λ q. let q = eqb-true a.role 2 q in let b = role-begins right a in-rule q in
        let v = (mark_made a o (begins-global right b) q).2 in let l = id-free b in omega arith)
        (λ q. let v = value-other a o (eqb-false a.role 2 q) in let l = value-lt a.value atom.value-right in omega arith)
      where
        picked-small : (v : ℕ) → Among v (map (λ e. e.value) (picked s ps)) → v < 65536
        picked-small v k = let (d, l, q) = among-map (λ e. e.value) (picked s ps) v k in let h = small d (pick-among g d l) in omega arith

        value-lt : (v : AtomValue) → ValueRight (length (consumed R)) v → value_in (map (λ e. e.value) (picked s ps)) v < 65536
        value-lt (Constant v) h = h
        value-lt (Received n) h = get_or-each (λ v. v < 65536) 0 (map (λ e. e.value) (picked s ps)) picked-small (omega arith) n

  -- ---- the whole

  from : (d : Entry) → Among d all-entries
      → ((e : Entry) × Among e s.entries × (d ≡ merged os e)) ⊎ ((a : Atom) × (o : Origin) × Among a (product_atoms R) × (d ≡ made R s (picked s ps) o a))
  from d m = ⊎_elim
      (λ k. let (e, l, q) = among-map (merged os) (without ps 0 s.entries) d k in inl (e, among-without ps 0 s.entries e l, q))
      (λ k. inr (among-products R s (picked s ps) i 0 (product_atoms R) d k))
      (among-append (map (merged os) (without ps 0 s.entries)) new d m)

  next-new : is_in s.next (mark_values s.entries) ≡ false
  next-new = is_false (is_in s.next (mark_values s.entries)) (λ h.
      let (e, m, q) = among-map (λ e. e.value) (keep is_member_mark s.entries) s.next (is_in-among s.next (mark_values s.entries) h) in
      let (k, t) = among-keep is_member_mark s.entries e m in
      let l = ((sound.right.each e k).member-mark (eqb-true e.kind 3 t)).value-lt in omega arith)

  marks-distinct : distinct (mark_values all-entries) ≡ true
  marks-distinct = rw (marks-added g i) (go (count_if (has_role 2) (product_atoms R))
      (let l = count-keep-le (has_role 2) (λ a. not (has_role 0 a)) R.atoms in let h = right.begins-le in omega arith))
    where
      go : (n : ℕ) → n ≤ 1 → distinct (mark_values s.entries ++ replicate n s.next) ≡ true
      go zero h = rw (append-nil (mark_values s.entries)) sound.right.marks
      go (suc zero) h = distinct_snoc (mark_values s.entries) s.next sound.right.marks next-new
      go (suc (suc n)) h = absurd (omega arith)

  pub react-keeps : Sound z (reacted R i s ps)
  unfolding reacted
  react-keeps = record {
    right = record {
      each = λ d m. ⊎_elim
          (λ (e, k, q). rw q (kept-right e k))
          (λ (a, o, k, q). rw q (made-right a k o))
          (from d m);
      marks = marks-distinct;
      own = λ d m n. ⊎_elim
          (λ (e, k, q). rw q (kept-own e k (λ h. n (ap (λ (x : Entry). x.owner) q ∙ h))))
          (λ (a, o, k, q). rw q (made-own a k o (λ h. n (ap (λ (x : Entry). x.owner) q ∙ h))))
          (from d m);
    };
    next_low = let l = next_le in let h = sound.next_low in omega arith;
    next-high = next-high;
  }

  pub react-small : Small s.entries → Small (reacted R i s ps).entries
  unfolding reacted
  react-small small d m = ⊎_elim
      (λ (e, k, q). rw q (small e k))
      (λ (a, o, k, q). rw q (made-small a k o small))
      (from d m)
