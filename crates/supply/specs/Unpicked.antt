-- Entries before and after a reaction: those of which a test holds that merging does not change, and abort marks.
use Rattle.std.specs.Prelude.{ℕ, suc, ◌+◌, Bool, true, false, ◌&&◌, ◌||◌, not, cond, List, [], ◌∷◌, map, ◌⊎◌, ◌≡◌, refl, eqb, leb}
use Rattle.std.proofs.Math.Bool.{and-true, or-false}
use Rattle.std.proofs.Common.{inl, inr, ⊎_elim, sym, ap, ◌∙◌, arith, eqb-true, eq-eqb, ne_eqb, leb-true, leb-false, le-leb}
use Rattle.std.proofs.Math.Path.{fun_ext}
use Rattle.std.proofs.lemmas.Bool.{not-true}
use Rattle.lists.specs.Lists.{any, count_if, is_in, without}
use Rattle.lists.specs.Choices.{by_bool, clash, is_false}
use Rattle.lists.specs.Tests.{and-right-false, true-or, false-or}
use Rattle.lists.specs.Counting.{count-append, count_map, any-count}
use Rattle.lists.specs.Each.{count_same, count_none}
use Rattle.lists.specs.Found.{any-keep}
use Rattle.lists.specs.Members.{Among, all-each, any-intro, among-keep, keep-among, is_in-among}
use Rattle.lists.specs.Removed.{among-without}
use Rattle.lists.specs.Splits.{All-every}
use Rattle.semantics.specs.Table.{Rule, has_role, consumed, product_atoms}
use Rattle.semantics.specs.State.{Origin, Entry, State, is_abort_mark, owned}
use Rattle.semantics.specs.Move.{is_zero, nothing, picked, entries_in, may_abort, owners_at, takes_part, merged, made, products, reacted}
use Rattle.semantics.specs.declared.Sizes.{Sizes}
use Rattle.semantics.specs.declared.Atom.{Atom}
use Rattle.wellformed.specs.Entries.{StateRight}
use Rattle.wellformed.specs.Picks.{ReactGiven, pick-lt, on_ports-messages}
use Rattle.supply.specs.Taken.{count-removed}

-- what is left, and what was picked
pub left-picked : {R : Rule} {s : State} {ps : List ℕ} → ReactGiven R s ps → (q : Entry → Bool)
    → count_if q (without ps 0 s.entries) + count_if q (picked s ps) ≡ count_if q s.entries
left-picked {R} {s} {ps} g q = count-removed q ps g.different nothing s.entries (pick-lt g)

-- a test that no consume passes is one of products
pub products-only : (p : Atom → Bool) → ((a : Atom) → a.role ≡ 0 → p a ≡ false) → (λ a. not (has_role 0 a) && p a) ≡ p
products-only p f = fun_ext (λ a. by_bool (has_role 0 a) (λ h. rw h (sym (f a (eqb-true a.role 0 h)))) (λ h. rw h))

module _ {R : Rule} {s : State} {ps : List ℕ} (g : ReactGiven R s ps) (i : ℕ) where
  abbrev os : List ℕ
  os = owners_at s ps

  abbrev left : List Entry
  left = without ps 0 s.entries

  abbrev pub new_entries : List Entry
  new_entries = products R s (picked s ps) i 0 (product_atoms R)

  pub entries-after : (q after : Entry → Bool) → ((e : Entry) → Among e s.entries → after (merged os e) ≡ q e)
      → count_if after (reacted R i s ps).entries + count_if q (picked s ps) ≡ count_if q s.entries + count_if after new_entries
  unfolding reacted
  entries-after q after same =
      let parts = count-append after (map (merged os) left) new_entries in
      let images = count_map (merged os) after left in
      let kept = count_same (λ e. after (merged os e)) q left
      (All-every (λ e. after (merged os e) ≡ q e) left (λ e m. same e (among-without ps 0 s.entries e m))) in
      omega (arith, left-picked g q)

  -- ---- abort marks

  module _ {z : Sizes} (right : StateRight z s) (calm : (R.class ≡ 0) ⊎ (any (has_role 5) R.atoms ≡ false)) where
    abbrev marks : ℕ → Entry → Bool
    marks o e = owned o e && is_abort_mark e

    -- a transaction that has an abort mark is not merged
    apart : (e : Entry) → Among e s.entries → is_abort_mark e ≡ true → is_in e.owner os ≡ false
    apart e m k = is_false (is_in e.owner os) (λ h. by_bool (is_zero e.owner)
        (λ o. let (l, _) = (right.each e m).global (eqb-true e.owner 0 o) in let n = eqb-true e.kind 2 k in absurd (omega arith))
        (λ o. clash
        (any-intro is_abort_mark (entries_in e.owner s) e (keep-among (owned e.owner) s.entries e m (eq-eqb e.owner e.owner refl)) k)
        (not-true (may_abort e.owner s) (rw o at (all-each (takes_part s) os g.part e.owner (is_in-among e.owner os h))))))

    marks-merged : (o : ℕ) (e : Entry) → Among e s.entries → marks o (merged os e) ≡ marks o e
    marks-merged o e m = by_bool (is_abort_mark e)
        (λ k. rw (apart e m k))
        (λ k. and-right-false (owned o (merged os e)) k ∙ sym (and-right-false (owned o e) k))

    picked-unmarked : (o : ℕ) → count_if (marks o) (picked s ps) ≡ 0
    picked-unmarked o = count_none (marks o) (picked s ps) (All-every (λ e. marks o e ≡ false) (picked s ps) (λ e m.
        let k = on_ports-messages (consumed R) (picked s ps) g.ports e m in
        and-right-false (owned o e) (ne_eqb e.kind 2 (λ l. omega arith))))

    -- an abort marks the transaction that the reaction begins
    made-marks : (o : ℕ) (a : Atom) → Among a R.atoms → (d : Origin) → marks o (made R s (picked s ps) d a) ≡ has_role 5 a && eqb s.next o
    made-marks o a m d = by_bool (has_role 5 a)
        (λ h.
        let c : R.class ≡ 0 = ⊎_elim (λ c. c) (λ n. absurd (clash (any-intro (has_role 5) R.atoms a m h) n)) calm in
        let e = eqb-true a.role 5 h in
        rw (e, eq-eqb R.class 0 c) (and-true (eqb s.next o)))
        (λ h. rw h (and-right-false (owned o (made R s (picked s ps) d a)) (none (has_role 2 a) (has_role 4 a))))
      where
        none : (b c : Bool) → eqb (cond b 3 (cond c 1 0)) 2 ≡ false
        none true c = refl
        none false true = refl
        none false false = refl

    some-marks : (o q : ℕ) (atoms : List Atom) → ((a : Atom) → Among a atoms → Among a R.atoms)
        → any (marks o) (products R s (picked s ps) i q atoms) ≡ any (has_role 5) atoms && eqb s.next o
    some-marks o q [] f = refl
    some-marks o q (a ∷ atoms) f =
        rw (made-marks o a (f a (inl refl)) (record { maker = i; index = q }), some-marks o (suc q) atoms (λ b m. f b (inr m)))
        (share (has_role 5 a) (any (has_role 5) atoms) (eqb s.next o))
      where
        share : (b c d : Bool) → b && d || c && d ≡ (b || c) && d
        share true true true = refl
        share true true false = refl
        share true false d = or-false d
        share false c d = refl

    new-marks : (o : ℕ) → any (marks o) new_entries ≡ any (has_role 5) R.atoms && eqb s.next o
    new-marks o =
        some-marks o 0 (product_atoms R) (λ a m. (among-keep (λ a. not (has_role 0 a)) R.atoms a m).0)
        ∙ ap (λ (b : Bool). b && eqb s.next o) (sym (any-keep (has_role 5) (λ a. not (has_role 0 a)) R.atoms)
        ∙ ap (λ (f : Atom → Bool). any f R.atoms) (products-only (has_role 5) (λ a e. rw e)))

    marks-after : (o : ℕ) → may_abort o (reacted R i s ps) ≡ may_abort o s || any (has_role 5) R.atoms && eqb s.next o
    marks-after o =
        let after = (reacted R i s ps).entries in
        let n : count_if (marks o) after ≡ count_if (marks o) s.entries + count_if (marks o) new_entries =
        omega (arith, entries-after (marks o) (marks o) (marks-merged o), picked-unmarked o) in
        sym (any-keep is_abort_mark (owned o) after)
        ∙ any-count (marks o) after ∙ ap (leb 1) n
        ∙ either (count_if (marks o) s.entries) (count_if (marks o) new_entries)
        (sym (any-count (marks o) s.entries) ∙ any-keep is_abort_mark (owned o) s.entries) (sym (any-count (marks o) new_entries) ∙ new-marks o)
      where
        either : (m n : ℕ) {b c : Bool} → leb 1 m ≡ b → leb 1 n ≡ c → leb 1 (m + n) ≡ b || c
        either m n {b} {c} d e = by_bool (leb 1 m)
            (λ h. let l = leb-true 1 m h in le-leb 1 (m + n) (omega arith) ∙ sym (true-or c (sym d ∙ h)))
            (λ h. let l = leb-false 1 m h in let z : m + n ≡ n = omega arith in ap (leb 1) z ∙ e ∙ sym (false-or c (sym d ∙ h)))

    -- the same transactions take part, but for a new one that is aborted
    pub part-after : (o : ℕ) → takes_part (reacted R i s ps) o ≡ is_zero o || not (may_abort o s || any (has_role 5) R.atoms && eqb s.next o)
    part-after o = ap (λ (b : Bool). is_zero o || not b) (marks-after o)
