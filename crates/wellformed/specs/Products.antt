-- The products of a reaction, one for each atom that makes something, and the marks among them.
use Rattle.std.specs.Prelude.{ℕ, suc, ◌+◌, Bool, true, false, cond, List, [], ◌∷◌, ◌++◌, map, ◌≡◌, refl, eqb, replicate}
use Rattle.std.proofs.lemmas.List.{map-append}
use Rattle.std.proofs.Common.{inl, inr, ap, ◌∙◌, arith, eq-eqb, ne_eqb}
use Rattle.lists.specs.Lists.{one_if, count_if, keep_if, keep, without}
use Rattle.lists.specs.Parts.{keep_append}
use Rattle.lists.specs.Members.{Among}
use Rattle.semantics.specs.Table.{Rule, has_role, product_atoms}
use Rattle.semantics.specs.State.{Origin, Entry, State, is_member_mark, mark_values}
use Rattle.semantics.specs.Move.{picked, owners_at, merged, value_in, made, products}
use Rattle.semantics.specs.declared.Atom.{Atom}
use Rattle.wellformed.specs.Picks.{ReactGiven, marks-left}

module _ (R : Rule) (s : State) (es : List Entry) (i : ℕ) where
  pub among-products : (q : ℕ) (atoms : List Atom) (e : Entry) → Among e (products R s es i q atoms)
      → (a : Atom) × (o : Origin) × Among a atoms × (e ≡ made R s es o a)
  among-products q [] e m = absurd m
  among-products q (a ∷ atoms) e (inl k) = (a, record { maker = i; index = q }, inl refl, k)
  among-products q (a ∷ atoms) e (inr m) = let (b, o, n, k) = among-products (suc q) atoms e m in (b, o, inr n, k)

  pub products-among : (q : ℕ) (atoms : List Atom) (a : Atom) → Among a atoms → (o : Origin) × Among (made R s es o a) (products R s es i q atoms)
  products-among q [] a m = absurd m
  products-among q (b ∷ atoms) a (inl e) = (record { maker = i; index = q }, inl (ap (made R s es (record { maker = i; index = q })) e))
  products-among q (b ∷ atoms) a (inr m) = let (o, n) = products-among (suc q) atoms a m in (o, inr n)

  -- the marks that are made: one for each begin, of value N
  marks-made : (q : ℕ) (atoms : List Atom) → mark_values (products R s es i q atoms) ≡ replicate (count_if (has_role 2) atoms) s.next
  marks-made q [] = refl
  marks-made q (a ∷ atoms) =
      go (marks-made (suc q) atoms) (eqb a.role 2) (eqb a.role 4) (eqb a.role 5) (made R s es (record { maker = i; index = q }) a) refl refl
    where
      fewer : (n : ℕ) → replicate n s.next ≡ replicate (0 + n) s.next
      fewer n = let e : n ≡ 0 + n = omega arith in ap (λ (n : ℕ). replicate n s.next) e

      more : (n : ℕ) → s.next ∷ replicate n s.next ≡ replicate (1 + n) s.next
      more n = let e : suc n ≡ 1 + n = omega arith in ap (λ (n : ℕ). replicate n s.next) e

      -- by the tests of the atom's role
      go : mark_values (products R s es i (suc q) atoms) ≡ replicate (count_if (has_role 2) atoms) s.next → (b c d : Bool) (e : Entry)
          → e.kind ≡ cond b 3 (cond c 1 (cond d 2 0)) → e.value ≡ cond b s.next (value_in (map (λ e. e.value) es) a.value)
          → map (λ e. e.value) (keep_if (is_member_mark e) e (keep is_member_mark (products R s es i (suc q) atoms))) ≡ replicate
          (one_if b + count_if (has_role 2) atoms) s.next
      go ih true c d e k v = rw (eq-eqb e.kind 3 k, v, ih) (more (count_if (has_role 2) atoms))
      go ih false true d e k v = rw (ne_eqb e.kind 3 (λ q. omega arith), ih) (fewer (count_if (has_role 2) atoms))
      go ih false false true e k v = rw (ne_eqb e.kind 3 (λ q. omega arith), ih) (fewer (count_if (has_role 2) atoms))
      go ih false false false e k v = rw (ne_eqb e.kind 3 (λ q. omega arith), ih) (fewer (count_if (has_role 2) atoms))

-- merging changes no mark's value
marks-merged : (os : List ℕ) (es : List Entry) → mark_values (map (merged os) es) ≡ mark_values es
marks-merged os [] = refl
marks-merged os (e ∷ es) = go (is_member_mark e) (marks-merged os es)
  where
    go : (b : Bool) → mark_values (map (merged os) es) ≡ mark_values es
        → map (λ e. e.value) (keep_if b (merged os e) (keep is_member_mark (map (merged os) es))) ≡ map (λ e. e.value) (keep_if b e (keep is_member_mark es))
    go true ih = rw ih
    go false ih = ih

-- a reaction picks no mark, and adds one for each begin
pub marks-added : {R : Rule} {s : State} {ps : List ℕ} → ReactGiven R s ps → (i : ℕ)
    → mark_values (map (merged (owners_at s ps)) (without ps 0 s.entries) ++ products R s (picked s ps) i 0 (product_atoms R))
    ≡ mark_values s.entries ++ replicate (count_if (has_role 2) (product_atoms R)) s.next
marks-added {R} {s} {ps} g i =
    let left = map (merged (owners_at s ps)) (without ps 0 s.entries) in
    let new = products R s (picked s ps) i 0 (product_atoms R) in
    ap (map (λ e. e.value)) (keep_append is_member_mark left new)
    ∙ map-append (λ e. e.value) (keep is_member_mark left) (keep is_member_mark new)
    ∙ rw (marks-merged (owners_at s ps) (without ps 0 s.entries), marks-left g, marks-made R s (picked s ps) i 0 (product_atoms R))
