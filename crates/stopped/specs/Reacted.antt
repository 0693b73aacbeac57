-- The set of stopped transactions after a reaction: the only new abort mark is the last entry.
use Rattle.std.specs.Prelude.{ℕ, suc, ◌+◌, ◌≤◌, Bool, false, ◌&&◌, ◌||◌, cond, ◌≡◌, refl, leb, ltb, eqb, length}
use Rattle.std.proofs.Math.Bool.{true, not, or_comm}
use Rattle.std.proofs.lemmas.Bool.{false≢true}
use mathlib.Core.List.{List, [], ◌∷◌, ◌++◌, map, append-nil}
use Rattle.std.proofs.Common.{inl, inr, ⊎_elim, sym, subst, ◌∙◌, arith}
use Rattle.std.proofs.Math.Path.{ap}
use borrow.Author.Tests.{leb-true, eqb-true, eqb-false, eq-eqb, ne_eqb, lt-ltb, not-true}
use Rattle.lists.specs.Lists.{any, is_in, keep, least, rises_from, without}
use Rattle.lists.specs.Choices.{by_bool, is_false, clash, and_intro, and_left, and_right, or_cases}
use Rattle.lists.specs.Tests.{and-right-false, true-or}
use Rattle.lists.specs.Members.{Among, all-each, any_some, any-intro, keep-among, is_in-among}
use Rattle.lists.specs.Counting.{any-count, length-keep}
use Rattle.lists.specs.Each.{any_same}
use Rattle.lists.specs.Found.{any_append}
use Rattle.lists.specs.Parts.{any-map}
use Rattle.lists.specs.Removed.{among-without, keep-without}
use Rattle.lists.specs.Smallest.{least-le}
use Rattle.lists.specs.Splits.{All-every}
use Rattle.semantics.specs.Table.{Table, Rule, rule_at, has_role, product_atoms}
use Rattle.semantics.specs.State.{Origin, Entry, State, is_abort_mark, owned}
use Rattle.semantics.specs.Move.{react, is_zero, may_abort, nothing, entry_at, picked, owners_at, takes_part, merged, kind_made, owner_made, made, products}
use Rattle.semantics.specs.Move.{reacted, allowed, applied}
use Rattle.semantics.specs.declared.Atom.{Atom}
use Rattle.semantics.specs.declared.Verdict.TheVariants.{Allowed}
use Rattle.wellformed.specs.Picks.{ReactGiven, react-given, pick-message, owners-positive, least-owner}
use Rattle.wellformed.specs.Products.{products-among}
use Rattle.wellformed.specs.Rules.{RuleRight, product-atom}
use Rattle.transactions.specs.Sets.{stops}
use Rattle.stopped.specs.Last.{last_or, last-append, last-any, rises-keep}

-- e is an abort mark of the transaction v
abbrev pub stops_of : ℕ → Entry → Bool
stops_of v e = owned v e && stops e

-- a reaction that is allowed, by a legal rule
pub record Reacting (t : Table) (s : State) (r : ℕ) (ps : List ℕ) : Type 0 where
  pub allows : allowed t s (react r ps) ≡ Allowed
  pub legal : RuleRight t.sizes (rule_at t r)
  pub next_low : 1 ≤ s.next

-- ---- what is made

-- only an abort makes an abort mark
role-five : (role : ℕ) → eqb (kind_made role) 2 ≡ true → role ≡ 5
role-five role h = go (eqb role 2) (eqb role 4) (eqb role 5) (eqb-true role 5) h
  where
    go : (b c d : Bool) → (d ≡ true → role ≡ 5) → eqb (cond b 3 (cond c 1 (cond d 2 0))) 2 ≡ true → role ≡ 5
    go true c d f q = absurd (false≢true q)
    go false true d f q = absurd (false≢true q)
    go false false true f q = f refl
    go false false false f q = absurd (false≢true q)

module _ (R : Rule) (s : State) (es : List Entry) (i : ℕ) where
  -- a test of what is made that asks the role alone, and holds of aborts only: then the last product tells, as roles rise
  module _ (f : Entry → Bool) (g : ℕ → Bool) (by-role : (o : Origin) (a : Atom) → f (made R s es o a) ≡ g a.role)
      (five : (role : ℕ) → g role ≡ true → role ≡ 5) where
    made-last : (q m : ℕ) (d : Entry) (a : Atom) (rest : List Atom) → rises_from m (λ a. a.role) (a ∷ rest) ≡ true
        → ((b : Atom) → Among b rest → b.role ≤ 5)
        → any f (products R s es i q (a ∷ rest)) ≡ f (last_or d (products R s es i q (a ∷ rest)))
    made-last q m d a [] h le = or_comm (f (made R s es (record { maker = i; index = q }) a)) false
    made-last q m d a (b ∷ rest) h le =
        let x = made R s es (record { maker = i; index = q }) a in
        let y = made R s es (record { maker = i; index = suc q }) b in
        let up = and_right (leb m a.role) (rises_from a.role (λ a. a.role) (b ∷ rest)) h in
        let ih = made-last (suc q) a.role x b rest up (λ c n. le c (inr n)) in
        by_bool (f x)
        (λ k.
        let e = five a.role (sym (by-role _ a) ∙ k) in
        let l = leb-true a.role b.role (and_left (leb a.role b.role) (rises_from b.role (λ a. a.role) rest) up) in
        let u = le b (inl refl) in
        let same : b.role ≡ a.role = omega arith in
        let there : f y ≡ true = by-role _ b ∙ ap g same ∙ sym (by-role _ a) ∙ k in
        rw k (sym (sym ih ∙ true-or (any f (products R s es i (suc (suc q)) rest)) there)))
        (λ k. rw k ih)

  abbrev home : ℕ → ℕ
  home role = owner_made R s (map (λ e. e.owner) es) role

  pub stops-last : (q m : ℕ) (d : Entry) (a : Atom) (rest : List Atom) → rises_from m (λ a. a.role) (a ∷ rest) ≡ true
      → ((b : Atom) → Among b rest → b.role ≤ 5)
      → any stops (products R s es i q (a ∷ rest)) ≡ stops (last_or d (products R s es i q (a ∷ rest)))
  stops-last = made-last stops (λ role. ltb 0 (home role) && eqb (kind_made role) 2) (λ o a. refl)
      (λ role h. role-five role (and_right (ltb 0 (home role)) (eqb (kind_made role) 2) h))

  pub stops_of-last : (v q m : ℕ) (d : Entry) (a : Atom) (rest : List Atom) → rises_from m (λ a. a.role) (a ∷ rest) ≡ true
      → ((b : Atom) → Among b rest → b.role ≤ 5)
      → any (stops_of v) (products R s es i q (a ∷ rest)) ≡ stops_of v (last_or d (products R s es i q (a ∷ rest)))
  stops_of-last v = made-last (stops_of v) (λ role. eqb (home role) v && (ltb 0 (home role) && eqb (kind_made role) 2)) (λ o a. refl)
      (λ role h. role-five role (and_right (ltb 0 (home role)) (eqb (kind_made role) 2)
      (and_right (eqb (home role) v) (ltb 0 (home role) && eqb (kind_made role) 2) h)))

-- ---- what is left

any-kept : {A : Type 0} (p : A → Bool) (xs : List A) → any p xs ≡ leb 1 (length (keep p xs))
any-kept p xs = any-count p xs ∙ ap (leb 1) (sym (length-keep p xs))

module _ {R : Rule} {s : State} {ps : List ℕ} (g : ReactGiven R s ps) where
  abbrev os : List ℕ
  os = owners_at s ps

  -- an abort mark of an owner that is merged is of nobody
  of-nobody : (e : Entry) → Among e s.entries → is_in e.owner os ≡ true → is_abort_mark e ≡ true → e.owner ≡ 0
  of-nobody e m o k =
      let part = all-each (takes_part s) os g.part e.owner (is_in-among e.owner os o) in
      let marked = any-intro is_abort_mark (keep (owned e.owner) s.entries) e
      (keep-among (owned e.owner) s.entries e m (eq-eqb e.owner e.owner refl)) k in
      ⊎_elim (eqb-true e.owner 0) (λ n. absurd (clash marked (not-true (may_abort e.owner s) n)))
      (or_cases (is_zero e.owner) (not (may_abort e.owner s)) part)

  merged-stops : (v : ℕ) (e : Entry) → Among e s.entries → stops_of v (merged os e) ≡ stops_of v e
  merged-stops v e m = by_bool (is_in e.owner os)
      (λ o. by_bool (is_abort_mark e)
      (λ k.
      let z = of-nobody e m o k in
      let l = least-le os e.owner (is_in-among e.owner os o) in
      let low : least os ≡ 0 = omega arith in
      rw (o, low, z))
      (λ k. rw (o, k) (none (eqb (least os) v) (ltb 0 (least os)) ∙ sym (none (eqb e.owner v) (ltb 0 e.owner)))))
      (λ o. rw o)
    where
      none : (a b : Bool) → a && (b && false) ≡ false
      none a b = and-right-false a (and-right-false b refl)

  -- no abort mark is picked, and none is merged
  pub left-stops : (v : ℕ) → any (stops_of v) (map (merged os) (without ps 0 s.entries)) ≡ any (stops_of v) s.entries
  left-stops v =
      let es = s.entries in
      any-map (merged os) (stops_of v) (without ps 0 es)
      ∙ any_same (λ e. stops_of v (merged os e)) (stops_of v) (without ps 0 es)
      (All-every (λ e. stops_of v (merged os e) ≡ stops_of v e) (without ps 0 es) (λ e m. merged-stops v e (among-without ps 0 es e m)))
      ∙ any-kept (stops_of v) (without ps 0 es) ∙ ap (λ (l : List Entry). leb 1 (length l)) unpicked ∙ sym (any-kept (stops_of v) es)
    where
      unpicked : keep (stops_of v) (without ps 0 s.entries) ≡ keep (stops_of v) s.entries
      unpicked = keep-without (stops_of v) nothing ps 0 s.entries (λ k h.
          let e = pick-message g (0 + k) (is_in-among (0 + k) ps h) in
          let q : 0 + k ≡ k = omega arith in
          let e = subst (λ (n : ℕ). (entry_at s.entries n).kind ≡ 0) q e in
          let x = entry_at s.entries k in
          and-right-false (owned v x) (and-right-false (ltb 0 x.owner) (ne_eqb x.kind 2 (λ l. omega arith))))

-- ---- the whole

module _ {t : Table} {s : State} {r : ℕ} {ps : List ℕ} (h : Reacting t s r ps) (i : ℕ) where
  abbrev R : Rule
  R = rule_at t r

  abbrev after : List Entry
  after = (applied t i s (react r ps)).entries

  given : ReactGiven R s ps
  unfolding allowed
  given = react-given R s ps h.allows

  rising : rises_from 0 (λ (a : Atom). a.role) (product_atoms R) ≡ true
  rising = rises-keep (λ (a : Atom). a.role) (λ a. not (has_role 0 a)) 0 R.atoms h.legal.rises

  at_most : (a : Atom) → Among a (product_atoms R) → a.role ≤ 5
  at_most a m = (product-atom h.legal a m).0.role-le

  -- the abort marks of v are those before, and the last entry if it is one
  pub reacted-stops : (v : ℕ) → any (stops_of v) after ≡ stops_of v (last_or nothing after) || any (stops_of v) s.entries
  unfolding applied reacted
  reacted-stops v = go (product_atoms R) rising at_most ∙ ap (λ (b : Bool). stops_of v (last_or nothing after) || b) (left-stops given v)
    where
      left : List Entry
      left = map (merged (owners_at s ps)) (without ps 0 s.entries)

      new : List Atom → List Entry
      new = products R s (picked s ps) i 0

      go : (atoms : List Atom) → rises_from 0 (λ a. a.role) atoms ≡ true → ((a : Atom) → Among a atoms → a.role ≤ 5)
          → any (stops_of v) (left ++ new atoms) ≡ stops_of v (last_or nothing (left ++ new atoms)) || any (stops_of v) left
      go [] up le = rw append-nil (last-any (stops_of v) nothing left (and-right-false (owned v nothing) refl))
      go (a ∷ atoms) up le =
          any_append (stops_of v) left (new (a ∷ atoms))
          ∙ or_comm (any (stops_of v) left) (any (stops_of v) (new (a ∷ atoms)))
          ∙ ap (λ (b : Bool). b || any (stops_of v) left) (stops_of-last R s (picked s ps) i v 0 0 nothing a atoms up (λ b m. le b (inr m))
          ∙ ap (stops_of v) (sym (last-append nothing left _ _)))

  -- an abort mark is of the transaction that the reaction begins or is in
  mark-stops : (o : Origin) (a : Atom) → a.role ≡ 5 → stops (made R s (picked s ps) o a) ≡ true
  mark-stops o a e = rw e (and_intro (lt-ltb 0 (owner_made R s (owners_at s ps) 5) (by_bool (eqb R.class 0)
      (λ c. rw c h.next_low)
      (λ c. rw c (owners-positive given (eqb-false R.class 0 c) (least (owners_at s ps)) (least-owner given h.legal.consumes-some))))) refl)

  -- an abort makes the last entry an abort mark of its transaction
  pub no_abort : stops (last_or nothing after) ≡ false → any (has_role 5) R.atoms ≡ false
  unfolding applied reacted
  no_abort n = is_false (any (has_role 5) R.atoms) (λ k.
      let (a, m, e) = any_some (has_role 5) R.atoms k in
      let five = eqb-true a.role 5 e in
      let product : not (has_role 0 a) ≡ true = ap not (ne_eqb a.role 0 (λ q. omega arith)) in
      go (product_atoms R) rising at_most a five (keep-among (λ a. not (has_role 0 a)) R.atoms a m product) n)
    where
      left : List Entry
      left = map (merged (owners_at s ps)) (without ps 0 s.entries)

      new : List Atom → List Entry
      new = products R s (picked s ps) i 0

      go : (atoms : List Atom) → rises_from 0 (λ a. a.role) atoms ≡ true → ((a : Atom) → Among a atoms → a.role ≤ 5)
          → (a : Atom) → a.role ≡ 5 → Among a atoms → stops (last_or nothing (left ++ new atoms)) ≡ false → ⊥
      go [] up le a five m none = absurd m
      go (b ∷ atoms) up le a five m none =
          let (o, there) = products-among R s (picked s ps) i 0 (b ∷ atoms) a m in
          let some = any-intro stops (new (b ∷ atoms)) (made R s (picked s ps) o a) there (mark-stops o a five) in
          clash some (stops-last R s (picked s ps) i 0 0 nothing b atoms up (λ c m. le c (inr m)) ∙ ap stops (sym (last-append nothing left _ _)) ∙ none)
