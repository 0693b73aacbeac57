-- A rule as the runs of its roles: what the places where they end say of it.
use Prim.Native.Nat.{ℕ, ◌+◌, ◌-◌, ◌≤◌, ◌<◌}
use mathlib.Core.Bool.{Bool, true, false, ◌&&◌}
use mathlib.Core.List.{List, ◌∷◌}
use mathlib.Core.Path.{◌≡◌, refl, sym, ap, ◌∙◌}
use native.Mathlib.Omega.{arith}
use borrow.Author.Tests.{le-leb, lt-leb, eq-eqb, ne_eqb}
use lib.Dec.{leb, eqb}
use lib.ListN.{length, get_or, drop, drop_of_length-le}
use Rattle.lists.specs.Lists.{all, count_if, rises_from}
use Rattle.lists.specs.Tests.{and-right-false}
use Rattle.lists.specs.Rising.{Order, before, equal, after, order}
use Rattle.lists.specs.Runs.{in_run, goes, RunEnd, run-same, run-next, run-count, run-other}
use Rattle.lists.specs.Walk.{drop-step}
use Rattle.semantics.specs.Words.{atom_role, port_of}
use Rattle.semantics.specs.Table.{class_of, is_role, atom_ok, shape_of, rule_ok}
use Rattle.wellformed.specs.Tables.{atom-fits}
use Rattle.semantics.specs.declared.Sizes.{Sizes}
use Rattle.semantics.specs.declared.Shape.{Shape}
use Rattle.legal.proofs.Atoms.{shape, begins-free, consumes-free}

-- tests that are the same where what stands beside them holds
guarded : (x y t : Bool) → (t ≡ true → x ≡ y) → x && t ≡ y && t
guarded x y true f = rw (f refl)
guarded x y false f = and-right-false x refl ∙ sym (and-right-false y refl)

beside : (x y e t u : Bool) → (t ≡ true → (x ≡ y) × (t ≡ u)) → (u ≡ true → (x ≡ y) × (t ≡ u)) → x && (e && t) ≡ y && (e && u)
beside x y true true u f g = let (p, q) = f refl in rw (p, ← q)
beside x y true false true f g = let (p, q) = g refl in rw (p, q)
beside x y true false false f g = and-right-false x refl ∙ sym (and-right-false y refl)
beside x y false t u f g = and-right-false x refl ∙ sym (and-right-false y refl)

regroup : (b c d e f : Bool) → c && d && (e && (b && f)) ≡ b && c && d && e && f
regroup true true true e f = refl
regroup true true false e f = refl
regroup true false d e f = refl
regroup false c d e f = and-right-false (c && d) (and-right-false e refl)

module _ (z : Sizes) (ws : List ℕ) where
  -- from r on roles never fall, and the atoms are right in a rule of shape s
  abbrev right : Shape → ℕ → List ℕ → Bool
  right s r xs = goes atom_role (atom_ok z s) r xs

  abbrev pub role_run : Shape → ℕ → ℕ → Bool
  role_run s r w = in_run atom_role (atom_ok z s) r w

  -- no role is above 5
  over : (s : Shape) (w : ℕ) (xs : List ℕ) → right s 6 (w ∷ xs) ≡ false
  over s w xs = go (atom_ok z s w) refl
    where
      go : (b : Bool) → atom_ok z s w ≡ b → right s 6 (w ∷ xs) ≡ false
      go true e = rw (lt-leb 6 (atom_role w) (omega (arith, (atom-fits z s w e).role)))
      go false e = rw e (and-right-false (leb 6 (atom_role w) && rises_from (atom_role w) atom_role xs) refl)

  all_read : (s : Shape) (j : ℕ) → j ≤ length ws → right s 6 (drop j ws) ≡ eqb j (length ws)
  all_read s j l = go (order j (length ws))
    where
      go : Order j (length ws) → right s 6 (drop j ws) ≡ eqb j (length ws)
      go (before b) = rw (drop-step ws j 0 b, ne_eqb j (length ws) (λ e. omega arith)) (over s (get_or ws j 0) (drop (j + 1) ws))
      go (equal e) = let m : length ws ≤ j = omega arith in rw (drop_of_length-le ws m, eq-eqb j (length ws) e)
      go (after a) = absurd (omega arith)

  abbrev class : ℕ
  class = class_of z (port_of (get_or ws 0 0))

  abbrev roles : ℕ → ℕ
  roles r = count_if (is_role r) ws

  pub too_long : 16 < length ws → false ≡ rule_ok z ws
  unfolding rule_ok
  too_long l = rw (lt-leb (length ws) 16 l)

  -- behind a begin
  module _ (s : Shape) {g h i j : ℕ} (r3 : RunEnd (role_run s 3) ws g h) (r4 : RunEnd (role_run s 4) ws h i) (r5 : RunEnd (role_run s 5) ws i j) where
    up-to-aborts : right s 3 (drop g ws) ≡ right s 5 (drop i ws)
    up-to-aborts = run-next atom_role (atom_ok z s) 3 r3 ∙ run-next atom_role (atom_ok z s) 4 r4

    aborted : right s 5 (drop i ws) ≡ true → count_if (is_role 5) (drop g ws) ≡ j - i
    aborted t = omega (
      arith,
      run-other atom_role (atom_ok z s) 3 r3 5 (λ q. omega arith),
      run-other atom_role (atom_ok z s) 4 r4 5 (λ q. omega arith),
      run-count atom_role (atom_ok z s) 5 r5 t,
    )

    pub rest-runs : leb (j - i) 1 && eqb j (length ws) ≡ leb (count_if (is_role 5) (drop g ws)) 1 && right s 3 (drop g ws)
    rest-runs =
        rw (up-to-aborts, ← (run-next atom_role (atom_ok z s) 5 r5 ∙ all_read s j r5.within))
        (guarded (leb (j - i) 1) (leb (count_if (is_role 5) (drop g ws)) 1) (right s 5 (drop i ws)) (λ t. rw (aborted t)))

  module _
      {k e g : ℕ}
      (r0 : RunEnd (role_run (shape 0 0 class) 0) ws 0 k)
      (r1 : RunEnd (role_run (shape k 0 class) 1) ws k e)
      (r2 : RunEnd (role_run (shape k 0 class) 2) ws e g)
    where
      -- the first runs do not ask for figures that are found later
      consumes : (n b : ℕ) → RunEnd (role_run (shape n b class) 0) ws 0 k
      consumes n b = run-same (role_run (shape 0 0 class) 0) (role_run (shape n b class) 0) (λ w. consumes-free z w 0 0 n b class) r0

      emits : (b : ℕ) → RunEnd (role_run (shape k b class) 1) ws k e
      emits b = run-same (role_run (shape k 0 class) 1) (role_run (shape k b class) 1) (λ w. begins-free z w k 0 b class 1 (omega arith)) r1

      begins : (b : ℕ) → RunEnd (role_run (shape k b class) 2) ws e g
      begins b = run-same (role_run (shape k 0 class) 2) (role_run (shape k b class) 2) (λ w. begins-free z w k 0 b class 2 (omega arith)) r2

      -- so where the rule is right they are all that it has
      consumed : (n b : ℕ) → right (shape n b class) 0 ws ≡ true → roles 0 ≡ k
      consumed n b t = omega (arith, run-count atom_role (atom_ok z (shape n b class)) 0 (consumes n b) t)

      module _ (b : ℕ) where
        abbrev test : ℕ → Bool
        test w = atom_ok z (shape k b class) w

        up-to-begins : right (shape k b class) 0 ws ≡ right (shape k b class) 2 (drop e ws)
        up-to-begins = run-next atom_role test 0 (consumes k b) ∙ run-next atom_role test 1 (emits b)

        opened : right (shape k b class) 0 ws ≡ true → roles 2 ≡ g - e
        opened t = omega (
          arith,
          run-other atom_role test 0 (consumes k b) 2 (λ q. omega arith),
          run-other atom_role test 1 (emits b) 2 (λ q. omega arith),
          run-count atom_role test 2 (begins b) (sym up-to-begins ∙ t),
        )

      abbrev found : Shape
      found = shape k (g - e) class

      -- how many of each there may be
      abbrev limits : ℕ → ℕ → Bool
      limits n b = (leb 1 n && leb n 4) && leb b 1

      abbrev Same : Type 0
      Same = (limits k (g - e) ≡ limits (roles 0) (roles 2)) × (right found 0 ws ≡ right (shape_of z ws) 0 ws)

      from_found : right found 0 ws ≡ true → Same
      from_found t =
          let a = consumed k (g - e) t in
          let b = opened (g - e) t in
          (rw (a, b), rw (a, b))

      from-whole : right (shape_of z ws) 0 ws ≡ true → Same
      from-whole u =
          let a = consumed (roles 0) (roles 2) u in
          let t = sym (ap (λ (n : ℕ). right (shape n (roles 2) class) 0 ws) a) ∙ u in
          let b = opened (roles 2) t in
          from_found (sym (ap (λ (n : ℕ). right (shape k n class) 0 ws) b) ∙ t)

      aborts : roles 5 ≡ count_if (is_role 5) (drop g ws)
      aborts =
          run-other atom_role (test 0) 0 (consumes k 0) 5 (λ q. omega arith)
          ∙ run-other atom_role (test 0) 1 r1 5 (λ q. omega arith)
          ∙ run-other atom_role (test 0) 2 r2 5 (λ q. omega arith)

      pub rule-runs :
          {rest : Bool}
          → length ws ≤ 16
          → rest ≡ leb (count_if (is_role 5) (drop g ws)) 1 && right found 3 (drop g ws)
          → limits k (g - e) && rest ≡ rule_ok z ws
      unfolding rule_ok
      rule-runs few q =
          let end = up-to-begins (g - e) ∙ run-next atom_role (test (g - e)) 2 (begins (g - e)) in
          rw (q, ← end, ← aborts, le-leb (length ws) 16 few)
          (beside (limits k (g - e)) (limits (roles 0) (roles 2)) (leb (roles 5) 1) (right found 0 ws) (right (shape_of z ws) 0 ws) from_found from-whole
          ∙ regroup (rises_from 0 atom_role ws) (leb 1 (roles 0) && leb (roles 0) 4) (leb (roles 2) 1) (leb (roles 5) 1) (all (atom_ok z (shape_of z ws)) ws))
