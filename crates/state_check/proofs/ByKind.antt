-- An entry by itself: what is asked of it, by its kind.
use Prim.Native.Nat.{ℕ, zero, suc}
use mathlib.Core.Path.{◌≡◌, refl, sym, ap, ◌∙◌}
use mathlib.Core.Bool.{Bool, true, false, cond, not, ◌&&◌, ◌||◌, or-false}
use native.Mathlib.Omega.{arith}
use lib.Dec.{eqb, leb, ltb}
use borrow.Author.Tests.{leb-true, ltb-true, lt-ltb, ne_eqb, lt-leb}
use Rattle.lists.specs.Lists.{given}
use Rattle.lists.specs.Choices.{and-three, and_left}
use Rattle.semantics.specs.Table.{port_count}
use Rattle.semantics.specs.State.{Entry, is_member_mark, entry_ok}
use Rattle.semantics.specs.declared.Sizes.{Sizes}
use Rattle.state_check.specs.Check.{message_fits, other_fits, mark_fits}

-- ---- the parts of `entry_ok`, by kind

-- a: the owner is 0; b, c: the port is a global one, is one at all; x, y: the rest that is asked of abort marks and of member marks
ok-message : (a b c x y : Bool) → (b ≡ true → c ≡ true) → true && given a (true && b) && given true c && given false b && given false x && given
    false y ≡ cond a b c
ok-message true true c x y f = rw (f refl)
ok-message true false c x y f = refl
ok-message false b true x y f = refl
ok-message false b false x y f = refl

ok-compensation : (a b c x y : Bool) → true && given a (false && b) && given false c && given true b && given false x && given false y ≡ not a && b
ok-compensation true b c x y = refl
ok-compensation false true c x y = refl
ok-compensation false false c x y = refl

ok-abort : (a b c x y : Bool) → true && given a (false && b) && given false c && given false b && given true x && given false y ≡ not a && x
ok-abort true b c x y = refl
ok-abort false b c true y = refl
ok-abort false b c false y = refl

ok-mark : (a b c x y : Bool) → (y ≡ true → a ≡ false) → true && given a (false && b) && given false c && given false b && given false x && given true y ≡ y
ok-mark true b c x true f = sym (f refl)
ok-mark true b c x false f = refl
ok-mark false b c x y f = refl

module _ (z : Sizes) (next : ℕ) (e : Entry) where
  -- these parts of e
  a : Bool
  a = eqb e.owner 0

  b : Bool
  b = ltb e.port z.globals

  c : Bool
  c = ltb e.port (port_count z)

  x : Bool
  x = eqb e.port 0 && eqb e.value 0

  y : Bool
  y = eqb e.port 0 && leb 1 e.owner && leb e.owner e.value && ltb e.value next

  wider : b ≡ true → c ≡ true
  unfolding b c
  wider h = let l = ltb-true e.port z.globals h in lt-ltb e.port (port_count z) (omega arith)

  owned_by : y ≡ true → a ≡ false
  unfolding a y
  owned_by h =
      let l = and_left (eqb e.port 0 && leb 1 e.owner && leb e.owner e.value) (ltb e.value next) h in
      let (_, m, _) = and-three (eqb e.port 0) (leb 1 e.owner) (leb e.owner e.value) l in
      let low = leb-true 1 e.owner m in
      ne_eqb e.owner 0 (λ q. omega arith)

  one_of : (o : Bool) (g p : ℕ) → ltb e.port (cond o g p) ≡ cond o (ltb e.port g) (ltb e.port p)
  one_of true g p = refl
  one_of false g p = refl

  or_nothing : (m o : Bool) → m ≡ (m || not o && false)
  or_nothing true o = refl
  or_nothing false true = refl
  or_nothing false false = refl

  -- Most entries are messages on a port that their owner may use; the others are tested by kind.
  pub by_kind : entry_ok z next e ≡ (message_fits z e || cond (is_member_mark e) (mark_fits next e) (other_fits z e))
  unfolding entry_ok message_fits mark_fits other_fits a b c x y
  by_kind = go e.kind refl
    where
      go : (k : ℕ) → e.kind ≡ k → entry_ok z next e ≡ (message_fits z e || cond (is_member_mark e) (mark_fits next e) (other_fits z e))
      go zero q = rw (q, one_of a z.globals (port_count z)) (ok-message a b c x y wider ∙ or_nothing (cond a b c) a)
      go (suc zero) q = rw q (ok-compensation a b c x y ∙ ap (λ m. not a && m) (sym (or-false b)))
      go (suc (suc zero)) q = rw q (ok-abort a b c x y)
      go (suc (suc (suc zero))) q = rw q (ok-mark a b c x y owned_by)
      go (suc (suc (suc (suc k)))) q =
          rw (
            lt-leb e.kind 3 (omega arith),
            ne_eqb e.kind 0 (λ h. omega arith),
            ne_eqb e.kind 1 (λ h. omega arith),
            ne_eqb e.kind 2 (λ h. omega arith),
            ne_eqb e.kind 3 (λ h. omega arith),
          ) (or_nothing false a)
