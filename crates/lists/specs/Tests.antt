-- Laws of Bool-valued tests.
use Rattle.std.specs.Prelude.{Bool, true, false, ◌&&◌, ◌||◌, ◌≡◌, refl, ℕ, eqb}
use Rattle.std.proofs.lemmas.Bool.{false≢true, eqb-false}
use Rattle.std.proofs.Math.Bool.{and-true, and-false}
use Rattle.std.proofs.Common.{sym, eqb-true, eq-eqb, ne_eqb}

pub false-and : {a : Bool} (b : Bool) → a ≡ false → a && b ≡ false
false-and b e = rw e

pub true-and : {a : Bool} (b : Bool) → a ≡ true → a && b ≡ b
true-and b e = rw e

pub and-right-false : (a : Bool) {b : Bool} → b ≡ false → a && b ≡ false
and-right-false true e = e
and-right-false false e = refl

-- the second part counts only where the first holds
pub and-after : (a : Bool) {b c : Bool} → (a ≡ true → b ≡ c) → a && b ≡ a && c
and-after true f = f refl
and-after false f = refl

-- conjunctions in another order
pub and-swap : (a b c : Bool) → a && b && c ≡ a && c && b
and-swap true true c = sym (and-true c)
and-swap true false c = sym (and-false c)
and-swap false b c = refl

pub and-turn : (a b c d : Bool) → a && b && (c && d) ≡ a && c && (b && d)
and-turn true true c d = refl
and-turn true false true d = refl
and-turn true false false d = refl
and-turn false b c d = refl

-- both parts of a conjunction that holds
pub and_both : (a b : Bool) → a && b ≡ true → (a ≡ true) × (b ≡ true)
and_both true b h = (refl, h)
and_both false b h = absurd (false≢true h)

pub true-or : {a : Bool} (b : Bool) → a ≡ true → a || b ≡ true
true-or b e = rw e

pub false-or : {a : Bool} (b : Bool) → a ≡ false → a || b ≡ b
false-or b e = rw e

pub or-right-true : (a : Bool) {b : Bool} → b ≡ true → a || b ≡ true
or-right-true true e = refl
or-right-true false e = e

-- two tests that hold together are equal
pub same_test : (a b : Bool) → (a ≡ true → b ≡ true) → (b ≡ true → a ≡ true) → a ≡ b
same_test true b f g = sym (f refl)
same_test false true f g = g refl
same_test false false f g = refl

pub eqb_swap : (a b : ℕ) → eqb a b ≡ eqb b a
eqb_swap a b = go (eqb b a) refl
  where
    go : (t : Bool) → eqb b a ≡ t → eqb a b ≡ t
    go true q = eq-eqb a b (sym (eqb-true b a q))
    go false q = ne_eqb a b (λ e. eqb-false b a q (sym e))
