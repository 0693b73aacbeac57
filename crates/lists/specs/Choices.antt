-- Case analysis on Bool-valued tests, and conjunctions, disjunctions and `given` read as facts.
use Rattle.std.specs.Prelude.{Bool, true, false, ◌&&◌, ◌||◌, cond, ◌⊎◌, ◌≡◌, refl}
use Rattle.std.proofs.lemmas.Bool.{false≢true}
use Rattle.std.proofs.Common.{true≢false, inl, inr, sym, ◌∙◌}
use Rattle.lists.specs.Lists.{given}
use Rattle.lists.specs.Tests.{and_both}

pub by_bool {ℓ} : {P : Type ℓ} (b : Bool) → (b ≡ true → P) → (b ≡ false → P) → P
by_bool true f g = f refl
by_bool false f g = g refl

pub clash : {b : Bool} → b ≡ true → b ≡ false → ⊥
clash p q = true≢false (sym p ∙ q)

pub is_false : (b : Bool) → (b ≡ true → ⊥) → b ≡ false
is_false true h = absurd (h refl)
is_false false h = refl

pub cond-true : {A : Type 0} (x y : A) {b : Bool} → b ≡ true → cond b x y ≡ x
cond-true x y h = rw h

pub cond-false : {A : Type 0} (x y : A) {b : Bool} → b ≡ false → cond b x y ≡ y
cond-false x y h = rw h

pub and_intro : {a b : Bool} → a ≡ true → b ≡ true → a && b ≡ true
and_intro p q = rw (p, q)

pub and_left : (a b : Bool) → a && b ≡ true → a ≡ true
and_left a b h = (and_both a b h).0

pub and_right : (a b : Bool) → a && b ≡ true → b ≡ true
and_right a b h = (and_both a b h).1

pub or_cases : (a b : Bool) → a || b ≡ true → (a ≡ true) ⊎ (b ≡ true)
or_cases true b h = inl refl
or_cases false b h = inr h

-- where a holds and `given a b` does, b holds
pub given_holds : (a b : Bool) → given a b ≡ true → a ≡ true → b ≡ true
given_holds true b h e = h
given_holds false b h e = absurd (false≢true e)

pub given-intro : (a b : Bool) → (a ≡ true → b ≡ true) → given a b ≡ true
given-intro true b f = f refl
given-intro false b f = refl

-- ---- longer conjunctions, from the left

pub and-three : (a b c : Bool) → a && b && c ≡ true → (a ≡ true) × (b ≡ true) × (c ≡ true)
and-three a b c h = let l = and_left (a && b) c h in (and_left a b l, and_right a b l, and_right (a && b) c h)

pub and-six : (a b c d e f : Bool) → a && b && c && d && e && f ≡ true
    → (a ≡ true) × (b ≡ true) × (c ≡ true) × (d ≡ true) × (e ≡ true) × (f ≡ true)
and-six a b c d e f h =
    let (l, p, q) = and-three (a && b && c && d) e f h in
    let (l, m, n) = and-three (a && b) c d l in
    (and_left a b l, and_right a b l, m, n, p, q)

pub and-nine : (a b c d e f g i j : Bool) → a && b && c && d && e && f && g && i && j ≡ true
    → (a ≡ true) × (b ≡ true) × (c ≡ true) × (d ≡ true) × (e ≡ true) × (f ≡ true) × (g ≡ true) × (i ≡ true) × (j ≡ true)
and-nine a b c d e f g i j h =
    let p = and_right (a && b && c && d && e && f && g && i) j h in
    let (l, m, n) = and-three (a && b && c && d && e && f) g i (and_left (a && b && c && d && e && f && g && i) j h) in
    let (q, r, s, t, u, v) = and-six a b c d e f l in
    (q, r, s, t, u, v, m, n, p)
