-- Four picks read and written one by one.
use Prim.Native.Nat.{ℕ, zero, suc, ◌+◌, ◌≤◌}
use mathlib.Core.Path.{◌≡◌, refl}
use mathlib.Core.Bool.{◌&&◌, ◌||◌, or-false}
use mathlib.Core.List.{List, [], ◌∷◌}
use native.Mathlib.Omega.{arith}
use lib.Dec.{eqb, ltb}
use lib.ListN.{length, get_or, take, set}
use lib.Seq.{sets}
use Rattle.lists.specs.Lists.{is_in}

pub put_five : (l : List ℕ) (at head : ℕ) (ps : List ℕ) → length ps ≡ 4
    → set (set (set (set (set l at head) (at + 1) (get_or ps 0 0)) (at + 2) (get_or ps 1 0)) (at + 3) (get_or ps 2 0)) (at + 4) (get_or ps 3 0)
    ≡ sets l at (head ∷ ps)
put_five l at head [] h = absurd (omega arith)
put_five l at head (a ∷ []) h = absurd (omega arith)
put_five l at head (a ∷ b ∷ []) h = absurd (omega arith)
put_five l at head (a ∷ b ∷ c ∷ []) h = absurd (omega arith)
put_five l at head (a ∷ b ∷ c ∷ d ∷ []) h =
    let w : at + 1 ≡ suc at = omega arith in
    let x : at + 2 ≡ suc (suc at) = omega arith in
    let y : at + 3 ≡ suc (suc (suc at)) = omega arith in
    let z : at + 4 ≡ suc (suc (suc (suc at))) = omega arith in
    rw (w, x, y, z)
put_five l at head (a ∷ b ∷ c ∷ d ∷ e ∷ r) h = absurd (omega arith)

pub is-picked-as : (ps : List ℕ) → length ps ≡ 4 → (i x : ℕ) → i ≤ 4
    → ((ltb 0 i && eqb x (get_or ps 0 0)) || ((ltb 1 i && eqb x (get_or ps 1 0)) || ((ltb 2 i && eqb x (get_or ps 2 0)) || (ltb 3 i && eqb x (get_or ps 3 0)))))
    ≡ is_in x (take i ps)
is-picked-as [] h i x l = absurd (omega arith)
is-picked-as (a ∷ []) h i x l = absurd (omega arith)
is-picked-as (a ∷ b ∷ []) h i x l = absurd (omega arith)
is-picked-as (a ∷ b ∷ c ∷ []) h i x l = absurd (omega arith)
is-picked-as (a ∷ b ∷ c ∷ d ∷ []) h zero x l = refl
is-picked-as (a ∷ b ∷ c ∷ d ∷ []) h (suc zero) x l = refl
is-picked-as (a ∷ b ∷ c ∷ d ∷ []) h (suc (suc zero)) x l = refl
is-picked-as (a ∷ b ∷ c ∷ d ∷ []) h (suc (suc (suc zero))) x l = refl
is-picked-as (a ∷ b ∷ c ∷ d ∷ []) h (suc (suc (suc (suc zero)))) x l = rw or-false
is-picked-as (a ∷ b ∷ c ∷ d ∷ []) h (suc (suc (suc (suc (suc i))))) x l = absurd (omega arith)
is-picked-as (a ∷ b ∷ c ∷ d ∷ e ∷ r) h i x l = absurd (omega arith)
