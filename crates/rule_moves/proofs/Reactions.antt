-- A rule's choices as reactions.
use Prim.Native.Nat.{ℕ, zero, suc, ◌≤◌, ◌<◌}
use mathlib.Core.Path.{◌≡◌, refl, ap, ◌∙◌, fun_ext, subst}
use mathlib.Core.Bool.{Bool, true, false, cond}
use mathlib.Core.List.{List, [], ◌∷◌, ◌++◌, map}
use native.Mathlib.Omega.{arith}
use borrow.Author.Tests.{ltb-true}
use lib.Dec.{ltb}
use lib.ListN.{length, get_or, take, set, replicate, length-take}
use lib.Seq.{sets, get_or-take}
use Rattle.lists.specs.Each.{All, All-get_or}
use Rattle.lists.specs.Choices.{by_bool}
use Rattle.lists.specs.Pages.{paged-none}
use Rattle.semantics.specs.Words.{head_word}
use Rattle.semantics.specs.Move.{react}
use Rattle.semantics.specs.Enabled.{move_words}
use Rattle.choices.specs.declared.Part.{Part}
use Rattle.choices.specs.Words.{choice_words}
use Rattle.choices.specs.Parts.{PartAs, part-map}
use Rattle.rule_moves.specs.Takes.{SmallPorts, front_of}

-- ---- the words of a reaction

set_past : (l : List ℕ) (i x : ℕ) → length l ≤ i → set l i x ≡ l
set_past [] i x h = refl
set_past (y ∷ l) zero x h = absurd (omega arith)
set_past (y ∷ l) (suc i) x h = ap (λ (m : List ℕ). y ∷ m) (set_past l i x (omega arith))

sets-past : (l : List ℕ) (i : ℕ) (xs : List ℕ) → length l ≤ i → sets l i xs ≡ l
sets-past l i [] h = refl
sets-past l i (x ∷ xs) h =
    let e = set_past l i x h in
    rw e (sets-past l (suc i) xs (omega arith))

abbrev blank : List ℕ
blank = 0 ∷ 0 ∷ 0 ∷ 0 ∷ []

over-blank : (c : List ℕ) → sets blank 0 c ≡ take 4 (c ++ replicate 4 0)
over-blank [] = refl
over-blank (a ∷ []) = refl
over-blank (a ∷ b ∷ []) = refl
over-blank (a ∷ b ∷ c ∷ []) = refl
over-blank (a ∷ b ∷ c ∷ d ∷ xs) = sets-past (a ∷ b ∷ c ∷ d ∷ []) 4 xs (omega arith)

react-words : (r : ℕ) (c : List ℕ) → choice_words r blank 0 c ≡ move_words (react r c)
react-words r c = let e : r ≡ head_word 0 r = omega arith in ap (λ (l : List ℕ). r ∷ l) (over-blank c) ∙ ap (λ (h : ℕ). h ∷ take 4 (c ++ replicate 4 0)) e

as-reactions : {r : ℕ} {cs : List (List ℕ)} {first count at : ℕ} {before after : List ℕ} {p : Part}
    → PartAs (choice_words r blank 0) cs first count at before after p → PartAs move_words (map (react r) cs) first count at before after p
as-reactions {r} {cs} {first} {count} {at} {before} {after} {p} h =
    let w : choice_words r blank 0 ≡ (λ c. move_words (react r c)) = fun_ext (react-words r) in
    part-map (react r) move_words (subst (λ (f : List ℕ → List ℕ). PartAs f cs first count at before after p) w h)

-- where the rule is open, and where it is not
pub open-moves : (r : ℕ) {b : Bool} (cs : List (List ℕ)) {first count at : ℕ} {before after : List ℕ} {p : Part} → b ≡ true
    → PartAs (choice_words r blank 0) cs first count at before after p → PartAs move_words (map (react r) (cond b cs [])) first count at before after p
open-moves r cs e h = rw e (as-reactions h)

pub no-moves : (r : ℕ) {b : Bool} (cs : List (List ℕ)) {first count at : ℕ} {before : List ℕ} → b ≡ false
    → PartAs move_words (map (react r) (cond b cs [])) first count at before before (record { length = 0; written = 0 })
no-moves r cs {first = first} {count = count} {at = at} {before = before} e =
    rw e (record { total = refl; paged = paged-none move_words 5 first count at before })

-- ---- the ports

pub front-take : (ports : List ℕ) → length ports ≡ 4 → (k : ℕ) → k ≤ 4 → take k (front_of ports k) ≡ take k ports
front-take [] h k l = absurd (omega arith)
front-take (a ∷ []) h k l = absurd (omega arith)
front-take (a ∷ b ∷ []) h k l = absurd (omega arith)
front-take (a ∷ b ∷ c ∷ []) h k l = absurd (omega arith)
front-take (a ∷ b ∷ c ∷ d ∷ []) h zero l = refl
front-take (a ∷ b ∷ c ∷ d ∷ []) h (suc zero) l = refl
front-take (a ∷ b ∷ c ∷ d ∷ []) h (suc (suc zero)) l = refl
front-take (a ∷ b ∷ c ∷ d ∷ []) h (suc (suc (suc zero))) l = refl
front-take (a ∷ b ∷ c ∷ d ∷ []) h (suc (suc (suc (suc zero)))) l = refl
front-take (a ∷ b ∷ c ∷ d ∷ []) h (suc (suc (suc (suc (suc k))))) l = absurd (omega arith)
front-take (a ∷ b ∷ c ∷ d ∷ e ∷ r) h k l = absurd (omega arith)

pub front-small : (ports : List ℕ) → length ports ≡ 4 → (k : ℕ) → All (λ p. p < 256) (take k ports) → SmallPorts (front_of ports k)
front-small ports h k all = small
  where
    at : (j : ℕ) → j < 4 → cond (ltb j k) (get_or ports j 0) 0 < 256
    at j l = by_bool (ltb j k)
        (λ b. let u : j < k = ltb-true j k b in
        let w : j < length (take k ports) = rw length-take (omega arith) in
        rw b (subst (λ (x : ℕ). x < 256) (get_or-take k ports j 0 u) (All-get_or (λ p. p < 256) 0 (take k ports) j all w)))
        (λ b. rw b (omega arith))

    small : (j : ℕ) → get_or (front_of ports k) j 0 < 256
    small zero = at 0 (omega arith)
    small (suc zero) = at 1 (omega arith)
    small (suc (suc zero)) = at 2 (omega arith)
    small (suc (suc (suc zero))) = at 3 (omega arith)
    small (suc (suc (suc (suc j)))) = omega arith
