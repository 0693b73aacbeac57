-- `placed` meets its contract: of the four places the ith is another.
use Prim.Native.Nat.{ℕ, zero, suc, ◌<◌}
use mathlib.Core.Bool.{cond}
use mathlib.Core.List.{List, [], ◌∷◌}
use mathlib.Core.Path.{◌≡◌, refl}
use native.Mathlib.Omega.{arith}
use borrow.Author.Rules.{rules}
use lib.Dec.{eqb}
use lib.ListN.{length, get_or, set}
use Rattle.first_choice.proofs.greedy.placed.Statement.{statement}
use Rattle.first_choice.proofs.greedy.placed.Tie as tie

one_set : (a b c d i p : ℕ) → i < 4
    → cond (eqb i 0) p a ∷ cond (eqb i 1) p b ∷ cond (eqb i 2) p c ∷ cond (eqb i 3) p d ∷ [] ≡ set (a ∷ b ∷ c ∷ d ∷ []) i p
one_set a b c d zero p l = refl
one_set a b c d (suc zero) p l = refl
one_set a b c d (suc (suc zero)) p l = refl
one_set a b c d (suc (suc (suc zero))) p l = refl
one_set a b c d (suc (suc (suc (suc i)))) p l = absurd (omega arith)

four-set : (xs : List ℕ) → length xs ≡ 4 → (i p : ℕ) → i < 4
    → cond (eqb i 0) p (get_or xs 0 0) ∷ cond (eqb i 1) p (get_or xs 1 0) ∷ cond (eqb i 2) p (get_or xs 2 0) ∷ cond (eqb i 3) p (get_or xs 3 0) ∷ []
    ≡ set xs i p
four-set [] e i p l = absurd (omega arith)
four-set (a ∷ []) e i p l = absurd (omega arith)
four-set (a ∷ b ∷ []) e i p l = absurd (omega arith)
four-set (a ∷ b ∷ c ∷ []) e i p l = absurd (omega arith)
four-set (a ∷ b ∷ c ∷ d ∷ []) e i p l = one_set a b c d i p l
four-set (a ∷ b ∷ c ∷ d ∷ x ∷ xs) e i p l = absurd (omega arith)

returns : tie.Need-returns
returns c =
    let four : length c.args.picks ≡ 4 = search rules in
    rw (c.either-4.ensures, c.either-3.ensures, c.either-2.ensures, c.either.ensures)
    (four-set c.args.picks four c.args.i c.args.p c.requires)

pub placed_spec : {M : Type 1} → statement M
placed_spec =
    tie.close
    (tie.spec
    (λ c. search rules)
    (λ c κs. search rules)
    (λ c. search rules)
    (λ c κs. search rules)
    (λ c. search rules)
    (λ c κs. search rules)
    (λ c. search rules)
    (λ c κs. search rules)
    returns)
