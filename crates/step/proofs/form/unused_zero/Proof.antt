use Prim.Native.Nat.{ℕ, zero, suc, ◌≤◌}
use mathlib.Core.Path.{◌≡◌, refl, sym, ap, ◌∙◌}
use mathlib.Core.Bool.{◌&&◌, ◌||◌, and-true}
use mathlib.Core.List.{[], ◌∷◌}
use native.Mathlib.Omega.{arith}
use borrow.Author.Rules.{rules}
use lib.Dec.{eqb, leb}
use lib.ListN.{length, get_or, drop}
use Rattle.lists.specs.Lists.{all}
use Rattle.semantics.specs.Move.{is_zero}
use Rattle.reaction.specs.Four.{four-places}
use Rattle.step.proofs.form.unused_zero.Statement.{statement}
use Rattle.step.proofs.form.unused_zero.Tie as tie

-- four numbers from k on, one by one
tested : (a b c d k : ℕ) → k ≤ 4
    → (leb 1 k || eqb a 0) && ((leb 2 k || eqb b 0) && ((leb 3 k || eqb c 0) && (leb 4 k || eqb d 0))) ≡ all is_zero (drop k (a ∷ b ∷ c ∷ d ∷ []))
tested a b c d zero h = rw (and-true (eqb d 0))
tested a b c d (suc zero) h = rw (and-true (eqb d 0))
tested a b c d (suc (suc zero)) h = rw (and-true (eqb d 0))
tested a b c d (suc (suc (suc zero))) h = rw (and-true (eqb d 0))
tested a b c d (suc (suc (suc (suc zero)))) h = refl
tested a b c d (suc (suc (suc (suc (suc k))))) h = absurd (omega arith)

returns : tie.Need-returns
returns c =
    let a = c.args in
    let four : length a.picks ≡ 4 = search rules in
    tested (get_or a.picks 0 0) (get_or a.picks 1 0) (get_or a.picks 2 0) (get_or a.picks 3 0) a.k c.requires
    ∙ sym (ap (λ ps. all is_zero (drop a.k ps)) (four-places a.picks four))

pub unused_zero_spec : {M : Type 1} → statement M
unused_zero_spec = tie.close (tie.spec (λ c. search rules) (λ c. search rules) (λ c. search rules) (λ c. search rules) returns)
