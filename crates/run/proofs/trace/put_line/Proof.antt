-- `put_line` meets its contract: four stores side by side.
use Prim.Native.Nat.{ℕ, suc, ◌+◌, ◌*◌}
use mathlib.Core.List.{List, [], ◌∷◌}
use mathlib.Core.Path.{◌≡◌}
use native.Mathlib.Omega.{arith}
use borrow.Author.Rules.{rules}
use lib.ListN.{set, length-set}
use lib.Seq.{sets}
use Rattle.run.proofs.trace.put_line.Statement.{statement}
use Rattle.run.proofs.trace.put_line.Tie as tie

four-stores : (l : List ℕ) (n a b c d : ℕ) → set (set (set (set l n a) (n + 1) b) (n + 2) c) (n + 3) d ≡ sets l n (a ∷ b ∷ c ∷ d ∷ [])
four-stores l n a b c d =
    let e1 : n + 1 ≡ suc n = omega arith in
    let e2 : n + 2 ≡ suc (suc n) = omega arith in
    let e3 : n + 3 ≡ suc (suc (suc n)) = omega arith in
    rw (e1, e2, e3)

returns : tie.Need-returns
returns c =
    let a = c.args in
    four-stores a.lines.now (4 * a.i) a.i a.answer a.left.len a.left.next

pub put_line_spec : {M : Type 1} → statement M
put_line_spec =
    tie.close
    (tie.spec
    (λ c. search rules) (λ c. search rules) (λ c. search rules) (λ c. search rules) (λ c. search rules) (λ c. search rules)
    (λ c. simp length-set (omega arith)) (λ c. search rules) (λ c. search rules) (λ c. search rules)
    (λ c. simp length-set (omega arith)) (λ c. search rules) (λ c. search rules)
    (λ c. simp length-set (omega arith)) (λ c. search rules)
    returns)
