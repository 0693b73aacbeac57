-- `merge` meets its contract: owner by owner, or none where they are one already.
use Prim.Native.Nat.{◌-◌, ◌≤◌}
use mathlib.Core.Path.{◌≡◌, ◌∙◌}
use mathlib.Core.List.{[], ◌∷◌}
use native.Mathlib.Omega.{arith}
use borrow.Author.Rules.{rules}
use lib.ListN.{length, get_or, take}
use Rattle.lists.specs.Written.{Writing, writing_start, writing-next}
use Rattle.products.specs.Products.{merged_owner}
use Rattle.products.proofs.Merging.{four-merged, none-merged}
use Rattle.products.proofs.merge.merge.Statement.{statement}
use Rattle.products.proofs.merge.merge.Tie as tie

abbrev Inv : tie.invariant-loop-j
Inv owners₀ n k home a b c d j₀ owners j = Writing 0 (λ i. merged_owner (a ∷ b ∷ c ∷ d ∷ []) home (get_or owners₀ i 0)) j owners₀ owners
    × (length owners₀ ≡ 1024) × (n ≤ 1024)

abbrev μ : tie.decreases-loop-j
μ owners₀ n k home a b c d j₀ owners j = n - j

returns : tie.Need-returns-then-a-home Inv μ
returns c =
    let a = c.args in
    let four = c.repeated-four in (
      c.requires.0,
      λ j h. none-merged _ _ _ _ a.home _ c.if-a-home.true
          ∙ four-merged four.result (take a.k a.found) a.home _ (search rules) four.ensures,
    )

loop-holds : tie.Need-loop-j-init Inv μ
loop-holds c = (writing_start 0 _ 0 _ (λ i h. absurd (omega arith)), search rules, search rules)

loop-again : tie.Need-loop-j-preserved Inv μ
loop-again c =
    let l = c.loop-j in
    let w = l.invariant.0 in
    (writing-next 0 w (omega (arith, w.size)) _ (c.merged_owner.ensures ∙ rw (w.rest l.j (omega arith))), l.invariant.1, l.invariant.2)

returns-2 : tie.Need-returns Inv μ
returns-2 c =
    let a = c.args in
    let four = c.repeated-four in
    let v = c.loop-j.invariant in (
      v.0.size ∙ v.1,
      λ j h. v.0.done j (omega (arith, c.loop-j-test.false))
          ∙ four-merged four.result (take a.k a.found) a.home _ (search rules) four.ensures,
    )

pub merge_spec : {M : Type 1} → statement M
merge_spec =
    tie.close
    (tie.spec Inv μ (λ c κs. search rules) (λ c. search rules) (λ c. search rules) (λ c. search rules) (λ c. search rules) returns loop-holds
    (λ c. search rules) (λ c. search rules) (λ c κs. search rules) (λ c. search rules) (λ c. search rules) (λ c. search rules) (λ c. search rules)
    loop-again returns-2)
