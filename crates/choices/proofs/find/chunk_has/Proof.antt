-- `chunk_has` meets its contract: `found` is of the first j words.
use Prim.Native.Nat.{◌+◌, ◌-◌, ◌≤◌}
use mathlib.Core.Path.{◌≡◌}
use borrow.Author.Rules.{rules}
use lib.Dec.{eqb}
use lib.ListN.{length, get_or}
use Rattle.lists.specs.Lists.{any}
use Rattle.lists.specs.Rows.{rows, rows_from, rows-tails}
use Rattle.lists.specs.Found.{Finding, finding-start, finding-next, finding-done}
use Rattle.words.specs.Search.{in_chunk}
use Rattle.choices.proofs.find.chunk_has.Statement.{statement}
use Rattle.choices.proofs.find.chunk_has.Tie as tie

abbrev Inv : tie.invariant-loop-j
Inv keys from t found₀ j₀ found j =
    (from + 32 ≤ 1024) × (length keys ≡ 1024)
    × Finding (λ w. eqb w t) (rows_from (λ j. get_or keys (from + j) 0) 32) 32 found j (any (λ w. eqb w t) (rows (λ j. get_or keys (from + j) 0) 0 32))

abbrev μ : tie.decreases-loop-j
μ keys from t found₀ j₀ found j = 32 - j

loop-again : tie.Need-loop-j-preserved Inv μ
loop-again c =
    let l = c.loop-j in
    (l.invariant.0, l.invariant.1, finding-next (rows-tails _ _) l.invariant.2 c.loop-j-test.true)

returns : tie.Need-returns Inv μ
unfolding in_chunk
returns c = finding-done (rows-tails _ _) c.loop-j.invariant.2 c.loop-j-test.false

pub chunk_has_spec : {M : Type 1} → statement M
chunk_has_spec =
    tie.close
    (tie.spec Inv μ (λ c. (c.requires.0, c.requires.1, finding-start _ _ _)) (λ c. search rules) (λ c. search rules) (λ c. search rules) (λ c. search rules)
    (λ c. search rules) loop-again returns)
