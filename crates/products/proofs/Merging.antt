-- The owners found put under one of them, by four comparisons.
use Prim.Native.Nat.{ℕ, ◌<◌}
use mathlib.Core.Path.{◌≡◌, sym, ap, ◌∙◌}
use native.Mathlib.Omega.{arith}
use mathlib.Core.Bool.{Bool, true, ◌&&◌, cond}
use mathlib.Core.List.{List, [], ◌∷◌, map}
use borrow.Author.Tests.{eqb-true}
use lib.Dec.{eqb}
use lib.ListN.{length, get_or}
use Rattle.lists.specs.Lists.{is_in, least}
use Rattle.lists.specs.Choices.{by_bool, and_left, and_right, and-three}
use Rattle.lists.specs.Rows.{rows, rows_ext, map_rows}
use Rattle.semantics.specs.Move.{merged}
use Rattle.state.specs.Working.{row_of}
use Rattle.products.specs.Products.{merged_owner}
use Rattle.reaction.specs.Four.{four-places}

-- four that have the same elements
pub four-merged : (few os : List ℕ) (home o : ℕ) → length few ≡ 4 → ((x : ℕ) → is_in x few ≡ is_in x os)
    → merged_owner (get_or few 0 0 ∷ get_or few 1 0 ∷ get_or few 2 0 ∷ get_or few 3 0 ∷ []) home o ≡ merged_owner os home o
four-merged few os home o l e = ap (λ (g : List ℕ). merged_owner g home o) (sym (four-places few l)) ∙ ap (λ (b : Bool). cond b home o) (e o)

-- four that are one already
pub none-merged : (a b c d home o : ℕ) → eqb a home && eqb b home && eqb c home && eqb d home ≡ true → o ≡ merged_owner (a ∷ b ∷ c ∷ d ∷ []) home o
none-merged a b c d home o h =
    let (l, ec, ed) = and-three (eqb a home && eqb b home) (eqb c home) (eqb d home) h in
    let ea = and_left (eqb a home) (eqb b home) l in
    let eb = and_right (eqb a home) (eqb b home) l in
    rw (eqb-true a home ea, eqb-true b home eb, eqb-true c home ec, eqb-true d home ed)
    (by_bool (eqb o home) (λ e. rw e (eqb-true o home e)) (λ e. rw e))

-- in the rows
pub merged-rows : (os os' ws gs found : List ℕ) (home n : ℕ) → home ≡ least found → ((j : ℕ) → j < n → get_or os' j 0 ≡ merged_owner found home (get_or os j 0))
    → rows (row_of os' ws gs) 0 n ≡ map (merged found) (rows (row_of os ws gs) 0 n)
merged-rows os os' ws gs found home n e h =
    rw (map_rows (merged found) (row_of os ws gs) 0 n) (rows_ext _ _ 0 n (λ j l u. rw (h j (omega arith), e)))
