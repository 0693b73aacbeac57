-- `tail` meets its contract: the commits, and behind them the aborts.
use Prim.Native.Nat.{◌≤◌}
use native.Mathlib.Omega.{arith}
use Rattle.lists.specs.Pages.{paged-le, paged-length}
use Rattle.semantics.specs.Move.{commit, abort}
use Rattle.semantics.specs.Enabled.{move_words}
use Rattle.choices.specs.Parts.{part-map, part-append}
use Rattle.wellformed.specs.MoveWords.{move_words-length}
use borrow.Author.Rules.{rules}
use Rattle.listing.proofs.tail.tail.Statement.{statement}
use Rattle.listing.proofs.tail.tail.Tie as tie

-- the commits are on the page
few : (c : tie.After-ends-commits) → c.ends-commits.result.written ≤ c.args.count
few c = paged-le _ 5 c.ends-commits.ensures.0.paged

ends-requires-2 : tie.Need-ends-aborts-requires
ends-requires-2 c κs =
    let p = c.requires in
    let same = paged-length _ 5 c.ends-commits.ensures.0.paged in
    ((p.0.0, p.0.1, omega arith), (omega (arith, p.1.0), omega (arith, p.1.2, same, few c.before.before.before.before.before.before)))

add-t16 : tie.Need-overflow_add-result-2
add-t16 c =
    omega (
      arith,
      few c.before.before.before.before.before.before.before.before.before.before.before.before.before,
      paged-le _ 5
          c.ends-aborts.ensures.0.paged,
      c.requires.1.0,
    )

returns : tie.Need-returns
returns c =
    let first = part-map commit move_words c.ends-commits.ensures.0 in
    let second = rw c.less-rest.ensures.0 at c.ends-aborts.ensures.0 in (
      part-append move_words move_words-length _ _ c.ends-commits.result c.ends-aborts.result first (part-map abort move_words second),
      omega (arith, c.ends-commits.ensures.1, c.ends-aborts.ensures.1),
    )

pub tail_spec : {M : Type 1} → statement M
tail_spec =
    tie.close
    (tie.spec
    (λ c κs. search rules)
    (λ c κs. search rules)
    (λ c. omega (arith, few c.before.before.before.before))
    (λ c. omega (arith, few c.before.before.before.before.before, c.requires.1.0))
    (λ c. omega (arith, few c.before.before.before.before.before, c.requires.1))
    ends-requires-2
    (λ c. search rules)
    add-t16
    (λ c. search rules)
    returns)
