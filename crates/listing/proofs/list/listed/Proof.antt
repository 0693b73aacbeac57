-- `listed` meets its contract: the reactions, and behind them the ends.
use Prim.Native.Nat.{◌≤◌}
use mathlib.Core.Path.{◌∙◌}
use native.Mathlib.Omega.{arith}
use Rattle.lists.specs.Padded.{get_or-replicate-any}
use Rattle.lists.specs.Pages.{paged-le, paged-length}
use Rattle.semantics.specs.Enabled.{move_words}
use Rattle.choices.specs.Parts.{part-append}
use Rattle.wellformed.specs.MoveWords.{move_words-length}
use Rattle.listing.proofs.Whole.{part-from-zero}
use borrow.Author.Rules.{rules}
use Rattle.listing.proofs.list.listed.Statement.{statement}
use Rattle.listing.proofs.list.listed.Tie as tie

few : (c : tie.After-reactions-heads) → c.reactions-heads.result.written ≤ c.args.count
few c = paged-le _ 5 c.reactions-heads.ensures.0.paged

count-ports-requires : tie.Need-count_ports-requires
count-ports-requires c κs =
    let k = c.requires.0.2 in
    (k.few, k.size, search rules, λ t. get_or-replicate-any 512 t 0)

reactions-requires : tie.Need-reactions-heads-requires
reactions-requires c κs =
    let p = c.requires in
    ((p.0.0, p.0.1, p.0.2, c.count_ports.ensures, p.0.3), p.1)

tail-requires : tie.Need-tail-ends-requires
tail-requires c κs =
    let p = c.requires in
    let same = paged-length _ 5 c.reactions-heads.ensures.0.paged in (
      (p.0.4, p.0.5),
      (
        omega (arith, p.1.0),
        omega (arith, p.1.0, few c.before.before.before.before.before.before),
        omega
            (arith, p.1.1, same, few c.before.before.before.before.before.before),
      ),
    )

add-t27 : tie.Need-overflow_add-result-2
add-t27 c =
    omega (
      arith,
      few c.before.before.before.before.before.before.before.before.before.before.before.before.before,
      paged-le _ 5
          c.tail-ends.ensures.0.paged,
      c.requires.1.0,
    )

returns : tie.Need-returns
returns c =
    part-append move_words move_words-length _ _ c.reactions-heads.result c.tail-ends.result c.reactions-heads.ensures.0
    (part-from-zero c.reactions-heads.result.written (rw c.less-rest.ensures.0 at c.tail-ends.ensures.0))

pub listed_spec : {M : Type 1} → statement M
listed_spec =
    tie.close
    (tie.spec
    count-ports-requires
    reactions-requires
    (λ c κs. search rules)
    (λ c. omega (arith, few c.before.before.before.before))
    (λ c. omega (arith, few c.before.before.before.before.before, c.requires.1.0))
    tail-requires
    (λ c.
    omega (arith, c.tail-ends.ensures.1, c.reactions-heads.ensures.1))
    add-t27
    (λ c.
    paged-length _ 5 c.tail-ends.ensures.0.paged ∙ paged-length _ 5 c.reactions-heads.ensures.0.paged)
    returns)
