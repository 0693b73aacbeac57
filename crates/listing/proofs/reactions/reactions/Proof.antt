-- `reactions` meets its contract: the list is paged rule by rule.
use Prim.Native.Nat.{ℕ, ◌+◌, ◌-◌, ◌*◌, ◌≤◌, ◌<◌}
use mathlib.Core.Path.{◌≡◌, sym, ap}
use mathlib.Core.List.{List}
use native.Mathlib.Omega.{arith}
use lib.ListN.{length, take}
use Rattle.lists.specs.Tuples.{each_up, up_start, up-end, up-here}
use Rattle.lists.specs.Pages.{Paging, paging-start, paging-pass, paging-more, paging-end, paged-le, paged-length}
use Rattle.semantics.specs.Table.{sizes_of, table_of, rule_at}
use Rattle.semantics.specs.Move.{Move}
use Rattle.semantics.specs.Enabled.{move_words}
use Rattle.wellformed.specs.Tables.{well-formed}
use Rattle.wellformed.specs.MoveWords.{move_words-length}
use Rattle.enabled.specs.Reactions.{consumed-below}
use Rattle.reaction.specs.Decoded.{decodes-itself}
use Rattle.rule_moves.specs.Takes.{small-ports, moves_by, reactions_by}
use Rattle.listing.proofs.Whole.{more-length, part-of-rule, from_zero}
use borrow.Author.Rules.{rules}
use Rattle.listing.proofs.reactions.reactions.Statement.{statement}
use Rattle.listing.proofs.reactions.reactions.Tie as tie

-- the reactions from rule r on
abbrev from : ℕ → List ℕ → ℕ → ℕ → List ℕ → ℕ → List Move
from ceiling t n next ks r = each_up (λ r. moves_by ceiling (rule_at (table_of t) r) r n next ks) (sizes_of t).rules r

abbrev Inv : tie.invariant-loop-r
Inv table starts keys counts at ceiling first count target₀ rules length₀ skip₀ done₀ r₀ target length' skip done r =
    (r ≤ (sizes_of table).rules) × (length' ≤ r * 1125899906842624)
    × Paging move_words 5 (reactions_by ceiling table at.len at.next (take at.len keys))
    (from ceiling table at.len at.next (take at.len keys) r) first count skip done 0 target₀ target
    × (length' + length (from ceiling table at.len at.next (take at.len keys) r)
    ≡ length (reactions_by ceiling table at.len at.next (take at.len keys)))

abbrev μ : tie.decreases-loop-r
μ table starts keys counts at ceiling first count target₀ rules length₀ skip₀ done₀ r₀ target length' skip done r = (sizes_of table).rules - r

loop-holds : tie.Need-loop-r-init Inv μ
loop-holds c =
    let a = c.args in
    let e = up_start (λ r. moves_by a.ceiling (rule_at (table_of a.table.now) r) r a.at.len a.at.next (take a.at.len a.keys.now))
    (sizes_of a.table.now).rules in
    let none = paging-start move_words 5 _ a.first a.count 0 a.target.now in
    (omega arith, omega arith, paging-pass move_words 5 move_words-length none (sym e), omega (arith, ap length e))

below : (c : tie.In-loop-r Inv μ) → c.loop-r.r < (sizes_of c.args.table.now).rules
below c = rw (← ap (λ z. z.rules) c.sizes_of-z.ensures) c.loop-r-test.true

-- no more is written than the page has
done-le : (c : tie.In-loop-r Inv μ) → c.loop-r.done ≤ c.args.count
done-le c = paged-le move_words 5 c.loop-r.invariant.2.paged

moves-by-requires : tie.Need-moves_by-part-requires Inv μ
moves-by-requires c κs =
    let d = c.rule_at-rule.ensures in
    let same = paged-length move_words 5 c.loop-r.invariant.2.paged in
    let ports = small-ports d (consumed-below c.args.table.now c.requires.0.0 c.loop-r.r (below c.before.before)) in (
      (decodes-itself _ _ d, ports, c.requires.0.2, c.requires.0.3, c.requires.0.4),
      (omega (arith, c.requires.1.0), omega (arith, c.requires.1.1, same, done-le c.before.before)),
    )

add-length : tie.Need-overflow_add-length Inv μ
add-length c =
    let few = (well-formed c.args.table.now c.requires.0.0).sizes.rules in
    omega (arith, c.loop-r.invariant.1, c.moves_by-part.ensures.1, below c.before.before.before.before.before.before, few)

add_done : tie.Need-overflow_add-done Inv μ
add_done c =
    omega (arith, paged-le move_words 5 c.moves_by-part.ensures.0.paged, done-le c.before.before.before.before.before.before.before.before, c.requires.1.0)

loop-again : tie.Need-loop-r-preserved Inv μ
loop-again c =
    let a = c.args in
    let l = c.loop-r in
    let part = part-of-rule c.rule_at-rule.ensures a.ceiling l.r a.at.len a.at.next (take a.at.len a.keys.now)
    c.moves_by-part.ensures.0 in
    let next = up-here (λ r. moves_by a.ceiling (rule_at (table_of a.table.now) r) r a.at.len a.at.next (take a.at.len a.keys.now))
    (sizes_of a.table.now).rules l.r (below c.before.before.before.before.before.before.before.before) in
    let more = paging-more move_words 5 move_words-length l.invariant.2 _ _ _ _ next (from_zero l.done part.paged) in (
      omega (arith, below c.before.before.before.before.before.before.before.before),
      omega (arith, l.invariant.1, c.moves_by-part.ensures.1),
      rw (c.less-skip.ensures.0, part.total) more,
      more-length (reactions_by a.ceiling a.table.now a.at.len a.at.next (take a.at.len a.keys.now))
          (from a.ceiling a.table.now a.at.len a.at.next (take a.at.len a.keys.now) l.r)
          (moves_by a.ceiling (rule_at (table_of a.table.now) l.r) l.r a.at.len a.at.next (take a.at.len a.keys.now))
          (from a.ceiling a.table.now a.at.len a.at.next (take a.at.len a.keys.now) (l.r + 1)) l.length
          c.moves_by-part.result.length l.invariant.3 next part.total,
    )

returns : tie.Need-returns Inv μ
returns c =
    let a = c.args in
    let l = c.loop-r in
    let z = ap (λ z. z.rules) c.sizes_of-z.ensures in
    let few = (well-formed a.table.now c.requires.0.0).sizes.rules in
    let none = up-end (λ r. moves_by a.ceiling (rule_at (table_of a.table.now) r) r a.at.len a.at.next (take a.at.len a.keys.now))
    (sizes_of a.table.now).rules l.r (rw (← z) c.loop-r-test.false) in (
      record { total = omega (arith, l.invariant.3, ap length none); paged = paging-end move_words 5 move_words-length l.invariant.2 none },
      omega (arith, l.invariant.1, l.invariant.0, few),
    )

pub reactions_spec : {M : Type 1} → statement M
reactions_spec =
    tie.close
    (tie.spec
    Inv
    μ
    (λ c κs. (well-formed _ c.requires.0.0).sizes.long)
    loop-holds
    (λ c κs. (c.requires.0.0, below c, c.requires.0.1))
    (λ c. omega (arith, done-le c.before))
    (λ c. omega (arith, done-le c.before.before, c.requires.1.0))
    moves-by-requires
    add-length
    (λ c κs. search rules)
    add_done
    (λ c.
    omega (arith, below c.before.before.before.before.before.before.before.before, (well-formed c.args.table.now c.requires.0.0).sizes.rules))
    (λ c. omega (arith, below c.before.before.before.before.before.before.before.before))
    loop-again
    (λ c. paged-length move_words 5 c.loop-r.invariant.2.paged)
    returns)
