-- `grouped_moves` meets its contract: counts, and `counted_moves` with them.
use native.Mathlib.Omega.{arith}
use Rattle.lists.specs.Padded.{get_or-replicate-any}
use Rattle.lists.specs.Pages.{paged-length}
use borrow.Author.Rules.{rules}
use Rattle.rule_moves.proofs.grouped.grouped_moves.Statement.{statement}
use Rattle.rule_moves.proofs.grouped.grouped_moves.Tie as tie

pub grouped_moves_spec : {M : Type 1} → statement M
grouped_moves_spec =
    tie.close
    (tie.spec
    (λ c. search rules)
    (λ c. search rules)
    (λ c. search rules)
    (λ c. search rules)
    (λ c κs.
    let p = c.requires.0 in (
      (p.0, omega (arith, p.1 0), omega (arith, p.1 1), omega (arith, p.1 2), omega (arith, p.1 3)),
      (search rules, λ g. get_or-replicate-any 1024 g 0),
    ))
    (λ c κs.
    let p = c.requires in
    let g = c.count_groups-top.ensures in
    ((p.0.0, p.0.1, p.0.2, p.0.3, g.0, g.1), p.1))
    (λ c. paged-length _ 5 c.counted_moves.ensures.0.paged)
    (λ c. c.counted_moves.ensures))
