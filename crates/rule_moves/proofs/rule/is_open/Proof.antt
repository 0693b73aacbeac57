-- `is_open` computes the two tests of `has_room_for`.
use native.Mathlib.Omega.{arith}
use Rattle.reaction.specs.Decoded.{count-atoms}
use borrow.Author.Rules.{rules}
use Rattle.rule_moves.proofs.rule.is_open.Statement.{statement}
use Rattle.rule_moves.proofs.rule.is_open.Tie as tie

returns : tie.Need-returns
returns c =
    let d = c.requires.0 in
    rw (d.begins, count-atoms c.args.rule d, ← d.consumes)

pub is_open_spec : {M : Type 1} → statement M
is_open_spec =
    tie.close
    (tie.spec
    (λ c. omega (arith, c.requires.1, c.requires.0.few))
    (λ c. search rules)
    (λ c. search rules)
    returns)
