-- `takes_of` has the ports of the consumes, all of them small.
use mathlib.Core.Path.{◌∙◌}
use Rattle.rule_moves.proofs.Reactions.{front-take, front-small}
use borrow.Author.Rules.{rules}
use Rattle.rule_moves.proofs.rule.takes_of.Statement.{statement}
use Rattle.rule_moves.proofs.rule.takes_of.Tie as tie

returns : tie.Need-returns
returns c =
    let ports = c.consume_ports.result in
    let e = c.consume_ports.ensures in
    let k = c.args.rule.consumes in
    rw c.front_of.ensures (front-take ports e.1 k c.requires.0.legal.most ∙ e.0, front-small ports e.1 k (rw e.0 c.requires.1))

pub takes_of_spec : {M : Type 1} → statement M
takes_of_spec = tie.close (tie.spec (λ c κs. c.requires.0) (λ c κs. search rules) returns)
