use borrow.Author.Rules.{rules}
use mathlib.Core.Path.{refl}
use Rattle.reaction.proofs.Picking.{ports-four}
use Rattle.reaction.proofs.verdict.consume_ports.Statement.{statement}
use Rattle.reaction.proofs.verdict.consume_ports.Tie as tie

returns : tie.Need-returns
returns c = (ports-four c.args.rule c.requires, refl)

pub consume_ports_spec : {M : Type 1} → statement M
consume_ports_spec = tie.close (tie.spec (λ c. search rules) (λ c. search rules) (λ c. search rules) (λ c. search rules) returns)
