-- `front_of` reads four ports.
use borrow.Author.Rules.{rules}
use Rattle.rule_moves.proofs.rule.front_of.Statement.{statement}
use Rattle.rule_moves.proofs.rule.front_of.Tie as tie

returns : tie.Need-returns
returns c = rw (c.port_if-d.ensures, c.port_if-c.ensures, c.port_if-b.ensures, c.port_if-a.ensures)

pub front_of_spec : {M : Type 1} → statement M
front_of_spec =
    tie.close
    (tie.spec
    (λ c. search rules)
    (λ c κs. search rules)
    (λ c. search rules)
    (λ c κs. search rules)
    (λ c. search rules)
    (λ c κs. search rules)
    (λ c. search rules)
    (λ c κs. search rules)
    returns)
