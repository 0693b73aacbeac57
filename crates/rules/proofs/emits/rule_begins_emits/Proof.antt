-- `emits::rule_begins_emits` meets its contract.
use borrow.Author.Rules.{rules}
use Rattle.rules.proofs.Emitting.{opens-roles}
use Rattle.rules.proofs.emits.rule_begins_emits.Statement.{statement}
use Rattle.rules.proofs.emits.rule_begins_emits.Tie as tie

returns : tie.Need-returns
returns c z = rw (c.has_role-2.ensures, c.has_role.ensures) (opens-roles z _)

pub rule_begins_emits_spec : {M : Type 1} → statement M
rule_begins_emits_spec = tie.close (tie.spec (λ c κs. search rules) (λ c κs. search rules) returns)
