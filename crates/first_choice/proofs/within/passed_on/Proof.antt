-- `passed_on` gives what it was handed.
use mathlib.Core.Path.{sym, ap}
use Rattle.first_choice.specs.declared.Choice.{Choice}
use Rattle.first_choice.proofs.within.passed_on.Statement.{statement}
use Rattle.first_choice.proofs.within.passed_on.Tie as tie

returns : tie.Need-returns
returns c = ap {B = Choice} (λ b. record { found = b; picks = c.args.choice.picks }) (sym c.requires)

pub passed_on_spec : {M : Type 1} → statement M
passed_on_spec = tie.close (tie.spec returns)
