-- `handed_on` gives what it was handed.
use mathlib.Core.Path.{sym, ap}
use Rattle.first_end.specs.declared.First.{First}
use Rattle.next_move.proofs.reactions.handed_on.Statement.{statement}
use Rattle.next_move.proofs.reactions.handed_on.Tie as tie

returns : tie.Need-returns
returns c =
    ap {B = First} (λ b. record { found = b; mv = c.args.first.mv }) (sym c.requires)

pub handed_on_spec : {M : Type 1} → statement M
handed_on_spec = tie.close (tie.spec returns)
