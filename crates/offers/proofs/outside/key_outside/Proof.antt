-- `key_outside` meets its contract: an owner takes part if it is not in the set.
use borrow.Author.Rules.{rules}
use mathlib.Core.Bool.{not}
use mathlib.Core.Path.{sym, ap}
use Rattle.idset.specs.IdSet.{has}
use Rattle.offers.proofs.outside.key_outside.Statement.{statement}
use Rattle.offers.proofs.outside.key_outside.Tie as tie

returns : tie.Need-returns
returns c =
    let set = c.args.stopped.now in
    (λ origin. c.key_if.ensures.0 (λ v. not (has set v)) origin (ap not (sym c.has-there.ensures)), c.key_if.ensures.1)

pub key_outside_spec : {M : Type 1} → statement M
key_outside_spec = tie.close (tie.spec (λ c κs. search rules) (λ c κs. search rules) returns)
