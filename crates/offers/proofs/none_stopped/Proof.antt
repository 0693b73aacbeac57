-- `none_stopped` meets its contract: a pass that comes to the end has met no mark.
use borrow.Author.Rules.{rules}
use mathlib.Core.Path.{◌≡◌}
use native.Mathlib.Omega.{arith}
use borrow.Author.Tests.{eqb-true}
use Rattle.offers.proofs.none_stopped.Statement.{statement}
use Rattle.offers.proofs.none_stopped.Tie as tie

returns : tie.Need-returns
returns c h j l =
    let e : c.unmarked_until.result ≡ c.args.at.len = eqb-true _ _ h in
    c.unmarked_until.ensures.1 j (omega (arith, e, l))

pub none_stopped_spec : {M : Type 1} → statement M
none_stopped_spec = tie.close (tie.spec (λ c κs. search rules) (λ c. search rules) returns)
