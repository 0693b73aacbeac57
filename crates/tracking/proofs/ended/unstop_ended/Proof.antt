-- `unstop_ended` meets its contract.
use native.Mathlib.Omega.{arith}
use Rattle.stopped.specs.Ended.{commit-stopped}
use Rattle.tracking.proofs.ended.unstop_ended.Statement.{statement}
use Rattle.tracking.proofs.ended.unstop_ended.Tie as tie

returns : tie.Need-returns-then-kind-eq-ABORT
returns c t i s are = record {
  committed = λ e h. absurd (omega (arith, e, c.if-kind-eq-ABORT.true));
  aborted = λ e. c.unstop.ensures t i s are;
}

returns-2 : tie.Need-returns-else-kind-eq-ABORT
returns-2 c t i s are = record {
  committed = λ e h. commit-stopped t s c.args.id are h i;
  aborted = λ e. absurd (c.if-kind-eq-ABORT.false e);
}

pub unstop_ended_spec : {M : Type 1} → statement M
unstop_ended_spec = tie.close (tie.spec (λ c κs. let p = c.requires in (p.0, p.1 c.if-kind-eq-ABORT.true)) returns returns-2)
