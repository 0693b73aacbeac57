use Rattle.legal.proofs.Runs.{rest-runs}
use Rattle.legal.proofs.rule.rest_ok.Goals as goal

pub returns : goal.returns
returns c = rest-runs _ _ _ c.run_end-bodies.ensures c.run_end-compensations.ensures c.run_end-aborts.ensures
