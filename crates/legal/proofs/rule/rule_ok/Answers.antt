use Rattle.legal.proofs.Runs.{too_long, rule-runs}
use Rattle.legal.proofs.rule.rule_ok.Goals as goal

pub returns-then-ws-gt16 : goal.returns-then-ws-gt16
returns-then-ws-gt16 c = too_long _ _ c.if-ws-gt16.true

pub returns : goal.returns
returns c =
    let class = c.rule_class-class.ensures in
    rule-runs
    _
    _
    (rw class at c.run_end-consumes.ensures)
    (rw class at c.run_end-emits.ensures)
    (rw class at c.run_end-opened.ensures)
    c.if-ws-gt16.false
    (rw class at c.rest_ok.ensures)
