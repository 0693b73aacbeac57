use borrow.Author.Rules.{rules}
use mathlib.Core.Path.{sym, ◌∙◌}
use mathlib.Core.Bool.{◌&&◌}
use lib.Dec.{ltb}
use borrow.Author.Tests.{not-true, not-false}
use Rattle.ending.proofs.Surveying.{end-found}
use Rattle.ending.proofs.verdict.end_verdict.Statement.{statement}
use Rattle.ending.proofs.verdict.end_verdict.Tie as tie

returns : tie.Need-returns-then-not-id-found
returns c gs =
    let f = c.surveyed-found in
    let a = c.args in
    rw (not-true (ltb 0 a.id && f.result.open) c.if-not-id-found.true-raw) at (end-found (f.ensures gs) a.kind)

returns-2 : tie.Need-returns-then-not-may_end
returns-2 c gs =
    let f = c.surveyed-found in
    let a = c.args in
    rw (
      not-false (ltb 0 a.id && f.result.open) c.if-not-id-found.false-raw,
      sym c.may_end.ensures
          ∙ not-true _ c.if-not-may_end.true-raw,
    ) at (end-found (f.ensures gs) a.kind)

returns-3 : tie.Need-returns
returns-3 c gs =
    let f = c.surveyed-found in
    let a = c.args in
    rw (
      not-false (ltb 0 a.id && f.result.open) c.if-not-id-found.false-raw,
      sym c.may_end.ensures
          ∙ not-false _ c.if-not-may_end.false-raw,
    ) at (end-found (f.ensures gs) a.kind)

pub end_verdict_spec : {M : Type 1} → statement M
end_verdict_spec = tie.close (tie.spec (λ c κs. search rules) returns (λ c κs. search rules) returns-2 returns-3)
