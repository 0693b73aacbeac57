-- `run` meets its contract: each return is a fault at a place of `run_faults`, or the log run (`Running`).
use mathlib.Core.Path.{sym, ◌∙◌}
use borrow.Author.Tests.{not-true, not-false}
use Rattle.calls.proofs.Running.{run-denied, run-missized, run_short, run-done}
use borrow.Author.Rules.{rules}
use Rattle.calls.proofs.logs.run.Statement.{statement}
use Rattle.calls.proofs.logs.run.Tie as tie

returns : tie.Need-returns-in-Denied
returns c = run-denied _ _ _ _ _ _ (sym c.ready-checked.ensures.verdict ∙ c.in-Denied.is)

returns-2 : tie.Need-returns-then-not-sizes_ok
returns-2 c =
    run-missized _ _ _ _ _ (sym c.ready-checked.ensures.verdict ∙ c.in_default.is) c.sizes_ok.ensures
    (not-true _ c.if-not-sizes_ok.true-raw)

returns-3 : tie.Need-returns-then-target-lt-MAX_WORDS
returns-3 c =
    run_short _ _ _ _ _ (sym c.ready-checked.ensures.verdict ∙ c.in_default.is) c.sizes_ok.ensures
    (not-false _ c.if-not-sizes_ok.false-raw) c.if-target-lt-MAX_WORDS.true

run-and-store-requires : tie.Need-run_and_store-requires
run-and-store-requires c κs =
    let said = c.ready-checked.ensures in
    record {
      ready = said.ready (sym said.verdict ∙ c.in_default.is);
      sizes = sym c.sizes_ok.ensures ∙ not-false _ c.if-not-sizes_ok.false-raw;
      room = c.if-target-lt-MAX_WORDS.false;
    }

returns-4 : tie.Need-returns
returns-4 c =
    run-done _ _ _ _ _ (sym c.ready-checked.ensures.verdict ∙ c.in_default.is) c.sizes_ok.ensures
    (not-false _ c.if-not-sizes_ok.false-raw) c.if-target-lt-MAX_WORDS.false c.run_and_store.ensures

pub run_spec : {M : Type 1} → statement M
run_spec =
    tie.close
    (tie.spec
    (λ c κs. search rules)
    (λ c. search rules)
    returns
    (λ c. search rules)
    (λ c κs. search rules)
    returns-2
    returns-3
    run-and-store-requires
    (λ c. search rules)
    returns-4)
