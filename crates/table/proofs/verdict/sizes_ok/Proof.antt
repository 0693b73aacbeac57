-- `verdict::sizes_ok` meets its contract: a table too short by its first test, another by the rest.
use borrow.Author.Rules.{rules}
use mathlib.Core.Path.{sym}
use borrow.Author.Tests.{lt-leb, le-leb}
use Rattle.lists.specs.Tests.{false-and}
use Rattle.semantics.specs.Table.{table_sizes_ok}
use Rattle.table.proofs.verdict.sizes_ok.Statement.{statement}
use Rattle.table.proofs.verdict.sizes_ok.Tie as tie

returns : tie.Need-returns-then-table-lt5
unfolding table_sizes_ok
returns c = sym (false-and _ (lt-leb 5 _ c.if-table-lt5.true))

returns-2 : tie.Need-returns
unfolding table_sizes_ok
returns-2 c = rw (c.sizes_of-z.ensures, le-leb 5 _ c.if-table-lt5.false)

pub sizes_ok_spec : {M : Type 1} → statement M
sizes_ok_spec =
    tie.close
    (tie.spec
    returns
    (λ c κs. search rules)
    (λ c. search rules)
    (λ c. search rules)
    (λ c. search rules)
    (λ c. search rules)
    (λ c. search rules)
    (λ c. search rules)
    (λ c. search rules)
    (λ c. search rules)
    returns-2)
