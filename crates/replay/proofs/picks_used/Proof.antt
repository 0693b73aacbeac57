use borrow.Author.Rules.{rules}
use mathlib.Core.Path.{sym, ap, ◌∙◌}
use native.Mathlib.Omega.{arith}
use Rattle.semantics.specs.Table.{table_of}
use Rattle.wellformed.specs.Tables.{well-formed}
use Rattle.semantics.specs.declared.Sizes.{Sizes}
use Rattle.step.specs.Moves.{below-rules}
use Rattle.replay.proofs.Used.{used-end, used-no-rule, used-rule}
use Rattle.replay.proofs.picks_used.Statement.{statement}
use Rattle.replay.proofs.picks_used.Tie as tie

returns : tie.Need-returns-then-kind_of-ne-REACT
returns c =
    let a = c.args in
    (used-end (table_of a.table.now) a.head (λ e. c.if-kind_of-ne-REACT.true (c.kind_of.ensures ∙ e)), omega arith)

returns-2 : tie.Need-returns-then-sizes-number
returns-2 c =
    let t = c.args.table.now in
    let e = ap (λ (z : Sizes). z.rules) c.sizes_of-sizes.ensures in (
      used-no-rule t _ (sym c.kind_of.ensures ∙ c.if-kind_of-ne-REACT.false)
          (omega (arith, e, c.number_of-number.ensures, c.if-sizes-number.true)),
      omega arith,
    )

consumes-at-requires : tie.Need-consumes_at-requires
consumes-at-requires c κs =
    (c.requires.table, below-rules c.args.table.now c.sizes_of-sizes.ensures c.if-sizes-number.false, c.requires.starts)

returns-3 : tie.Need-returns
returns-3 c =
    let a = c.args in
    let number = c.number_of-number.ensures in (
      (rw number at c.consumes_at.ensures.0) ∙ sym (used-rule (table_of a.table.now) a.head
          (sym c.kind_of.ensures ∙ c.if-kind_of-ne-REACT.false)),
      c.consumes_at.ensures.1,
    )

pub picks_used_spec : {M : Type 1} → statement M
picks_used_spec =
    tie.close (tie.spec (λ c κs. search rules) returns (λ c κs. search rules)
    (λ c κs. (well-formed _ c.requires.table).sizes.long) returns-2 consumes-at-requires returns-3)
