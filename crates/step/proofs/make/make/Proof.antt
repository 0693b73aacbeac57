-- `make` meets its contract: by the head's kind.
use borrow.Author.Rules.{rules}
use mathlib.Core.Path.{sym, ◌∙◌}
use Rattle.step.proofs.make.make.Statement.{statement}
use Rattle.step.proofs.make.make.Tie as tie

make-reaction-requires : tie.Need-make_reaction-requires
make-reaction-requires c κs =
    (c.requires, sym c.kind_of.ensures ∙ c.if-kind_of-eq-REACT.true)

make-end-requires : tie.Need-make_end-requires
make-end-requires c κs =
    let able = c.requires in
    (able.indexed.table, (able.workable, λ e. c.if-kind_of-eq-REACT.false (c.kind_of.ensures ∙ e)))

pub make_spec : {M : Type 1} → statement M
make_spec = tie.close (tie.spec (λ c κs. search rules) make-reaction-requires (λ c. c.make_reaction.ensures) make-end-requires (λ c. c.make_end.ensures _))
