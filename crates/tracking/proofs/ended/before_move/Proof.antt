-- `before_move` meets its contract: a reaction is still to be made with what is kept.
use mathlib.Core.Path.{◌≡◌, sym, ◌∙◌}
use borrow.Author.Rules.{rules}
use Rattle.semantics.specs.Words.{head_kind}
use Rattle.tracking.proofs.ended.before_move.Statement.{statement}
use Rattle.tracking.proofs.ended.before_move.Tie as tie

abbrev other : (c : tie.Then-kind_of-ne-REACT) → head_kind c.args.head ≡ 0 → ⊥
other c e = c.if-kind_of-ne-REACT.true (c.kind_of.ensures ∙ e)

returns : tie.Need-returns-then-kind_of-ne-REACT
returns c t index i ceiling gs picks g = record {
  reaction = λ e. absurd (other c.before.before.before e);
  ended = λ e. c.follow_end.ensures t index i ceiling gs picks g;
}

returns-2 : tie.Need-returns-else-kind_of-ne-REACT
returns-2 c t index i ceiling gs picks g = record {
  reaction = λ e. g;
  ended = λ e. absurd (e (sym c.kind_of.ensures ∙ c.if-kind_of-ne-REACT.false));
}

pub before_move_spec : {M : Type 1} → statement M
before_move_spec =
    tie.close (tie.spec (λ c κs. search rules) (λ c κs. (other c.before.before, c.requires)) returns returns-2)
