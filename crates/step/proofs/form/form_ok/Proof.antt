use borrow.Author.Rules.{rules}
use Prim.Native.Nat.{ℕ}
use mathlib.Core.Path.{◌≡◌, sym, ap, ◌∙◌}
use lib.ListN.{length, drop}
use Rattle.lists.specs.Lists.{all}
use Rattle.semantics.specs.Move.{is_zero}
use Rattle.wellformed.specs.Tables.{well-formed}
use Rattle.step.specs.Moves.{below-rules, form-end, form-no-rule, form-rule}
use Rattle.step.proofs.form.form_ok.Statement.{statement}
use Rattle.step.proofs.form.form_ok.Tie as tie

four : (c : tie.Start) → length c.args.mv.picks ≡ 4
four c = search rules

-- where a reaction's number was read
abbrev start : tie.After-sizes_of-sizes → tie.Start
start c = c.before.before.before.before.before.before

abbrev a-reaction : (c : tie.After-sizes_of-sizes) → tie.After-kind_of
a-reaction c = c.before.before.before

returns : tie.Need-returns-then-kind_of-ne-REACT
returns c =
    c.end_form.ensures
    ∙ form-end _ c.args.mv.head c.args.mv.picks (four c.before.before.before.before.before) (λ e. c.if-kind_of-ne-REACT.true (c.kind_of.ensures ∙ e))

returns-2 : tie.Need-returns-then-sizes-number
returns-2 c =
    let m = (start c.before.before).args.mv in
    form-no-rule _ c.sizes_of-sizes.ensures m.head m.picks (four (start c.before.before))
    (sym (a-reaction c.before.before).kind_of.ensures ∙ c.if-kind_of-ne-REACT.false) (rw c.number_of-number.ensures at c.if-sizes-number.true)

consumes-at-requires : tie.Need-consumes_at-requires
consumes-at-requires c κs =
    let p = (start c.before.before).requires in
    (p.table, below-rules (start c.before.before).args.table.now c.sizes_of-sizes.ensures c.if-sizes-number.false, p.starts)

returns-3 : tie.Need-returns
returns-3 c =
    let number = c.number_of-number.ensures in
    let m = (start c.before.before.before.before).args.mv in
    c.unused_zero.ensures
    ∙ ap (λ (k : ℕ). all is_zero (drop k m.picks)) (rw number at c.consumes_at.ensures.0)
    ∙ form-rule _ c.sizes_of-sizes.ensures m.head m.picks (four (start c.before.before.before.before))
    (sym (a-reaction c.before.before.before.before).kind_of.ensures ∙ c.if-kind_of-ne-REACT.false) (rw number at c.if-sizes-number.false)

pub form_ok_spec : {M : Type 1} → statement M
form_ok_spec =
    tie.close
    (tie.spec
    (λ c κs. search rules) (λ c κs. search rules) returns (λ c κs. search rules)
    (λ c κs. (well-formed _ c.requires.table).sizes.long) returns-2
    consumes-at-requires (λ c κs. c.consumes_at.ensures.1) returns-3)
