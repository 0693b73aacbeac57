-- `make_reaction` meets its contract: the form, the verdict and the step of `Moving`.
use borrow.Author.Rules.{rules}
use borrow.Author.Tests.{not-true, not-false}
use mathlib.Core.Path.{◌≡◌, refl, sym, ◌∙◌}
use mathlib.Core.Bool.{true}
use native.Mathlib.Omega.{arith}
use lib.ListN.{length}
use Rattle.semantics.specs.Words.{head_number}
use Rattle.semantics.specs.Table.{table_of}
use Rattle.semantics.specs.Move.{move_ok}
use Rattle.wellformed.specs.Tables.{well-formed}
use Rattle.words.specs.Head.{words_in}
use Rattle.reaction.specs.Decoded.{decodes-itself}
use Rattle.step.specs.Moves.{below-rules, form-no-rule}
use Rattle.step.specs.Make.{made-malformed}
use Rattle.step.proofs.Moving.{Chosen, reaction-form, reaction-refused, reaction-asked, reaction-made}
use Rattle.step.proofs.make.make_reaction.Statement.{statement}
use Rattle.step.proofs.make.make_reaction.Tie as tie

-- where a decoded rule began, and where its verdict was asked
abbrev start : tie.After-rule_at-rule → tie.Start
start c = c.before.before.before.before.before.before.before

abbrev looked-at : tie.After-react_verdict-verdict → tie.After-looked-unmarked
looked-at c = c.before

abbrev formed-at : tie.After-react_verdict-verdict → tie.Else-not-unused_zero
formed-at c = (looked-at c).before

abbrev rule-of : tie.After-react_verdict-verdict → tie.After-rule_at-rule
rule-of c = (formed-at c).before.before

number : (c : tie.After-rule_at-rule) → c.number_of-number.result ≡ head_number (start c).args.mv.head
number c = c.number_of-number.ensures

four : (c : tie.Start) → length c.args.mv.picks ≡ 4
four c = search rules

returns : tie.Need-returns-then-sizes-number
returns c =
    let m = c.args.mv in
    rw c.refused.ensures
    (made-malformed c.requires.0.workable refl refl
    (sym (form-no-rule _ c.sizes_of-sizes.ensures m.head m.picks (four c.before.before.before.before.before.before.before) c.requires.1
    (rw c.number_of-number.ensures at c.if-sizes-number.true))))

chosen : (c : tie.After-rule_at-rule) → Chosen (start c).args.table.now c.rule_at-rule.result (start c).args.mv.head (start c).args.mv.picks
chosen c = record {
  table = (start c).requires.0.indexed.table;
  four = four (start c);
  kind = (start c).requires.1;
  below = below-rules (start c).args.table.now c.sizes_of-sizes.ensures (rw (number c) at c.if-sizes-number.false);
  rule = rw (number c) at c.rule_at-rule.ensures;
}

formed : (c : tie.Else-not-unused_zero) → move_ok (table_of (start c.before.before).args.table.now) (words_in (start c.before.before).args.mv) ≡ true
formed c = sym (reaction-form (chosen c.before.before) c.unused_zero.ensures) ∙ not-false _ c.if-not-unused_zero.false-raw

returns-2 : tie.Need-returns-then-not-unused_zero
returns-2 c =
    rw c.refused-then-not-unused_zero.ensures
    (made-malformed (start c.before.before.before).requires.0.workable refl refl (sym (reaction-form (chosen c.before.before.before) c.unused_zero.ensures)
    ∙ not-true _ c.if-not-unused_zero.true-raw))

looked-requires : tie.Need-looked-unmarked-requires
looked-requires c κs =
    let w = (start c.before.before).requires.0.workable in
    (omega (arith, w.bounds.fits, w.limit), w.arrays.items, w.looked.within, w.looked.none)

react-verdict-requires : tie.Need-react_verdict-verdict-requires
react-verdict-requires c κs =
    let w = (start c.before.before.before).requires.0.workable in (
      record { owners = w.arrays.owners; items = w.arrays.items; fits = omega (arith, w.bounds.fits, w.limit) },
      decodes-itself _ _ c.rule_at-rule.ensures,
      c.looked-unmarked.ensures.1,
    )

returns-3 : tie.Need-returns-in-Denied
returns-3 c =
    let start = start (rule-of c.before.before) in
    rw c.refused-in-Denied.ensures
    (reaction-refused (chosen (rule-of c.before.before)) (formed (formed-at c.before.before)) start.requires.0.workable
    (c.react_verdict-verdict.ensures start.args.origins.now)
    _ refl refl c.in-Denied.is)

react-requires : tie.Need-react-after-requires
react-requires c κs =
    let start = start (rule-of c.before.before.before.before) in
    reaction-asked (chosen (rule-of c.before.before.before.before)) (formed (formed-at c.before.before.before.before)) start.requires.0.workable
    (c.react_verdict-verdict.ensures start.args.origins.now)
    c.in_default.is start.requires.0.maker-fits

returns-4 : tie.Need-returns
returns-4 c =
    let start = start (rule-of c.before.before.before.before.before.before.before) in
    rw (c.allowed.ensures, c.kept-left.ensures)
    (reaction-made (chosen (rule-of c.before.before.before.before.before.before.before))
    (formed (formed-at c.before.before.before.before.before.before.before)) start.requires.0.workable
    (c.react_verdict-verdict.ensures start.args.origins.now)
    c.in_default.is _ refl refl (looked-at c.before.before.before.before.before.before.before).looked-unmarked.ensures c.react-after.ensures)

pub make_reaction_spec : {M : Type 1} → statement M
make_reaction_spec =
    tie.close
    (tie.spec
    (λ c κs. search rules) (λ c κs. (well-formed _ c.requires.0.indexed.table).sizes.long) (λ c κs. search rules) returns
    (λ c κs. (
      c.requires.0.indexed.table,
      below-rules c.args.table.now c.sizes_of-sizes.ensures c.if-sizes-number.false,
      c.requires.0.indexed.starts,
    ))
    (λ c κs. c.rule_at-rule.ensures.legal.most) (λ c κs. search rules) returns-2
    looked-requires react-verdict-requires (λ c. search rules) (λ c κs. search rules) returns-3
    (λ c. search rules) react-requires (λ c κs. search rules) (λ c κs. search rules) returns-4)
