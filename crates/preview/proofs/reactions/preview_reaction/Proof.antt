-- `preview_reaction` meets its contract: the verdict, and figures that are counted (`Deciding`).
use borrow.Author.Rules.{rules}
use mathlib.Core.Path.{◌≡◌, ◌∙◌}
use native.Mathlib.Omega.{arith}
use lib.ListN.{length}
use Rattle.semantics.specs.Table.{table_of}
use Rattle.reaction.specs.Decoded.{rule_in, decodes-itself}
use Rattle.reaction.specs.Verdict.{verdict-taken}
use Rattle.preview.proofs.Deciding.{ReactionAsked, rule-below, reaction-rejected, reaction-counted, reaction-begins, reaction-picks, reaction-accepted}
use Rattle.preview.proofs.reactions.preview_reaction.Statement.{statement}
use Rattle.preview.proofs.reactions.preview_reaction.Tie as tie

four : (c : tie.Start) → length c.args.mv.picks ≡ 4
four c = search rules

abbrev start : tie.After-outline_verdict-verdict → tie.Start
start c = c.before.before.before.before.before.before

rule-at-requires : tie.Need-rule_at-rule-requires
rule-at-requires c κs =
    let m = c.args.mv in
    let f = c.requires.1.0 in
    (f.table, rw c.number_of.ensures (rule-below _ m.head m.picks c.requires.1.1 f.form), c.requires.0)

outline-verdict-requires : tie.Need-outline_verdict-verdict-requires
outline-verdict-requires c κs =
    (c.requires.1.0.columns, (rule_in c.rule_at-rule.result, c.outline_of.ensures.0), λ j l. absurd (omega arith))

asked : (c : tie.After-outline_verdict-verdict)
    → ReactionAsked (table_of (start c).args.table.now) c.rule_at-rule.result (start c).args.mv.head (start c).args.mv.picks
    (start c).args.ceiling (start c).args.owners.now (start c).args.items.now (start c).args.at c.outline_verdict-verdict.result
asked c = record {
  four = four (start c);
  kind = (start c).requires.1.1;
  form = (start c).requires.1.0.form;
  rule = rw c.number_of.ensures at c.rule_at-rule.ensures;
  columns = (start c).requires.1.0.columns;
  verdict = λ gs.
      c.outline_verdict-verdict.ensures (rule_in c.rule_at-rule.result) c.outline_of.ensures.0 gs
      ∙ verdict-taken _ _ _ _ c.outline_of.ensures.1;
}

pub preview_reaction_spec : {M : Type 1} → statement M
preview_reaction_spec =
    tie.close
    (tie.spec
    (λ c κs. search rules) rule-at-requires (λ c κs. decodes-itself _ _ c.rule_at-rule.ensures) outline-verdict-requires (λ c. search rules)
    (λ c. reaction-rejected (asked c.before) c.in-Denied.is)
    (λ c. search rules)
    (λ c κs. reaction-counted (asked c.before) c.in_default.is)
    (λ c κs. reaction-begins (asked c.before.before) c.in_default.is)
    (λ c κs. reaction-picks (asked c.before.before.before) c.in_default.is)
    (λ c.
    reaction-accepted (asked c.before.before.before.before) c.in_default.is
    c.entries_after-entries.ensures c.next_after-next.ensures c.concerned-id.ensures))
