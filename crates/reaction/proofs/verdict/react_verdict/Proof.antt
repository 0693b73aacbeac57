use borrow.Author.Rules.{rules}
use mathlib.Core.Path.{◌∙◌}
use Rattle.reaction.specs.Decoded.{rule_in}
use Rattle.reaction.specs.Verdict.{verdict-taken}
use Rattle.reaction.proofs.verdict.react_verdict.Statement.{statement}
use Rattle.reaction.proofs.verdict.react_verdict.Tie as tie

outline-verdict-requires : tie.Need-outline_verdict-requires
outline-verdict-requires c κs = (c.requires.0, (rule_in c.args.rule, c.outline_of.ensures.0), c.requires.2)

returns : tie.Need-returns
returns c = λ gs.
    c.outline_verdict.ensures (rule_in c.args.rule) c.outline_of.ensures.0 gs
    ∙ verdict-taken _ _ _ _ c.outline_of.ensures.1

pub react_verdict_spec : {M : Type 1} → statement M
react_verdict_spec = tie.close (tie.spec (λ c κs. search rules) outline-verdict-requires returns)
