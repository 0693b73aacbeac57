use borrow.Author.Rules.{rules}
use mathlib.Core.Path.{refl, sym}
use Rattle.reaction.specs.Decoded.{count-atoms}
use Rattle.reaction.proofs.verdict.outline_of.Statement.{statement}
use Rattle.reaction.proofs.verdict.outline_of.Tie as tie

returns : tie.Need-returns
returns c =
    let d = c.requires in (
      record {
        ports = c.consume_ports.ensures.0;
        count = sym (count-atoms c.args.rule d);
        few = d.few;
        class = refl;
        begins = d.begins;
        legal = d.legal;
      },
      refl,
    )

pub outline_of_spec : {M : Type 1} → statement M
outline_of_spec = tie.close (tie.spec (λ c κs. search rules) returns)
