-- `split` meets its contract (`Verdicts`).
use Rattle.intake.proofs.Verdicts.{split-as}
use borrow.Author.Rules.{rules}
use Rattle.intake.proofs.parts.split.Statement.{statement}
use Rattle.intake.proofs.parts.split.Tie as tie

returns : tie.Need-returns
returns c =
    split-as _ _ _ c.cuts_of-cuts.ensures c.ready-first.ensures c.verdict_of-verdict.ensures

pub split_spec : {M : Type 1} → statement M
split_spec =
    tie.close
    (tie.spec
    (λ c κs. search rules)
    (λ c. search rules)
    (λ c. search rules)
    (λ c. search rules)
    (λ c. search rules)
    (λ c. search rules)
    (λ c κs. search rules)
    (λ c. search rules)
    (λ c. search rules)
    (λ c. search rules)
    (λ c. search rules)
    (λ c. search rules)
    (λ c κs. search rules)
    returns)
