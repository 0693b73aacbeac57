-- `of_words` meets its contract (`Laws`).
use borrow.Author.Rules.{rules}
use Rattle.report.proofs.Laws.{refused-figures, prepared, accepted-figures}
use Rattle.report.proofs.figures.of_words.Statement.{statement}
use Rattle.report.proofs.figures.of_words.Tie as tie

returns : tie.Need-returns-in-Denied
returns c =
    let refused = c.of_refused.ensures in
    refused-figures c.split-parts.ensures c.in-Denied.is _ refused.0 refused.1

of-parts-requires : tie.Need-of_parts-requires
of-parts-requires c κs =
    prepared c.split-parts.ensures c.in_default.is

returns-2 : tie.Need-returns
returns-2 c =
    let made = c.of_parts.ensures in
    accepted-figures c.split-parts.ensures c.in_default.is _ made.0 made.1 made.2

pub of_words_spec : {M : Type 1} → statement M
of_words_spec =
    tie.close
    (tie.spec
    (λ c κs. search rules)
    (λ c. search rules)
    (λ c κs. search rules)
    returns
    (λ c. search rules)
    (λ c. search rules)
    (λ c. search rules)
    (λ c. search rules)
    (λ c. search rules)
    (λ c. search rules)
    (λ c. search rules)
    (λ c. search rules)
    (λ c. search rules)
    (λ c. search rules)
    of-parts-requires
    returns-2)
