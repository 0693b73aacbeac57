-- `cuts_of` meets its contract (`Ends`).
use Rattle.intake.proofs.Ends.{cut_at}
use borrow.Author.Rules.{rules}
use Rattle.intake.proofs.parts.cuts_of.Statement.{statement}
use Rattle.intake.proofs.parts.cuts_of.Tie as tie

returns : tie.Need-returns
returns c =
    cut_at _
    (rw c.size_at.ensures.0 at c.least-state_at.ensures.0)
    (rw c.size_at-2.ensures.0 at c.least-log_at.ensures.0)
    (rw c.size_at-3.ensures.0 at c.least-end.ensures.0)

pub cuts_of_spec : {M : Type 1} → statement M
cuts_of_spec =
    tie.close
    (tie.spec
    (λ c κs. search rules)
    (λ c. search rules)
    (λ c. search rules)
    (λ c κs. search rules)
    (λ c κs. search rules)
    (λ c. search rules)
    (λ c. search rules)
    (λ c. search rules)
    (λ c κs. search rules)
    (λ c κs. search rules)
    (λ c. search rules)
    (λ c. search rules)
    (λ c. search rules)
    (λ c κs. search rules)
    returns)
