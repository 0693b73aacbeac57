use borrow.Author.Rules.{rules}
use Rattle.wants.proofs.lacks.Statement.{statement}
use Rattle.wants.proofs.lacks.Tie as tie

returns : tie.Need-returns-then-short
returns c = rw (← c.short.ensures, c.if-short.true)

returns-2 : tie.Need-returns
returns-2 c =
    rw (c.short-2.ensures, c.short-3.ensures, c.short-4.ensures, ← c.short.ensures, c.if-short.false)

pub lacks_spec : {M : Type 1} → statement M
lacks_spec =
    tie.close
    (tie.spec
    (λ c. search rules)
    (λ c. search rules)
    (λ c κs. search rules)
    returns
    (λ c κs. search rules)
    (λ c κs. search rules)
    (λ c κs. search rules)
    returns-2)
