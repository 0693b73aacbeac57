-- `put` writes five words.
use native.Mathlib.Omega.{arith}
use lib.ListN.{length-set}
use Rattle.choices.proofs.Words.{put_five}
use borrow.Author.Rules.{rules}
use Rattle.choices.proofs.page.put.Statement.{statement}
use Rattle.choices.proofs.page.put.Tie as tie

returns : tie.Need-returns
returns c = put_five c.args.target.now c.args.at c.args.head c.args.picks (search rules)

pub put_spec : {M : Type 1} → statement M
put_spec =
    tie.close
    (tie.spec
    (λ c. search rules)
    (λ c. search rules)
    (λ c. search rules)
    (λ c. search rules)
    (λ c. search rules)
    (λ c. simp length-set (omega arith))
    (λ c. search rules)
    (λ c. search rules)
    (λ c. search rules)
    (λ c. simp length-set (omega arith))
    (λ c. search rules)
    (λ c. search rules)
    (λ c. search rules)
    (λ c. simp length-set (omega arith))
    (λ c. search rules)
    (λ c. search rules)
    (λ c. search rules)
    (λ c. simp length-set (omega arith))
    (λ c. search rules)
    returns)
