-- `kept` meets its contract.
use native.Mathlib.Omega.{arith}
use borrow.Author.Rules.{rules}
use Rattle.step.proofs.make.kept.Statement.{statement}
use Rattle.step.proofs.make.kept.Tie as tie

pub kept_spec : {M : Type 1} → statement M
kept_spec = tie.close (tie.spec (λ c κs. search rules) (λ c. omega (arith, c.less_by.ensures)) (λ c. rw c.less_by.ensures))
