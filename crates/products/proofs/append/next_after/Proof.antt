-- `next_after` meets its contract: the code's `next + 1` is `suc next`.
use borrow.Author.Rules.{rules}
use native.Mathlib.Numerals.{add-one}
use Rattle.products.proofs.append.next_after.Statement.{statement}
use Rattle.products.proofs.append.next_after.Tie as tie

returns : tie.Need-returns-then-begins
returns c = rw (c.if-begins.true, add-one)

pub next_after_spec : {M : Type 1} → statement M
next_after_spec = tie.close (tie.spec (λ c. search rules) returns (λ c. search rules))
