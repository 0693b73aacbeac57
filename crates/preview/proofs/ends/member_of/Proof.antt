use borrow.Author.Rules.{rules}
use mathlib.Core.Path.{sym, ap}
use native.Mathlib.Omega.{arith}
use Rattle.lists.specs.Lists.{one_if}
use Rattle.preview.proofs.ends.member_of.Statement.{statement}
use Rattle.preview.proofs.ends.member_of.Tie as tie

pub member_of_spec : {M : Type 1} → statement M
member_of_spec =
    tie.close
    (tie.spec
    (λ c κs. search rules)
    (λ c. (sym (ap one_if (rw c.kind_of.ensures at c.if-owner-id.true)), omega arith))
    (λ c. (sym (ap one_if (rw c.kind_of.ensures at c.if-owner-id.false)), omega arith)))
