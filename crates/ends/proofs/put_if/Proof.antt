-- `put_if` meets its contract: it writes where the end is due and there is room.
use Prim.Native.Nat.{◌≤◌}
use borrow.Author.Rules.{rules}
use borrow.Author.Tests.{not-true, not-false}
use native.Mathlib.Omega.{arith}
use Rattle.lists.specs.Pages.{paged-none, paged-one, paged-empty}
use Rattle.ends.specs.Listed.{end_words}
use Rattle.ends.proofs.put_if.Statement.{statement}
use Rattle.ends.proofs.put_if.Tie as tie

returns : tie.Need-returns-then-not-due
returns c = rw (not-true c.args.due c.if-not-due.true-raw) (paged-none _ 5 _ _ _ _)

returns-2 : tie.Need-returns-then-left-eq0
returns-2 c = rw c.if-left-eq0.true (paged-empty _ 5 _ _ _ _)

returns-3 : tie.Need-returns
returns-3 c =
    let a = c.args in
    let some : 1 ≤ a.left = omega (arith, c.if-left-eq0.false) in
    let due = not-false a.due c.if-not-due.false-raw in
    rw (due, c.put.ensures, c.head_of.ensures)
    (paged-one (end_words a.kind) 5 a.v a.left a.at a.target.now some)

pub put_if_spec : {M : Type 1} → statement M
put_if_spec =
    tie.close (tie.spec returns returns-2 (λ c κs. search rules) (λ c κs. search rules) (λ c. search rules) returns-3)
