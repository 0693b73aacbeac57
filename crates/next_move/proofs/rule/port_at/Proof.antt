-- `port_at` reads a word's port where the place is one of the first.
use native.Mathlib.Omega.{arith}
use borrow.Author.Rules.{rules}
use borrow.Author.Tests.{lt-ltb, le-ltb}
use Rattle.next_move.proofs.rule.port_at.Statement.{statement}
use Rattle.next_move.proofs.rule.port_at.Tie as tie

returns : tie.Need-returns-then-j-k
returns c =
    let a = c.args in
    (rw (lt-ltb a.j a.k c.if-j-k.true) c.port_of.ensures, omega (arith, c.port_of.ensures))

returns-2 : tie.Need-returns-else-j-k
returns-2 c =
    let a = c.args in
    (rw (le-ltb a.j a.k c.if-j-k.false), omega arith)

pub port_at_spec : {M : Type 1} → statement M
port_at_spec =
    tie.close
    (tie.spec
    (λ c. search rules)
    (λ c. omega (arith, c.if-j-k.true, c.requires))
    (λ c κs. search rules)
    returns
    returns-2)
