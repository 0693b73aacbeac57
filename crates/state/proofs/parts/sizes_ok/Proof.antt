-- `sizes_ok` meets its contract: the code is the definition of `state_sizes_ok`, and a word is below 2^32.
use native.Mathlib.Omega.{arith}
use borrow.Author.Rules.{rules}
use borrow.Author.Tests.{lt-leb, le-leb}
use Rattle.lists.specs.Tests.{false-and, true-and}
use mathlib.Core.Path.{sym}
use Rattle.semantics.specs.State.{state_sizes_ok}
use Rattle.state.proofs.parts.sizes_ok.Statement.{statement}
use Rattle.state.proofs.parts.sizes_ok.Tie as tie

returns : tie.Need-returns-then-state-lt2
unfolding state_sizes_ok
returns c = sym (false-and _ (lt-leb 2 _ c.if-state-lt2.true))

returns-2 : tie.Need-returns
unfolding state_sizes_ok
returns-2 c = sym (true-and _ (le-leb 2 _ c.if-state-lt2.false))

pub sizes_ok_spec : {M : Type 1} → statement M
sizes_ok_spec =
    tie.close
    (tie.spec returns (λ c. search rules) (λ c. omega (arith, c.shared_slice_known-1.given 0)) (λ c. search rules)
    (λ c. omega (arith, c.shared_slice_known-1.given 0)) (λ c. omega (arith, c.shared_slice_known-1.given 0)) returns-2)
