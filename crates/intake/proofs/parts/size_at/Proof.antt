-- `size_at` meets its contract.
use mathlib.Core.Path.{refl, sym}
use native.Mathlib.Omega.{arith}
use lib.ListN.{get_or-eq_default}
use borrow.Author.Rules.{rules}
use Rattle.intake.proofs.parts.size_at.Statement.{statement}
use Rattle.intake.proofs.parts.size_at.Tie as tie

cast-result : tie.Need-overflow_cast-result
cast-result c = omega (arith, c.shared_slice_known-1.given c.args.at)

returns : tie.Need-returns-then-at-words
returns c = (refl, omega (arith, c.shared_slice_known-1.given c.args.at))

returns-2 : tie.Need-returns-else-at-words
returns-2 c = (sym (get_or-eq_default c.args.words.now 0 c.if-at-words.false), omega arith)

pub size_at_spec : {M : Type 1} → statement M
size_at_spec =
    tie.close (tie.spec (λ c. search rules) (λ c. search rules) cast-result returns returns-2)
