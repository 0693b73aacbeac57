-- `of_bytes` meets its contract (`Laws`): there is room for all the words of the bytes.
use Prim.Native.Nat.{ℕ}
use native.Mathlib.Omega.{arith}
use borrow.Author.Rules.{rules}
use lib.ListN.{length-replicate}
use Rattle.report.proofs.Laws.{gathered-figures}
use Rattle.report.proofs.figures.of_bytes.Statement.{statement}
use Rattle.report.proofs.figures.of_bytes.Tie as tie

returns : tie.Need-returns
returns c =
    let few = c.requires in
    gathered-figures c.words-n.ensures (omega (arith, few, length-replicate {A = ℕ} 8200 0)) c.of_words.ensures

pub of_bytes_spec : {M : Type 1} → statement M
of_bytes_spec =
    tie.close
    (tie.spec (λ c. search rules) (λ c κs. search rules) (λ c. search rules) (λ c. search rules) (λ c κs. search rules) returns)
