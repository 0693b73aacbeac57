use mathlib.Core.Path.{sym}
use native.Mathlib.Omega.{arith}
use borrow.Author.Rules.{rules}
use lib.ListN.{get_or-eq_default}
use Rattle.recording.proofs.record.half_at.Statement.{statement}
use Rattle.recording.proofs.record.half_at.Tie as tie

pub half_at_spec : {M : Type 1} → statement M
half_at_spec =
    tie.close
    (tie.spec (λ c. search rules) (λ c. search rules) (λ c. search rules)
    (λ c. sym (get_or-eq_default c.args.column.now 0 (omega (arith, c.requires, c.if-place-lt1024.false)))))
