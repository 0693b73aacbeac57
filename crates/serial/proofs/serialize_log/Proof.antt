use Prim.Native.Nat.{ℕ}
use native.Mathlib.Omega.{arith}
use lib.ListN.{length-replicate}
use borrow.Author.Rules.{rules}
use Rattle.move_log.specs.Form.{log-sized}
use Rattle.serial.proofs.serialize_log.Statement.{statement}
use Rattle.serial.proofs.serialize_log.Tie as tie

serialized-requires : tie.Need-serialized-requires
serialized-requires c κs =
    let n = c.count_of.ensures.0 in
    let short = c.if-count_of-le128.true in (
      c.requires,
      record {
        notes = omega (arith, n, short, length-replicate {A = ℕ} 512 0);
        words = omega (arith, n, short, length-replicate {A = ℕ} 641 0);
      },
    )

serialized-requires-2 : tie.Need-serialized-requires-2
serialized-requires-2 c κs =
    let n = c.count_of.ensures.0 in
    let p = c.requires in
    let few = (log-sized _ p.sizes).few in (
      p,
      record {
        notes = omega (arith, n, few, length-replicate {A = ℕ} 4096 0);
        words = omega (arith, n, few, length-replicate {A = ℕ} 5121 0);
      },
    )

pub serialize_log_spec : {M : Type 1} → statement M
serialize_log_spec =
    tie.close
    (tie.spec (λ c κs. search rules) (λ c. search rules) (λ c. search rules) serialized-requires (λ c. search rules) (λ c. search rules)
    (λ c. search rules) (λ c. search rules) serialized-requires-2 (λ c. search rules) (λ c. search rules))
