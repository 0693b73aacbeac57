use Prim.Native.Nat.{ℕ}
use native.Mathlib.Omega.{arith}
use lib.ListN.{length-replicate}
use borrow.Author.Rules.{rules}
use Rattle.serial.proofs.SecondPass.{keys-fit, sorted-as}
use Rattle.serial.proofs.order_log.Statement.{statement}
use Rattle.serial.proofs.order_log.Tie as tie

keys-of-requires : tie.Need-keys_of-requires
keys-of-requires c κs =
    let p = c.requires.0 in
    (p.log, omega (arith, c.count_of-k.ensures.0), p.members-size, p.ends-size, length-replicate {A = ℕ} 1024 0)

order-of-requires : tie.Need-order_of-requires
order-of-requires c κs =
    let p = c.requires in
    (keys-fit p.0 c.count_of-k.ensures.0 c.keys_of.ensures, length-replicate {A = ℕ} 1024 0, p.1)

returns : tie.Need-returns
returns c =
    let p = c.requires in
    sorted-as p.0 c.count_of-k.ensures.0 c.keys_of.ensures c.order_of.ensures

pub order_log_spec : {M : Type 1} → statement M
order_log_spec = tie.close (tie.spec (λ c κs. search rules) keys-of-requires order-of-requires returns)
