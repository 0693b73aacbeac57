use Prim.Native.Nat.{ℕ}
use lib.ListN.{length-replicate}
use native.Mathlib.Omega.{arith}
use borrow.Author.Rules.{rules}
use Rattle.state.specs.Parts.{loadable}
use Rattle.serial.proofs.SecondPass.{sortable, replay-asked, written-asked, reordered-as}
use Rattle.serial.proofs.reordered.Statement.{statement}
use Rattle.serial.proofs.reordered.Tie as tie

order-log-requires : tie.Need-order_log-requires
order-log-requires c κs = (sortable _ _ _ _ _ _ _ _ c.requires.0, length-replicate {A = ℕ} 1024 0)

load-requires : tie.Need-load-at-requires
load-requires c κs =
    let p = c.requires in
    (loadable _ _ p.0.begun.state, p.1)

replay-requires : tie.Need-replay-fits-requires
replay-requires c κs =
    let p = c.requires in
    replay-asked _ _ _ _ _ _ _ _ p.0 c.order_log.ensures c.load-at.ensures
    (omega (arith, p.2, p.0.begun.room))

store-serial-requires : tie.Need-store_serial-requires
store-serial-requires c κs =
    let p = c.requires in
    written-asked _ _ _ _ _ _ _ _ p.0 c.order_log.ensures c.load-at.ensures c.replay-fits.ensures
    c.count_of.ensures.0 (omega (arith, p.2, p.0.begun.room))

returns : tie.Need-returns
returns c =
    let p = c.requires in
    reordered-as _ _ _ _ _ _ _ _ p.0 c.order_log.ensures c.load-at.ensures c.replay-fits.ensures
    c.count_of.ensures.0 c.store_serial.ensures

pub reordered_spec : {M : Type 1} → statement M
reordered_spec =
    tie.close
    (tie.spec order-log-requires load-requires replay-requires (λ c κs. search rules) store-serial-requires (λ c. search rules) (λ c. search rules)
    returns)
