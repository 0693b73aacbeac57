-- `store_serial` meets its contract (`SecondPass`).
use borrow.Author.Tests.{not-true, not-false}
use borrow.Author.Rules.{rules}
use Rattle.serial.proofs.SecondPass.{outgrown-as, written_as}
use Rattle.serial.proofs.store_serial.Statement.{statement}
use Rattle.serial.proofs.store_serial.Tie as tie

returns : tie.Need-returns-then-not-fits
returns c = outgrown-as _ _ _ (not-true _ c.if-not-fits.true-raw)

returns-2 : tie.Need-returns
returns-2 c = written_as _ _ _ (not-false _ c.if-not-fits.false-raw) c.copy_words.ensures

pub store_serial_spec : {M : Type 1} → statement M
store_serial_spec =
    tie.close
    (tie.spec returns (λ c. search rules) (λ c. search rules) (λ c κs. search rules) (λ c. search rules) (λ c. search rules) returns-2)
