-- `keys_by_marks` meets its contract: where no mark stands, every owner is outside the set.
use borrow.Author.Rules.{rules}
use mathlib.Core.List.{[]}
use Rattle.offers.proofs.Parts.{all-outside}
use Rattle.offers.proofs.KeyRows.{row-keys, keys-small}
use Rattle.offers.proofs.keys_by_marks.Statement.{statement}
use Rattle.offers.proofs.keys_by_marks.Tie as tie

returns : tie.Need-returns-then-none_stopped
returns c =
    let a = c.args in
    let e = all-outside a.owners.now a.items.now [] a.at.len (c.requires.1 []) (c.none_stopped.ensures c.if-none_stopped.true) in
    let h = rw e at c.keys_free.ensures in
    (row-keys h c.requires.0.0.fits, (h.filled.size, keys-small h))

returns-2 : tie.Need-returns
returns-2 c =
    let h = c.keys_outside.ensures in
    (row-keys h c.requires.0.0.fits, (h.filled.size, keys-small h))

pub keys_by_marks_spec : {M : Type 1} → statement M
keys_by_marks_spec =
    tie.close
    (tie.spec
    (λ c κs. search rules) (λ c κs. search rules) returns (λ c κs. search rules) returns-2)
