-- `load` meets its contract: its columns are those of the words.
use Prim.Native.Nat.{◌≤◌}
use native.Mathlib.Omega.{arith}
use borrow.Author.Rules.{rules}
use lib.ListN.{length}
use Rattle.state.proofs.Working.{copied-column, loaded}
use Rattle.state.proofs.load.Statement.{statement}
use Rattle.state.proofs.load.Tie as tie

-- the entries counted are at most 1,024, and each column of the words has as many
within : (c : tie.After-entry_count-len) → c.entry_count-len.result ≤ 1024
within c = omega (arith, c.entry_count-len.ensures.0, c.entry_count-len.ensures.1.count)

owners-whole : (c : tie.After-owners_of) → c.entry_count-len.result ≤ length c.owners_of.result.now
owners-whole c = omega (arith, c.entry_count-len.ensures.0, c.owners_of.ensures.size)

narrow-words-requires : tie.Need-narrow_words-requires
narrow-words-requires c κs =
    let p = c.requires in
    ((owners-whole c.before, omega (arith, within c.before.before, p.1.owners)), λ k _. rw c.owners_of.ensures.value (p.0.narrow k))

items-whole : (c : tie.After-items_of) → c.entry_count-len.result ≤ length c.items_of.result.now
items-whole c = omega (arith, c.entry_count-len.ensures.0, c.items_of.ensures.size)

copy-words-requires : tie.Need-copy_words-requires
copy-words-requires c κs =
    (items-whole c.before, omega (arith, within c.before.before.before.before.before, c.requires.1.items))

returns : tie.Need-returns
returns c =
    let sizes = c.requires.1 in
    let (n, q) = c.entry_count-len.ensures in
    loaded q n
    (rw c.owners_of.ensures.value at (copied-column _ _ _ _ (owners-whole c.before.before.before.before.before.before.before.before) sizes.owners
    (within c.before.before.before.before.before.before.before.before.before)
    c.narrow_words.ensures))
    (rw c.items_of.ensures.value at (copied-column _ _ _ _ (items-whole c.before.before.before.before.before) sizes.items
    (within c.before.before.before.before.before.before.before.before.before)
    c.copy_words.ensures))
    c.number_column.ensures

pub load_spec : {M : Type 1} → statement M
load_spec =
    tie.close
    (tie.spec (λ c κs. search rules) (λ c κs. search rules) narrow-words-requires (λ c κs. search rules) copy-words-requires
    (λ c κs. search rules) (λ c. search rules) returns)
