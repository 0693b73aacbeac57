-- An entry that stays when a transaction ends.
use Prim.Native.Nat.{ℕ, ◌≤◌}
use mathlib.Core.Path.{◌≡◌, refl, ap}
use mathlib.Core.Bool.{Bool, true, false, ◌&&◌, ◌||◌, not, cond, false≢true}
use native.Mathlib.Omega.{arith}
use lib.Dec.{eqb}
use borrow.Author.Tests.{not-true, eq-eqb, ne_eqb}
use Rattle.lists.specs.Lists.{one_if}
use Rattle.lists.specs.Tests.{true-or}
use Rattle.semantics.specs.Words.{item_kind, port_of, value_of}
use Rattle.semantics.specs.State.{Entry, owned}
use Rattle.semantics.specs.Move.{to_global, freed}
use Rattle.words.specs.Item.{as_message}
use Rattle.state.specs.Working.{entry_from}

-- an item without its kind is a message on the same port with the same value
freed-item : (o x g : ℕ) → entry_from 0 (as_message x) g ≡ to_global (entry_from o x g)
freed-item o x g =
    let k : item_kind (as_message x) ≡ 0 = omega arith in
    let p : port_of (as_message x) ≡ port_of x = omega arith in
    let v : value_of (as_message x) ≡ value_of x = omega arith in
    rw (k, p, v)

pub freed-entry : (id kind o x g : ℕ) → not (eqb o id) || eqb (item_kind x) kind ≡ true
    → entry_from (cond (eqb o id) 0 o) (cond (eqb o id) (as_message x) x) g ≡ freed (λ e. eqb e.kind kind) id (entry_from o x g)
freed-entry id kind o x g = go (eqb o id) (eqb (item_kind x) kind)
  where
    go : (a b : Bool) → not a || b ≡ true
        → entry_from (cond a 0 o) (cond a (as_message x) x) g ≡ cond (a && b) (to_global (entry_from o x g)) (entry_from o x g)
    go true true h = freed-item o x g
    go true false h = absurd (false≢true h)
    go false b h = refl

-- what is counted by the kind that an entry has in the transaction, or else of the kind that stays: the entries that stay, and the member marks
pub counts-staying : (id kind o x : ℕ) → one_if (eqb (cond (eqb o id) (item_kind x) kind) kind) ≡ one_if (not (eqb o id) || eqb (item_kind x) kind)
counts-staying id kind o x = go (eqb o id)
  where
    go : (a : Bool) → one_if (eqb (cond a (item_kind x) kind) kind) ≡ one_if (not a || eqb (item_kind x) kind)
    go true = refl
    go false = ap one_if (eq-eqb kind kind refl)

pub counts-marks : (id kind o x : ℕ) → kind ≤ 1 → one_if (eqb (cond (eqb o id) (item_kind x) kind) 3) ≡ one_if (eqb o id && eqb (item_kind x) 3)
counts-marks id kind o x l = go (eqb o id)
  where
    go : (a : Bool) → one_if (eqb (cond a (item_kind x) kind) 3) ≡ one_if (a && eqb (item_kind x) 3)
    go true = refl
    go false = ap one_if (ne_eqb kind 3 (λ e. omega arith))

-- what it does not own stays as it is
pub stays-as-is : (id kind : ℕ) (e : Entry) → not (owned id e) ≡ true
    → (not (owned id e) || eqb e.kind kind ≡ true) × (e ≡ freed (λ e. eqb e.kind kind) id e)
stays-as-is id kind e h = (true-or (eqb e.kind kind) h, rw (not-true (owned id e) h))
