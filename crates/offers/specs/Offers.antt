-- What each entry offers to the rules, by the ids of owners.
use Rattle.std.specs.Prelude.{ℕ, ◌+◌, ◌*◌, ◌%◌, ◌<◌, Bool, not, cond, List, [], ◌≡◌, eqb, length, get_or}
use Rattle.lists.specs.Lists.{count_if}
use Rattle.lists.specs.Filled.{Filled}
use Rattle.lists.specs.Rows.{rows}
use Rattle.semantics.specs.Table.{class_of}
use Rattle.semantics.specs.State.{Entry}
use Rattle.semantics.specs.declared.Sizes.{Sizes}
use Rattle.enabled.specs.Keys.{takeable}
use Rattle.idset.specs.IdSet.{has}
use Rattle.state.specs.Working.{row_of}

-- the key of the entry e, where owners take part by this test
abbrev pub owner_key : Sizes → (ℕ → Bool) → Entry → ℕ
owner_key z part e = cond (takeable z part e) (cond (eqb (class_of z e.port) 1) (e.owner * 512 + e.port) e.port) 256

-- the key of the entry at a place in columns; origins do not matter
abbrev pub row_key : Sizes → (ℕ → Bool) → List ℕ → List ℕ → ℕ → ℕ
row_key z part os ws p = owner_key z part (row_of os ws [] p)

abbrev pub keys_of : Sizes → (ℕ → Bool) → List ℕ → List ℕ → ℕ → List ℕ
keys_of z part os ws n = rows (row_key z part os ws) 0 n

-- the keys of the first n entries in columns, where the owners in a set take no part
abbrev pub column_keys : Sizes → List ℕ → List ℕ → List ℕ → ℕ → List ℕ
column_keys z stopped os ws n = keys_of z (λ v. not (has stopped v)) os ws n

-- the first n of a column are the keys of entries, all below 2^25
pub record OwnerKeys (z : Sizes) (part : ℕ → Bool) (os ws : List ℕ) (n : ℕ) (keys : List ℕ) : Type 0 where
  pub filled : Filled 0 (row_key z part os ws) 1024 n keys
  pub small : (p : ℕ) → p < n → row_key z part os ws p < 65536 * 512

-- how many keys there are on each port, local ports in any group
pub record KeyTotals (ks totals : List ℕ) : Type 0 where
  pub size : length totals ≡ 512
  pub each : (p : ℕ) → p < 512 → get_or totals p 0 ≡ count_if (λ key. eqb (key % 512) p) ks
