-- What the code's keys are.
use Rattle.std.specs.Prelude.{ℕ, ◌/◌, ◌%◌, ◌≤◌, ◌<◌, Bool, true, false, not, ◌≡◌, List, length, get_or, take}
use Rattle.std.proofs.Common.{sym, ap, ◌∙◌, zero-add, arith, length-take-le, get_or-take}
use Rattle.lists.specs.Rows.{rows, length-rows, get_d_rows}
use Rattle.lists.specs.Ascending.{Ascending, ascending-same}
use Rattle.semantics.specs.State.{Entry}
use Rattle.semantics.specs.Move.{nothing, entry_at}
use Rattle.semantics.specs.declared.Sizes.{Sizes}
use Rattle.enabled.specs.Keys.{is_local, port_key, Keyed}
use Rattle.idset.specs.IdSet.{has}

-- the owners that are not in a set of ids
abbrev pub outside : List ℕ → ℕ → Bool
outside set v = not (has set v)

-- the key of the entry e, where owners take part by this test; its group is the place of its owner among the ids
pub record KeyAs (z : Sizes) (part : ℕ → Bool) (ids : List ℕ) (m : ℕ) (e : Entry) (key : ℕ) : Type 0 where
  pub plain : is_local z part e ≡ false → key ≡ port_key z part e
  pub local : is_local z part e ≡ true → (key % 512 ≡ e.port) × (key / 512 < m) × (get_or ids (key / 512) 0 ≡ e.owner)
  pub below : key < 524288

pub record KeyColumn (z : Sizes) (part : ℕ → Bool) (ids : List ℕ) (m : ℕ) (row : ℕ → Entry) (n : ℕ) (keys : List ℕ) : Type 0 where
  pub size : length keys ≡ 1024
  pub each : (p : ℕ) → p < n → KeyAs z part ids m (row p) (get_or keys p 0)

-- Such a column has keys as the list of open moves wants them: groups are the same where owners are, since no id stands twice.
keyed-row : {z : Sizes} {part : ℕ → Bool} {ids : List ℕ} {m : ℕ} {row : ℕ → Entry} {n : ℕ} {keys : List ℕ} → KeyColumn z part ids m row n keys → n ≤ 1024
    → (p : ℕ) → p < length (rows row 0 n) → KeyAs z part ids m (entry_at (rows row 0 n) p) (get_or (take n keys) p 0)
keyed-row {z} {part} {ids} {m} {row} {n} {keys} c few p h =
    let l : p < n = rw length-rows at h in
    let e : entry_at (rows row 0 n) p ≡ row p = get_d_rows nothing row 0 n p l ∙ ap row (zero-add p) in
    rw (e, get_or-take n keys p 0 l) (c.each p l)

pub keyed-column : {z : Sizes} {part : ℕ → Bool} {ids : List ℕ} {m : ℕ} {row : ℕ → Entry} {n : ℕ} {keys : List ℕ} → KeyColumn z part ids m row n keys → n ≤ 1024
    → Ascending ids m → Keyed z part (rows row 0 n) (take n keys)
keyed-column {z} {part} {ids} {m} {row} {n} {keys} c few asc = record {
  size = length-take-le n keys (omega (arith, c.size)) ∙ sym (length-rows row 0 n);
  plain = λ p h i. (keyed-row c few p h).plain i;
  local = λ p h i. ((keyed-row c few p h).local i).0;
  together = λ p q h k i j e.
      let (_, a, o) = (keyed-row c few p h).local i in
      let (_, b, u) = (keyed-row c few q k).local j in
      ascending-same asc (get_or (take n keys) p 0 / 512) (get_or (take n keys) q 0 / 512) a b (o ∙ e ∙ sym u);
  apart = λ p q h k i j e.
      let (_, a, o) = (keyed-row c few p h).local i in
      let (_, b, u) = (keyed-row c few q k).local j in
      sym o ∙ ap (λ (g : ℕ). get_or ids g 0) e ∙ u;
}
