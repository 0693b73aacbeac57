-- The keys of a state in columns are keys as its rules want them, and their totals by port are its supply.
use Rattle.std.specs.Prelude.{ℕ, ◌+◌, ◌*◌, ◌/◌, ◌%◌, ◌<◌, Bool, true, false, ◌&&◌, not, cond, List, ◌≡◌, refl, eqb, length, get_or}
use Rattle.std.proofs.Common.{sym, ap, ◌∙◌, zero-add, arith, ne_eqb}
use Rattle.lists.specs.Lists.{count_if}
use Rattle.lists.specs.Choices.{cond-true, and_left, and_right}
use Rattle.lists.specs.Counting.{count_map}
use Rattle.lists.specs.Each.{count_same}
use Rattle.lists.specs.Rows.{rows, length-rows, get_d_rows, rows-each, map_rows}
use Rattle.semantics.specs.Table.{class_of}
use Rattle.semantics.specs.State.{Entry}
use Rattle.semantics.specs.Move.{nothing, entry_at, takes_part}
use Rattle.semantics.specs.declared.Sizes.{Sizes}
use Rattle.enabled.specs.Keys.{takeable, is_local, port_key, Keyed, takeable_on}
use Rattle.enabled.specs.Supply.{Supply}
use Rattle.idset.specs.IdSet.{has}
use Rattle.state.specs.declared.Extent.{Extent}
use Rattle.state.specs.Working.{row_of}
use Rattle.state.specs.Lent.{state_from}
use Rattle.stopped.specs.Stopped.{StoppedIn, outside-stopped}
use Rattle.offers.specs.Offers.{owner_key, row_key, keys_of, column_keys, KeyTotals}

-- on a local port the group is the owner, elsewhere there is none
local-is : (z : Sizes) (part : ℕ → Bool) (e : Entry) → is_local z part e ≡ true → owner_key z part e ≡ e.owner * 512 + e.port
local-is z part e h =
    let class = eqb (class_of z e.port) 1 in
    cond-true _ _ (and_left (takeable z part e) class h) ∙ cond-true _ _ (and_right (takeable z part e) class h)

plain-is : (z : Sizes) (part : ℕ → Bool) (e : Entry) → is_local z part e ≡ false → owner_key z part e ≡ port_key z part e
plain-is z part e h = go (takeable z part e) (eqb (class_of z e.port) 1) h
  where
    go : (a b : Bool) → a && b ≡ false → cond a (cond b (e.owner * 512 + e.port) e.port) 256 ≡ cond a e.port 256
    go true b f = rw f
    go false b f = refl

-- the port of a key
on-port : (z : Sizes) (part : ℕ → Bool) (t : ℕ) (e : Entry) → t < 256 → e.port < 256 → eqb (owner_key z part e % 512) t ≡ takeable_on z part t e
on-port z part t e l b = go (takeable z part e) (eqb (class_of z e.port) 1)
  where
    go : (a c : Bool) → eqb (cond a (cond c (e.owner * 512 + e.port) e.port) 256 % 512) t ≡ a && eqb e.port t
    go true true = let q : (e.owner * 512 + e.port) % 512 ≡ e.port = omega arith in rw q
    go true false = let q : e.port % 512 ≡ e.port = omega arith in rw q
    go false c = ne_eqb 256 t (λ q. omega arith)

module _ (z : Sizes) (part : ℕ → Bool) (os ws gs : List ℕ) (n : ℕ) where
  abbrev es : List Entry
  es = rows (row_of os ws gs) 0 n

  abbrev ks : List ℕ
  ks = keys_of z part os ws n

  here : (p : ℕ) → p < length es → (entry_at es p ≡ row_of os ws gs p) × (get_or ks p 0 ≡ owner_key z part (row_of os ws gs p))
  here p l =
      let b : p < n = rw length-rows at l in (
        get_d_rows nothing (row_of os ws gs) 0 n p b ∙ ap (row_of os ws gs) (zero-add p),
        get_d_rows 0 (row_key z part os ws) 0 n p b ∙ ap (row_key z part os ws) (zero-add p),
      )

  -- the key of a local message, by its place
  local_at : (p : ℕ) → p < length es → is_local z part (entry_at es p) ≡ true
      → (get_or ks p 0 % 512 ≡ (entry_at es p).port) × (get_or ks p 0 / 512 ≡ (entry_at es p).owner)
  local_at p l i =
      let (e, k) = here p l in
      let i' : is_local z part (row_of os ws gs p) ≡ true = rw e at i in
      let f : get_or ks p 0 ≡ (row_of os ws gs p).owner * 512 + (row_of os ws gs p).port = k ∙ local-is z part (row_of os ws gs p) i' in
      rw e (omega arith, omega arith)

  pub keyed-rows : Keyed z part es ks
  keyed-rows = record {
    size = length-rows (row_key z part os ws) 0 n ∙ sym (length-rows (row_of os ws gs) 0 n);
    plain = λ p l i. let (e, k) = here p l in rw e (k ∙ plain-is z part (row_of os ws gs p) (rw e at i));
    local = λ p l i. (local_at p l i).0;
    together = λ p q l k i j e. (local_at p l i).1 ∙ e ∙ sym (local_at q k j).1;
    apart = λ p q l k i j e. sym (local_at p l i).1 ∙ e ∙ (local_at q k j).1;
  }

  -- as many keys on a port as messages that rules may consume from it
  on-ports : (t : ℕ) → t < 256 → count_if (λ key. eqb (key % 512) t) ks ≡ count_if (takeable_on z part t) es
  on-ports t l =
      ap (count_if (λ key. eqb (key % 512) t)) (sym (map_rows (owner_key z part) (row_of os ws gs) 0 n))
      ∙ count_map (owner_key z part) (λ key. eqb (key % 512) t) es
      ∙ count_same (λ e. eqb (owner_key z part e % 512) t) (takeable_on z part t) es
      (rows-each (λ e. eqb (owner_key z part e % 512) t ≡ takeable_on z part t e) (row_of os ws gs) 0 n
      (λ k a b. on-port z part t (row_of os ws gs k) l (omega arith)))

-- ---- for callers

module _ (z : Sizes) (os ws gs : List ℕ) (at : Extent) {stopped : List ℕ} (are : StoppedIn (state_from os ws gs at).entries stopped) where
  pub columns-keyed : Keyed z (takes_part (state_from os ws gs at)) (state_from os ws gs at).entries (column_keys z stopped os ws at.len)
  columns-keyed = rw (← outside-stopped (state_from os ws gs at) are) (keyed-rows z (λ v. not (has stopped v)) os ws gs at.len)

  same_count : (p : ℕ) → p < 256 → count_if (λ key. eqb (key % 512) p) (column_keys z stopped os ws at.len)
      ≡ count_if (takeable_on z (takes_part (state_from os ws gs at)) p) (state_from os ws gs at).entries
  same_count p l = rw (← outside-stopped (state_from os ws gs at) are) (on-ports z (λ v. not (has stopped v)) os ws gs at.len p l)

  pub supply-keys : {totals : List ℕ} → Supply z (state_from os ws gs at) totals → (p : ℕ) → p < 256
      → get_or totals p 0 ≡ count_if (λ key. eqb (key % 512) p) (column_keys z stopped os ws at.len)
  supply-keys h p l = h.each p l ∙ sym (same_count p l)

  pub keys-supply : {totals : List ℕ} → KeyTotals (column_keys z stopped os ws at.len) totals → Supply z (state_from os ws gs at) totals
  keys-supply h = record { size = h.size; each = λ p l. h.each p (omega arith) ∙ same_count p l }
