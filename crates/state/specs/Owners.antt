-- Whether a state has an open transaction, by its owners alone: in lent columns, and in words.
use Rattle.std.specs.Prelude.{ℕ, ◌≤◌, Bool, true, not, List, map, ◌≡◌, eqb, length, take}
use Rattle.std.proofs.Common.{sym, ap, ◌∙◌, arith, take_all}
use Rattle.lists.specs.Lists.{any}
use Rattle.lists.specs.Parts.{any-map}
use Rattle.lists.specs.Rows.{rows_take, map_rows}
use Rattle.semantics.specs.State as semantics
use Rattle.semantics.specs.State.{Entry, entry_count, owners_of, items_of, state_sizes_ok, state_of}
use Rattle.wellformed.specs.States.{state-sized}
use Rattle.semantics.specs.Serial.{any_open}
use Rattle.wellformed.specs.RoundTrip.{owners-entries_of}
use Rattle.state.specs.declared.Extent.{Extent}
use Rattle.state.specs.Working.{row_of, state_in, held}

-- one of the owners is a transaction
abbrev pub some_owned : List ℕ → Bool
some_owned os = any (λ o. not (eqb o 0)) os

by-owners : (s : semantics.State) (os : List ℕ) → map (λ e. e.owner) s.entries ≡ os → some_owned os ≡ any_open s
by-owners s os e = ap some_owned (sym e) ∙ any-map (λ e. e.owner) (λ o. not (eqb o 0)) s.entries

pub open-held : (os ws gs : List ℕ) (at : Extent) → at.len ≤ length os → some_owned (take at.len os) ≡ any_open (state_in (held os ws gs at))
unfolding state_in
open-held os ws gs at h =
    by-owners (state_in (held os ws gs at)) (take at.len os)
    (map_rows (λ (e : Entry). e.owner) (row_of os ws gs) 0 at.len ∙ rows_take 0 os at.len h)

pub open-words : (s : List ℕ) → state_sizes_ok s ≡ true → {n : ℕ} → n ≡ entry_count s → some_owned (take n (owners_of s)) ≡ any_open (state_of s)
unfolding state_of
open-words s ok {n} e =
    let z = state-sized s ok in
    ap some_owned (take_all n (owners_of s) (omega (arith, z.owners)))
    ∙ by-owners (state_of s) (owners_of s) (owners-entries_of 0 (owners_of s) (items_of s) (z.owners ∙ sym z.items))
