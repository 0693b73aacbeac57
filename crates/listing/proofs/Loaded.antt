-- An accepted state in columns: what the passes over them ask, and what they come to.
use Prim.Native.Nat.{ℕ, ◌-◌, ◌≤◌, ◌<◌}
use mathlib.Core.Bool.{true, false}
use mathlib.Core.List.{List, ◌++◌}
use mathlib.Core.Path.{◌≡◌, sym, ap, ◌∙◌}
use native.Mathlib.Nat.{zero-add}
use native.Mathlib.Omega.{arith}
use lib.ListN.{length, get_or, take}
use Rattle.lists.specs.Lists.{up_from, count_if}
use Rattle.lists.specs.Members.{Among, get_or-among}
use Rattle.lists.specs.Rows.{rows, length-rows, get_d_rows}
use Rattle.lists.specs.Ascending.{PlaceIn}
use Rattle.semantics.specs.Table.{sizes_of}
use Rattle.semantics.specs.State.{Entry, State, state_of}
use Rattle.semantics.specs.Move.{Move, nothing}
use Rattle.semantics.specs.Answers.{state_verdict, enabled_in}
use Rattle.semantics.specs.Enabled.{move_words}
use Rattle.semantics.specs.declared.Verdict.TheVariants.{Allowed}
use Rattle.wellformed.specs.States.{StateSized, state-sized, state-given}
use Rattle.enabled.specs.Keys.{is_local}
use Rattle.idset.specs.IdSet.{has}
use Rattle.state.specs.declared.Extent.{Extent}
use Rattle.state.specs.Working.{held, row_of, state_in}
use Rattle.state.specs.Arrays.{HoldsIn, held_next, held-len}
use Rattle.state.specs.Lent.{Columns}
use Rattle.transactions.specs.Sets.{TransactionSets}
use Rattle.transactions.specs.Ids.{IdsBelow, ids-ascend, present-few}
use Rattle.choices.specs.declared.Part.{Part}
use Rattle.choices.specs.Parts.{PartAs, part_same}
use Rattle.groups.specs.Groups.{KeysBelow}
use Rattle.eligible.specs.KeyColumn.{outside, KeyColumn, keyed-column}
use Rattle.rule_moves.specs.Takes.{reactions_by}
use Rattle.listing.specs.Listing.{ends_by}
use Rattle.listing.proofs.Open.{enabled-parts, local-place, global-outside, outside-part}

module _ (t s os ws gs : List ℕ) (at : Extent) (ok : state_verdict t s ≡ Allowed) (loaded : HoldsIn (held os ws gs at) (state_of s)) where
  abbrev S : State
  S = state_of s

  abbrev row : ℕ → Entry
  row = row_of os ws gs

  pub columns : Columns os ws at.len
  columns = record { owners = loaded.arrays.owners; items = loaded.arrays.items; fits = loaded.holds.fits }

  entries : rows row 0 at.len ≡ S.entries
  unfolding state_in
  entries = ap (λ (x : State). x.entries) loaded.holds.value

  next : at.next ≡ S.next
  next = held_next loaded.holds

  long : length S.entries ≡ at.len
  long = sym (held-len loaded.holds)

  sized : StateSized s
  sized = state-sized s (state-given s t ok).1

  pub next-within : (1 ≤ at.next) × (at.next ≤ 65536)
  unfolding state_of
  next-within = (omega (arith, next, sized.first), omega (arith, next, sized.last))

  module _ (globals : ℕ) (is : globals ≡ (sizes_of t).globals) {present blocked aborting : List ℕ}
      (sets : (gs : List ℕ) → TransactionSets globals (rows (row_of os ws gs) 0 at.len) present blocked aborting) where
    of-state : TransactionSets (sizes_of t).globals S.entries present blocked aborting
    of-state = rw (← is, ← entries) (sets gs)

    pub ids-few : count_if (has present) (up_from 1 (at.next - 1)) ≤ 1024
    ids-few = omega (arith, present-few of-state 1 (at.next - 1), long, loaded.holds.fits)

    pub none-global : has aborting 0 ≡ false
    none-global = global-outside t s ok of-state

    module _ {ids : List ℕ} {m : ℕ} (listed : IdsBelow at.next (has present) ids m) where
      ids-of-state : IdsBelow S.next (has present) ids m
      ids-of-state = rw (← next) listed

      pub places : (hs : List ℕ) (p : ℕ) → p < at.len → is_local (sizes_of t) (outside aborting) (row_of os ws hs p) ≡ true → PlaceIn ids (get_or os p 0) 0 m
      places hs p l i =
          let low : p < length (rows row 0 at.len) = rw length-rows l in
          let e : get_or (rows row 0 at.len) p nothing ≡ row p = get_d_rows nothing row 0 at.len p l ∙ ap row (zero-add p) in
          let a : Among (row p) S.entries = rw (← entries, ← e) (get_or-among nothing (rows row 0 at.len) p low) in
          local-place t s ok of-state ids-of-state (outside aborting) (row p) a i

      module _ {keys : List ℕ} (keyed : (hs : List ℕ) → KeyColumn (sizes_of t) (outside aborting) ids m (row_of os ws hs) at.len keys) where
        pub keys-within : KeysBelow at.len keys
        keys-within = record { few = loaded.holds.fits; size = (keyed gs).size; below = λ i l. ((keyed gs).each i l).below }

        pub all_listed : {first count : ℕ} {before after : List ℕ} {p : Part}
            → PartAs move_words (reactions_by 1024 t at.len at.next (take at.len keys) ++ ends_by ids m blocked aborting) first count 0 before after p
            → PartAs move_words (enabled_in 1024 t s) first count 0 before after p
        all_listed h =
            let few : length S.entries ≤ 1024 = omega (arith, long, loaded.holds.fits) in
            let k = rw (entries, outside-part t s ok of-state) at (keyed-column (keyed gs) loaded.holds.fits (ids-ascend listed)) in
            let by : ℕ → ℕ → List Move = λ n next. reactions_by 1024 t n next (take at.len keys) ++ ends_by ids m blocked aborting in
            part_same (sym (enabled-parts t s ok 1024 few of-state ids-of-state k ∙ ap (λ (n : ℕ). by n S.next) long ∙ ap (by at.len) (sym next))) h
