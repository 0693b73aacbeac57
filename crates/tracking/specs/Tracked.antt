-- What is kept beside the columns from move to move.
use Rattle.std.specs.Prelude.{ℕ, Bool, not, List, map, ◌≡◌}
use Rattle.std.proofs.Common.{sym, ap, ◌∙◌, subst}
use Rattle.lists.specs.Lists.{any, count_if}
use Rattle.lists.specs.Counting.{count_map}
use Rattle.lists.specs.Parts.{any-map}
use Rattle.lists.specs.Rows.{rows, map_rows}
use Rattle.semantics.specs.State.{Entry, State}
use Rattle.semantics.specs.Move.{takes_part}
use Rattle.semantics.specs.declared.Sizes.{Sizes}
use Rattle.wellformed.specs.Bare.{bare}
use Rattle.enabled.specs.Keys.{takeable_on}
use Rattle.enabled.specs.Supply.{Supply}
use Rattle.idset.specs.IdSet.{has}
use Rattle.state.specs.declared.Extent.{Extent}
use Rattle.state.specs.Working.{row_of, held, state_in}
use Rattle.state.specs.Arrays.{HoldsIn}
use Rattle.state.specs.Lent.{state_from}
use Rattle.stopped.specs.Stopped.{StoppedIn, outside-stopped}
use Rattle.stopped.specs.Reacted.{stops_of}

-- which transactions have an abort mark, and how many messages rules may consume from each port; origins do not matter
pub record TrackedIn (z : Sizes) (os ws : List ℕ) (at : Extent) (stopped totals : List ℕ) : Type 0 where
  pub stops : (gs : List ℕ) → StoppedIn (rows (row_of os ws gs) 0 at.len) stopped
  pub supply : (gs : List ℕ) → Supply z (state_from os ws gs at) totals

-- the same of one state
pub record KeptOf (z : Sizes) (s : State) (stopped totals : List ℕ) : Type 0 where
  pub stops : StoppedIn s.entries stopped
  pub supply : Supply z s totals

-- ---- one column of origins is enough for all

module _ (os ws gs : List ℕ) (n : ℕ) (hs : List ℕ) where
  abbrev old : List Entry
  old = rows (row_of os ws gs) 0 n

  abbrev new : List Entry
  new = rows (row_of os ws hs) 0 n

  pub same-bare : map bare old ≡ map bare new
  same-bare = map_rows bare (row_of os ws gs) 0 n ∙ sym (map_rows bare (row_of os ws hs) 0 n)

  pub stops-all : {stopped : List ℕ} → StoppedIn old stopped → StoppedIn new stopped
  stops-all h = record {
    size = h.size;
    are = λ v. h.are v ∙ sym (any-map bare (stops_of v) old) ∙ ap (any (stops_of v)) same-bare ∙ any-map bare (stops_of v) new;
  }

tracked-one : {z : Sizes} (os ws gs : List ℕ) (at : Extent) {stopped totals : List ℕ} → StoppedIn (rows (row_of os ws gs) 0 at.len) stopped
    → Supply z (state_from os ws gs at) totals → TrackedIn z os ws at stopped totals
tracked-one {z} os ws gs at {stopped} h s = record {
  stops = all;
  supply = λ hs. record { size = s.size; each = λ p l. s.each p l ∙ same hs p };
}
  where
    all : (hs : List ℕ) → StoppedIn (rows (row_of os ws hs) 0 at.len) stopped
    all hs = stops-all os ws gs at.len hs h

    same : (hs : List ℕ) (p : ℕ) → count_if (takeable_on z (takes_part (state_from os ws gs at)) p) (rows (row_of os ws gs) 0 at.len)
        ≡ count_if (takeable_on z (takes_part (state_from os ws hs at)) p) (rows (row_of os ws hs) 0 at.len)
    same hs p =
        let old = rows (row_of os ws gs) 0 at.len in
        let new = rows (row_of os ws hs) 0 at.len in
        let on : Entry → Bool = takeable_on z (λ v. not (has stopped v)) p in
        ap (λ (f : ℕ → Bool). count_if (takeable_on z f p) old) (sym (outside-stopped (state_from os ws gs at) h))
        ∙ sym (count_map bare on old) ∙ ap (count_if on) (same-bare os ws gs at.len hs) ∙ count_map bare on new
        ∙ ap (λ (f : ℕ → Bool). count_if (takeable_on z f p) new) (outside-stopped (state_from os ws hs at) (all hs))

-- columns that hold σ, and what is kept of σ
pub tracked-held : {z : Sizes} (os ws gs : List ℕ) (at : Extent) {σ : State} → HoldsIn (held os ws gs at) σ → {stopped totals : List ℕ}
    → KeptOf z σ stopped totals → TrackedIn z os ws at stopped totals
unfolding state_in
tracked-held {z} os ws gs at h {stopped} {totals} k =
    let k = subst (λ (x : State). KeptOf z x stopped totals) (sym h.holds.value) k in
    tracked-one os ws gs at k.stops k.supply
