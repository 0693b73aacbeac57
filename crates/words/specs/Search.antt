-- A column in chunks of 32 places: what the search says, and what a chunk without the word says of its places.
use Rattle.std.specs.Prelude.{ℕ, ◌+◌, ◌-◌, ◌≤◌, ◌<◌, Bool, false, List, ◌≡◌, refl, eqb, get_or}
use Rattle.std.proofs.Common.{true≢false, sym, ap, subst, ◌∙◌, zero-add, arith, eq-eqb}
use Rattle.lists.specs.Lists.{any}
use Rattle.lists.specs.Members.{Among, any-intro, get_or-among}
use Rattle.lists.specs.Rows.{rows, length-rows, get_d_rows}

-- one of the 32 words from a place on is x
unfoldable pub in_chunk : List ℕ → ℕ → ℕ → Bool
in_chunk words from x = any (λ w. eqb w x) (rows (λ j. get_or words (from + j) 0) 0 32)

-- a chunk that has no x has it at none of its places
pub chunk-lacks : (words : List ℕ) (from x : ℕ) → in_chunk words from x ≡ false → (j : ℕ) → from ≤ j → j < from + 32 → get_or words j 0 ≡ x → ⊥
unfolding in_chunk
chunk-lacks words from x h j low high e =
    let f : ℕ → ℕ = λ j. get_or words (from + j) 0 in
    let at : from + (j - from) ≡ j = omega arith in
    let there : get_or (rows f 0 32) (j - from) 0 ≡ x = get_d_rows 0 f 0 32 (j - from) (omega arith) ∙ ap f (zero-add (j - from))
    ∙ ap (λ (k : ℕ). get_or words k 0) at ∙ e in
    let among : Among x (rows f 0 32) = subst (λ (w : ℕ). Among w (rows f 0 32)) there
    (get_or-among 0 (rows f 0 32) (j - from) (omega (arith, length-rows f 0 32))) in
    true≢false (sym (any-intro (λ w. eqb w x) (rows f 0 32) x among (eq-eqb x x refl)) ∙ h)

-- the chunk from a place on ends at r, of n places
pub record ChunkEnd (from n r : ℕ) : Type 0 where
  pub more : from < r
  pub within : r ≤ n
  pub few : r ≤ from + 32
  pub full : r < n → r ≡ from + 32
