-- The invariant of a loop that compacts a state in place: it reads row i, writes row w ≤ i, and counts w up by 0 or 1. For any such function.
use Rattle.std.specs.Prelude.{ℕ, ◌+◌, ◌≤◌, ◌<◌, ◌≡◌, Bool, true, List, set}
use Rattle.std.proofs.Math.Path.{refl}
use Rattle.std.proofs.Common.{◌∙◌, arith}
use Rattle.lists.specs.Lists.{one_if}
use Rattle.lists.specs.Sift.{sift, Sifting, sifting-from, sifting-turn, sifting-done}
use Rattle.semantics.specs.State as semantics
use Rattle.semantics.specs.State.{Entry}
use Rattle.state.specs.Working.{entry_from, entry_in, state_in, Holds}
use Rattle.state.specs.Arrays.{Arrays, stored_same, stored_other, stored-sized, holds_of}
use Rattle.state.specs.declared.State.{State}

-- the state with an owner, an item and an origin at place w
abbrev pub stored_in : State → ℕ → ℕ → ℕ → ℕ → State
stored_in s w o x g = record {
  owners = set s.owners w o;
  items = set s.items w x;
  origins = set s.origins w g;
  len = s.len;
  next = s.next;
  unmarked = s.unmarked;
}

-- Of n entries those before i are done and w of them stayed; q says which stay, f how they are changed, σ what is to be made.
pub record Compacting (q : ℕ → Entry → Bool) (f : Entry → Entry) (s : State) (n i w : ℕ) (σ : semantics.State) : Type 0 where
  pub arrays : Arrays s.owners s.items s.origins
  pub sifting : Sifting q f (entry_in s) n i w σ.entries
  pub small : n ≤ 1024
  pub next : s.next ≡ σ.next

module _ (q : ℕ → Entry → Bool) (f : Entry → Entry) where
  -- the loop may begin behind entries that stay as they are
  pub compacting-from : (s : State) (es : List Entry) → sift q f 0 (state_in s).entries ≡ es → Arrays s.owners s.items s.origins → s.len ≤ 1024
      → (i : ℕ) → i ≤ s.len → ((k : ℕ) → k < i → (q k (entry_in s k) ≡ true) × (entry_in s k ≡ f (entry_in s k)))
      → Compacting q f s s.len i i (record { next = s.next; entries = es })
  unfolding state_in
  compacting-from s es e a h i l stay = record { arrays = a; sifting = rw (← e) (sifting-from q f (entry_in s) s.len i l stay); small = h; next = refl }

  module _ {s : State} {n i w : ℕ} {σ : semantics.State} (c : Compacting q f s n i w σ) where
    -- a turn that stores an entry at w and counts it where it stays
    pub compacting-turn : i < n → (o x g k : ℕ) → k ≡ one_if (q i (entry_in s i)) → (q i (entry_in s i) ≡ true → entry_from o x g ≡ f (entry_in s i))
        → Compacting q f (stored_in s w o x g) n (i + 1) (w + k) σ
    compacting-turn more o x g k count e =
        let other = stored_other s.owners s.items s.origins w o x g in
        let here : entry_in (stored_in s w o x g) w ≡ entry_from o x g = stored_same _ _ _ w o x g c.arrays (omega arith) in
        record {
          arrays = stored-sized _ _ _ w o x g c.arrays;
          sifting = rw count (sifting-turn q f c.sifting more (entry_in (stored_in s w o x g)) other (λ h. here ∙ e h));
          small = c.small;
          next = c.next;
        }

    -- the loop is left: with w as its length the state holds what was to be made
    pub compacting-done : n ≤ i → (u : ℕ)
        → Holds (record { owners = s.owners; items = s.items; origins = s.origins; len = w; next = s.next; unmarked = u }) σ
    compacting-done h u = holds_of _ c.next refl (omega arith) (sifting-done q f c.sifting h)
