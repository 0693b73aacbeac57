-- Laws of the columns of a working state, for the proofs of code that changes it: an entry stored in them, and what the state then holds.
use Rattle.std.specs.Prelude.{ℕ, ◌+◌, ◌≤◌, ◌<◌, false, ◌≡◌, List, [], ◌∷◌, ◌++◌, eqb, length, get_or, set}
use Rattle.std.proofs.Common.{sym, ap, ◌∙◌, append_assoc, zero-add, arith, length-set, get_or-set_same, get_or-set_other}
use Rattle.lists.specs.Rows.{rows, length-rows, rows_ext, rows_more}
use Rattle.semantics.specs.Words.{item_kind}
use Rattle.semantics.specs.State as semantics
use Rattle.semantics.specs.State.{Entry}
use Rattle.state.specs.Working.{entry_from, row_of, entry_in, state_in, Holds}
use Rattle.state.specs.declared.State.{State}

-- three columns of 1,024 places
pub record Arrays (os ws gs : List ℕ) : Type 0 where
  pub owners : length os ≡ 1024
  pub items : length ws ≡ 1024
  pub origins : length gs ≡ 1024

-- no abort mark stands before place n
abbrev pub UnmarkedTo : List ℕ → ℕ → Type 0
UnmarkedTo ws n = (j : ℕ) → j < n → eqb (item_kind (get_or ws j 0)) 2 ≡ false

pub record Looked (s : State) : Type 0 where
  pub within : s.unmarked ≤ s.len
  pub none : UnmarkedTo s.items s.unmarked

-- nobody has looked yet
pub not-looked : {s : State} → s.unmarked ≡ 0 → Looked s
not-looked h = record { within = omega arith; none = λ j l. absurd (omega arith) }

-- lent columns that hold σ
pub record HoldsIn (s : State) (σ : semantics.State) : Type 0 where
  pub arrays : Arrays s.owners s.items s.origins
  pub holds : Holds s σ
  pub looked : Looked s

module _ (os ws gs : List ℕ) (w o x g : ℕ) where
  -- the columns with an entry stored at w
  abbrev pub stored : ℕ → Entry
  stored = row_of (set os w o) (set ws w x) (set gs w g)

  pub stored_same : Arrays os ws gs → w < 1024 → stored w ≡ entry_from o x g
  stored_same c h =
      let lo : w < length os = omega arith in
      let li : w < length ws = omega arith in
      let lg : w < length gs = omega arith in
      simp get_or-set_same

  pub stored_other : (k : ℕ) → (k ≡ w → ⊥) → stored k ≡ row_of os ws gs k
  stored_other k h = simp get_or-set_other

  pub stored-sized : Arrays os ws gs → Arrays (set os w o) (set ws w x) (set gs w g)
  stored-sized c = record { owners = simp length-set c.owners; items = simp length-set c.items; origins = simp length-set c.origins }

  -- an entry stored after the last is one more
  pub stored_more : Arrays os ws gs → w < 1024 → rows stored 0 (w + 1) ≡ rows (row_of os ws gs) 0 w ++ (entry_from o x g ∷ [])
  stored_more c h =
      let same : rows stored 0 w ≡ rows (row_of os ws gs) 0 w = rows_ext _ _ 0 w (λ k l u. stored_other k (λ q. omega arith)) in
      rw (rows_more, same, zero-add, stored_same c h)

  -- .. and what follows may follow it
  pub stored-before : Arrays os ws gs → w < 1024 → {e : Entry} → entry_from o x g ≡ e → (es : List Entry)
      → rows (row_of os ws gs) 0 w ++ (e ∷ es) ≡ rows stored 0 (w + 1) ++ es
  stored-before c h q es = rw (stored_more c h, q, append_assoc)

pub holds_of : (s : State) {n next : ℕ} {es : List Entry} → s.next ≡ next → s.len ≡ n → n ≤ 1024 → rows (entry_in s) 0 n ≡ es
    → Holds s (record { next = next; entries = es })
unfolding state_in
holds_of s t n h e = record { value = rw (t, n, e); fits = omega arith }

pub count-in : (s : State) → length (state_in s).entries ≡ s.len
unfolding state_in
count-in s = length-rows (entry_in s) 0 s.len

-- what a state that holds σ has of it
pub held_next : {s : State} {σ : semantics.State} → Holds s σ → s.next ≡ σ.next
unfolding state_in
held_next h = ap (λ (x : semantics.State). x.next) h.value

pub held-len : {s : State} {σ : semantics.State} → Holds s σ → s.len ≡ length σ.entries
held-len {s} h = sym (count-in s) ∙ ap (λ (x : semantics.State). length x.entries) h.value
