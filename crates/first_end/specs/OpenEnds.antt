-- The open ends of a state, and what the code tells of its entries.
use Rattle.std.specs.Prelude.{ℕ, suc, ◌-◌, ◌≤◌, ◌<◌, Bool, ◌&&◌, not, List, [], ◌∷◌, ◌++◌, map, ◌≡◌, ltb, length, get_or}
use Rattle.std.proofs.Common.{ap, ◌∙◌, zero-add, arith}
use Rattle.lists.specs.Lists.{any, keep, up_from}
use Rattle.lists.specs.Members.{Among, get_or-among}
use Rattle.lists.specs.Rows.{rows, length-rows, get_d_rows}
use Rattle.semantics.specs.Table.{Table}
use Rattle.semantics.specs.State.{Entry, State, is_message, owned}
use Rattle.semantics.specs.Move.{Move, commit, abort, nothing, move_verdict}
use Rattle.semantics.specs.Enabled.{is_allowed}
use Rattle.semantics.specs.declared.Sizes.{Sizes}
use Rattle.wellformed.specs.Entries.{StateRight}
use Rattle.idset.specs.IdSet.{has}
use Rattle.state.specs.declared.Extent.{Extent}
use Rattle.state.specs.Working.{held, row_of, state_in}
use Rattle.state.specs.Arrays.{HoldsIn, held_next}
use Rattle.transactions.specs.Sets.{blocks}

-- the open commits and then the open aborts, of all ids that have been given out
abbrev pub open_ends : ℕ → Table → State → List Move
open_ends ceiling t s = keep (λ m. is_allowed (move_verdict ceiling t s m)) (map commit (up_from 1 (s.next - 1)) ++ map abort (up_from 1 (s.next - 1)))

abbrev pub open_aborts : ℕ → Table → State → List Move
open_aborts ceiling t s = keep (λ m. is_allowed (move_verdict ceiling t s m)) (map abort (up_from 1 (s.next - 1)))

-- every transaction that owns something has an id that has been given out
abbrev pub OwnersGiven : List ℕ → Extent → Type 0
OwnersGiven os at = (p : ℕ) → p < at.len → (get_or os p 0 ≡ 0 → ⊥) → get_or os p 0 < at.next

-- a message on a port of its transaction's own
abbrev pub is_inside : ℕ → Entry → Bool
is_inside globals e = is_message e && not (ltb e.port globals)

-- the owners of what blocks a commit
pub record BlockedIn (globals : ℕ) (es : List Entry) (blocked : List ℕ) : Type 0 where
  pub are : (v : ℕ) → has blocked v ≡ any (λ e. owned v e && blocks globals e) es

-- of a transaction with a higher id than a
abbrev pub is_above : ℕ → Entry → Bool
is_above a e = ltb a e.owner

-- of any transaction, and of one that is not in a set
abbrev pub is_owned : Entry → Bool
is_owned = is_above 0

abbrev pub free_of : List ℕ → Entry → Bool
free_of out e = is_owned e && not (has out e.owner)

-- v owns something, and m holds of it
abbrev pub holders : List Entry → (ℕ → Bool) → ℕ → Bool
holders es m v = any (owned v) es && m v

-- v is the lowest of the ids from start on and below next that p holds of, and beyond all ids if there is none
pub record FirstId (p : ℕ → Bool) (start next v : ℕ) : Type 0 where
  pub some : v < 65536 → keep p (up_from start (next - start)) ≡ v ∷ keep p (up_from (suc v) (next - suc v))
  pub none : 65536 ≤ v → keep p (up_from start (next - start)) ≡ []

-- ---- for callers

-- in a well-formed state every owner has its own mark, whose id has been given out
pub owners-given : {z : Sizes} {os ws gs : List ℕ} {at : Extent} {σ : State} → HoldsIn (held os ws gs at) σ → StateRight z σ → OwnersGiven os at
unfolding state_in
owners-given {z} {os} {ws} {gs} {at} {σ} loaded right p l some =
    let row = row_of os ws gs in
    let entries : rows row 0 at.len ≡ σ.entries = ap (λ (x : State). x.entries) loaded.holds.value in
    let low : p < length (rows row 0 at.len) = rw length-rows l in
    let e : get_or (rows row 0 at.len) p nothing ≡ row p = get_d_rows nothing row 0 at.len p l ∙ ap row (zero-add p) in
    let a : Among (row p) σ.entries = rw (← entries, ← e) (get_or-among nothing (rows row 0 at.len) p low) in
    let (d, among, k, x, v) = right.own (row p) a some in
    omega (arith, ((right.each d among).member-mark k).value-lt, held_next loaded.holds)
