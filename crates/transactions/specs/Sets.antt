-- Sets of transactions by how they may end, and the rules of an end said of such sets.
use Rattle.std.specs.Prelude.{ℕ, ◌≡◌, refl, Bool, true, false, ◌&&◌, ◌||◌, not, List, ltb, length}
use Rattle.std.proofs.Common.{sym, ap, ◌∙◌}
use Rattle.lists.specs.Lists.{any}
use Rattle.lists.specs.Found.{any-keep, all-not-any}
use Rattle.semantics.specs.Table.{Table}
use Rattle.semantics.specs.State.{Entry, State, is_message, is_abort_mark, owned}
use Rattle.semantics.specs.Move.{entries_in, may_commit, may_abort}
use Rattle.idset.specs.IdSet.{has, Inserted, InsertedIf}

-- what keeps its transaction from being committed
abbrev pub blocks : ℕ → Entry → Bool
blocks globals e = is_abort_mark e || is_message e && not (ltb e.port globals)

-- the abort mark of a transaction
abbrev pub stops : Entry → Bool
stops e = ltb 0 e.owner && is_abort_mark e

-- the sets after the entry e: its owner is present, and in each of the other two if e gives the reason
pub record EnteredIn (globals : ℕ) (e : Entry) (present blocked aborting present' blocked' aborting' : List ℕ) : Type 0 where
  pub owning : Inserted e.owner present present'
  pub blocking : InsertedIf (blocks globals e) e.owner blocked blocked'
  pub marking : InsertedIf (is_abort_mark e) e.owner aborting aborting'

-- the ids of the owners of es, of those that own what blocks a commit, and of those that own an abort mark
pub record TransactionSets (globals : ℕ) (es : List Entry) (present blocked aborting : List ℕ) : Type 0 where
  pub present-size : length present ≡ 1024
  pub blocked-size : length blocked ≡ 1024
  pub aborting-size : length aborting ≡ 1024
  pub present-are : (v : ℕ) → has present v ≡ any (owned v) es
  pub blocked-are : (v : ℕ) → has blocked v ≡ any (λ e. owned v e && blocks globals e) es
  pub aborting-are : (v : ℕ) → has aborting v ≡ any (λ e. owned v e && is_abort_mark e) es

-- ---- when a transaction may end

-- what a commit asks of each entry is that it does not block
unblocked : (globals : ℕ) (e : Entry) → not (is_abort_mark e) && (not (is_message e) || ltb e.port globals) ≡ not (blocks globals e)
unblocked globals e = go (is_abort_mark e) (is_message e) (ltb e.port globals)
  where
    go : (a m l : Bool) → not a && (not m || l) ≡ not (a || m && not l)
    go true m l = refl
    go false true true = refl
    go false true false = refl
    go false false l = refl

pub commit-unblocked : (t : Table) (b : ℕ) (s : State) → may_commit t b s ≡ not (any (λ e. owned b e && blocks t.sizes.globals e) s.entries)
commit-unblocked t b s =
    let globals = t.sizes.globals in
    all-not-any (blocks globals) _ (unblocked globals) (entries_in b s) ∙ ap not (sym (any-keep (blocks globals) (owned b) s.entries))

pub abort-marked : (b : ℕ) (s : State) → may_abort b s ≡ any (λ e. owned b e && is_abort_mark e) s.entries
abort-marked b s = sym (any-keep is_abort_mark (owned b) s.entries)
