-- The candidates of the list: what they are, that words can hold them, and that every allowed move is one.
use Rattle.std.specs.Prelude.{ℕ, ◌-◌, ◌≤◌, ◌<◌, Bool, List, ◌++◌, map, ◌⊎◌, ◌≡◌, length}
use Rattle.std.proofs.Common.{inl, inr, arith}
use Rattle.lists.specs.Lists.{up_from, each, tuples}
use Rattle.lists.specs.Members.{Among, among-left, among-right, among-append, among-map, map-among}
use Rattle.lists.specs.UpFrom.{up-among}
use Rattle.lists.specs.TupleMembers.{among-each, each-among, among-up, among-tuples, tuples-among}
use Rattle.semantics.specs.Table.{Table, sizes_of, table_of, rule_at, consumed}
use Rattle.semantics.specs.State.{State, state_of}
use Rattle.semantics.specs.Move.{Move, react, commit, abort, is_open, may_commit, may_abort, end_faults, first_fault, allowed}
use Rattle.semantics.specs.Enabled.{reactions_of, candidates}
use Rattle.semantics.specs.Answers.{table_verdict, state_verdict}
use Rattle.semantics.specs.declared.Refusal.TheVariants.{NoTransaction}
use Rattle.semantics.specs.declared.Verdict.TheVariants.{Allowed}
use Rattle.wellformed.specs.Verdicts.{unless_allowed, passed-each}
use Rattle.wellformed.specs.Tables.{well-formed, sizes-table_of, length-rules}
use Rattle.wellformed.specs.States.{state-given}
use Rattle.wellformed.specs.Rules.{TableRight, table-right}
use Rattle.wellformed.specs.Entries.{Sound}
use Rattle.wellformed.specs.MoveWords.{Holdable, open-id}
use Rattle.wellformed.specs.Picks.{react-given, pick-lt, picks-length}
use Rattle.wellformed.specs.Preservation.{RuleKnown}
use Rattle.wellformed.specs.Held.{Held, state_of-held}

-- a rule of the table with a place for each of its consumes, or an id that has been given out
abbrev pub Candidate : Table → State → Move → Type 0
Candidate t s (react r ps) =
    (r < length t.rules) × (length ps ≡ length (consumed (rule_at t r))) × ((p : ℕ) → Among p ps → p < length s.entries)
Candidate t s (commit b) = (1 ≤ b) × (b < s.next)
Candidate t s (abort b) = (1 ≤ b) × (b < s.next)

module _ (t : Table) (s : State) where
  -- the parts of which the candidates are made
  abbrev pub all_reactions : List Move
  all_reactions = each (reactions_of t (length s.entries)) (up_from 0 (length t.rules))

  abbrev pub all_ids : List ℕ
  all_ids = up_from 1 (s.next - 1)

  abbrev front : List Move
  front = all_reactions ++ map commit all_ids

  pub among-reactions : (m : Move) → Among m all_reactions → (r : ℕ) × (ps : List ℕ) × Candidate t s (react r ps) × (m ≡ react r ps)
  among-reactions m h =
      let n = length s.entries in
      let (r, i, j) = among-each (reactions_of t n) (up_from 0 (length t.rules)) m h in
      let (ps, p, e) = among-map (react r) (tuples n (length (consumed (rule_at t r)))) m j in
      let (l, f) = among-tuples n (length (consumed (rule_at t r))) ps p in
      let u = among-up 0 (length t.rules) r i in
      (r, ps, (omega arith, l, f), e)

  pub among-ends : (end : ℕ → Move) (m : Move) → Among m (map end all_ids) → (b : ℕ) × ((1 ≤ b) × (b < s.next)) × (m ≡ end b)
  among-ends end m h = let (b, i, e) = among-map end all_ids m h in let u = among-up 1 (s.next - 1) b i in (b, omega arith, e)

  pub among-candidates : (m : Move) → Among m (candidates t s) → Candidate t s m
  among-candidates m h = go (among-append front (map abort all_ids) m h)
    where
      first : Among m all_reactions ⊎ Among m (map commit all_ids) → Candidate t s m
      first (inl k) = let (r, ps, c, e) = among-reactions m k in rw e c
      first (inr k) = let (b, c, e) = among-ends commit m k in rw e c

      go : Among m front ⊎ Among m (map abort all_ids) → Candidate t s m
      go (inl k) = first (among-append all_reactions (map commit all_ids) m k)
      go (inr k) = let (b, c, e) = among-ends abort m k in rw e c

  ends-among : (end : ℕ → Move) (b : ℕ) → (1 ≤ b) × (b < s.next) → Among (end b) (map end all_ids)
  ends-among end b h = map-among end all_ids b (up-among 1 (s.next - 1) b h.0 (omega arith))

  pub candidates-among : (m : Move) → Candidate t s m → Among m (candidates t s)
  candidates-among (react r ps) (l, n, f) =
      let c = length (consumed (rule_at t r)) in
      among-left front (map abort all_ids) (react r ps) (among-left all_reactions (map commit all_ids) (react r ps)
      (each-among (reactions_of t (length s.entries)) (up_from 0 (length t.rules)) r (react r ps)
      (up-among 0 (length t.rules) r (omega arith) (omega arith))
      (map-among (react r) (tuples (length s.entries) c) ps (tuples-among (length s.entries) c ps n f))))
  candidates-among (commit b) h =
      among-left front (map abort all_ids) (commit b) (among-right all_reactions (map commit all_ids) (commit b) (ends-among commit b h))
  candidates-among (abort b) h = among-right front (map abort all_ids) (abort b) (ends-among abort b h)

-- ---- under accepted words

-- a table and a state that accepted words hold
pub record FromWords (t : Table) (s : State) : Type 0 where
  pub right : TableRight t
  pub few-rules : length t.rules ≤ 64
  pub sound : Sound t.sizes s
  pub few-entries : length s.entries ≤ 1024

pub from-held : (t : List ℕ) → table_verdict t ≡ Allowed → (s : State) → Held (sizes_of t) s → FromWords (table_of t) s
from-held t table s held = record {
  right = table-right t table;
  few-rules = rw (length-rules t) (well-formed t table).sizes.rules;
  sound = rw (sizes-table_of t) held.sound;
  few-entries = held.few;
}

pub from-words : (t s : List ℕ) → state_verdict t s ≡ Allowed → FromWords (table_of t) (state_of s)
from-words t s h = from-held t (state-given s t h).0 (state_of s) (state_of-held t s h)

module _ {t : Table} {s : State} (words : FromWords t s) where
  -- words can hold a candidate
  pub candidate-holdable : (m : Move) → Candidate t s m → Holdable t m
  candidate-holdable (react r ps) (l, n, f) = let k = (words.right.rule r l).consumes-le in let q = words.few-rules in (l, omega arith, n, omega arith)
  candidate-holdable (commit b) h = let k = words.sound.next-high in omega arith
  candidate-holdable (abort b) h = let k = words.sound.next-high in omega arith

  open-candidate : (may : Bool) (b : ℕ) → first_fault (end_faults may b s) ≡ Allowed → (1 ≤ b) × (b < s.next)
  open-candidate may b h = open-id b s words.sound (unless_allowed (is_open b s) NoTransaction (passed-each (end_faults may b s) h).0)

  -- an allowed move is a candidate: past the last entry there is no message to pick, and an open transaction's id has been given out
  pub allowed-candidate : (m : Move) → RuleKnown t m → allowed t s m ≡ Allowed → Candidate t s m
  unfolding allowed
  allowed-candidate (react r ps) k h = let g = react-given (rule_at t r) s ps h in (k, picks-length g, pick-lt g)
  allowed-candidate (commit b) k h = open-candidate (may_commit t b s) b h
  allowed-candidate (abort b) k h = open-candidate (may_abort b s) b h
