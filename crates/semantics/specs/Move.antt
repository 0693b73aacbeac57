-- 01, "Move", and 02, M-105: the form of a move, when it is allowed, what it leaves, and the limit on entries.
use Rattle.std.specs.Prelude.{ℕ, suc, Bool, true, false, ◌&&◌, ◌||◌, not, cond, List, [], ◌∷◌, ◌++◌, map, leb, ltb, eqb, length, get_or, take, drop}
use Rattle.lists.specs.Lists.{all, any, is_in, keep, distinct, least, without}
use Rattle.semantics.specs.Words.{head_kind, head_number}
use Rattle.semantics.specs.Table.{Table, Rule, rule_at, consumed, product_atoms, begins}
use Rattle.semantics.specs.State.{Origin, Entry, State, is_message, is_compensation, is_abort_mark, owned}
use Rattle.semantics.specs.declared.Atom.{Atom}
use Rattle.semantics.specs.declared.AtomValue.{AtomValue}
use Rattle.semantics.specs.declared.AtomValue.TheVariants.{Constant, Received}
use Rattle.semantics.specs.declared.Refusal.{Refusal}
use Rattle.semantics.specs.declared.Refusal.TheVariants.{MoveForm, WrongPick, WrongOwner, NoTransaction, EndNotAllowed, NoMoreIds, TooManyEntries}
use Rattle.semantics.specs.declared.Refusal.TheVariants.{TransactionAborting}
use Rattle.semantics.specs.declared.Verdict.{Verdict}
use Rattle.semantics.specs.declared.Verdict.TheVariants.{Allowed, Denied}

-- ---- verdicts

abbrev pub unless : Bool → Refusal → Verdict
unless true r = Allowed
unless false r = Denied r

abbrev pub both : Verdict → Verdict → Verdict
both Allowed v = v
both (Denied r) v = Denied r

-- the verdict of some tests: the first that fails counts, and the later ones say nothing
abbrev pub first_fault : List Verdict → Verdict
first_fault [] = Allowed
first_fault (v ∷ []) = v
first_fault (v ∷ w ∷ vs) = both v (first_fault (w ∷ vs))

-- ---- form (5)

-- A reaction by its rule and the places picked for the rule's consumes, in order; a commit (01's release) or an abort (call-off) by its transaction.
pub data Move : Type 0 where
  react : ℕ → List ℕ → Move
  commit : ℕ → Move
  abort : ℕ → Move

abbrev pub is_zero : ℕ → Bool
is_zero w = eqb w 0

-- how many of the four picks a head uses
abbrev pub picks_used : Table → ℕ → ℕ
picks_used t head = cond (eqb (head_kind head) 0) (length (consumed (rule_at t (head_number head)))) 0

-- Kind 0 names a rule of the table; kinds 1 and 2, commit and abort, an id that a transaction could have.
abbrev pub head_ok : Table → ℕ → Bool
head_ok t head =
    cond (eqb (head_kind head) 0)
    (ltb (head_number head) (length t.rules))
    (leb (head_kind head) 2 && leb 1 (head_number head) && leb (head_number head) 65535)

-- a head in order and four picks, 0 where they are not used (01, Move)
unfoldable pub move_ok : Table → List ℕ → Bool
move_ok t m = eqb (length m) 5 && head_ok t (get_or m 0 0) && all is_zero (drop (picks_used t (get_or m 0 0)) (drop 1 m))

-- the move in five such words
unfoldable pub move_of : Table → List ℕ → Move
move_of t m =
    cond (eqb (head_kind (get_or m 0 0)) 0)
    (react (head_number (get_or m 0 0)) (take (picks_used t (get_or m 0 0)) (drop 1 m)))
    (cond (eqb (head_kind (get_or m 0 0)) 1) (commit (head_number (get_or m 0 0))) (abort (head_number (get_or m 0 0))))

-- ---- what a transaction owns, which a reaction (18) and an end (10) ask

abbrev pub entries_in : ℕ → State → List Entry
entries_in b s = keep (owned b) s.entries

-- An abort must have been asked for by an abort mark.
abbrev pub may_abort : ℕ → State → Bool
may_abort b s = any is_abort_mark (entries_in b s)

-- ---- a reaction

-- stands for an entry past the last: of no kind
abbrev pub nothing : Entry
nothing = record { origin = record { maker = 0; index = 0 }; owner = 0; kind = 4; port = 0; value = 0 }

abbrev pub entry_at : List Entry → ℕ → Entry
entry_at es p = get_or es p nothing

-- the entries that were picked, by their places
abbrev pub picked : State → List ℕ → List Entry
picked s ps = map (entry_at s.entries) ps

-- each is a message on the port wanted in its place, and there are as many as ports
abbrev pub on_ports : List ℕ → List Entry → Bool
on_ports [] [] = true
on_ports [] (e ∷ es) = false
on_ports (p ∷ ps) [] = false
on_ports (p ∷ ps) (e ∷ es) = is_message e && eqb e.port p && on_ports ps es

-- 7: no entry is picked twice, and each is what its consume wants
abbrev pub picks_ok : Rule → State → List ℕ → Bool
picks_ok r s ps = distinct ps && on_ports (consumed r) (picked s ps)

abbrev pub owners_at : State → List ℕ → List ℕ
owners_at s ps = map (λ e. e.owner) (picked s ps)

-- 8: a global rule consumes what is global, a local rule what is in one transaction, a merge rule what is in any transactions
abbrev pub owners_fit : ℕ → List ℕ → Bool
owners_fit class os =
    cond (eqb class 0) (all is_zero os)
    (cond (eqb class 1) (all (λ o. ltb 0 o && eqb o (least os)) os) (all (λ o. ltb 0 o) os))

-- 18 (02, M-105): a transaction that has an abort mark can only be aborted, so it takes part in no reaction. What is global is in no transaction.
abbrev pub takes_part : State → ℕ → Bool
takes_part s o = is_zero o || not (may_abort o s)

-- 11: a begin needs an id, and 65,535 is the last
abbrev pub has_id : Rule → State → Bool
has_id r s = not (begins r) || ltb s.next 65536

-- 7, 8, 18, 11, each of all picks
abbrev pub react_faults : Rule → State → List ℕ → List Verdict
react_faults r s ps =
    unless (picks_ok r s ps) WrongPick
    ∷ unless (owners_fit r.class (owners_at s ps)) WrongOwner
    ∷ unless (all (takes_part s) (owners_at s ps)) TransactionAborting
    ∷ unless (has_id r s) NoMoreIds
    ∷ []

abbrev pub react_allowed : Rule → State → List ℕ → Verdict
react_allowed r s ps = first_fault (react_faults r s ps)

-- A merge makes one transaction of those picked from, under the smallest of their ids: every entry of theirs changes its owner, picked or not.
abbrev pub merged : List ℕ → Entry → Entry
merged os e = record { origin = e.origin; owner = cond (is_in e.owner os) (least os) e.owner; kind = e.kind; port = e.port; value = e.value }

-- an atom's value, once the consumes have received these
abbrev pub value_in : List ℕ → AtomValue → ℕ
value_in got (Constant v) = v
value_in got (Received i) = get_or got i 0

-- a begin leaves the member mark, a compensation and an abort what bears their name, an emit or a body a message
abbrev pub kind_made : ℕ → ℕ
kind_made role = cond (eqb role 2) 3 (cond (eqb role 4) 1 (cond (eqb role 5) 2 0))

-- What a global rule emits is global, and its other products go into the transaction that it begins. A local or merge rule leaves all in its transaction.
abbrev pub owner_made : Rule → State → List ℕ → ℕ → ℕ
owner_made r s os role = cond (eqb r.class 0 && not (eqb role 1)) s.next (least os)

abbrev pub made : Rule → State → List Entry → Origin → Atom → Entry
made r s es o a = record {
  origin = o;
  owner = owner_made r s (map (λ e. e.owner) es) a.role;
  kind = kind_made a.role;
  port = a.port;
  value = cond (eqb a.role 2) s.next (value_in (map (λ e. e.value) es) a.value);
}

-- the products in atom order, from the product q on, of the maker i
abbrev pub products : Rule → State → List Entry → ℕ → ℕ → List Atom → List Entry
products r s es i q [] = []
products r s es i q (a ∷ rest) = made r s es (record { maker = i; index = q }) a ∷ products r s es i (suc q) rest

-- What a reaction leaves: the other entries as they stood, then the products as their atoms stand. A begin uses up an id.
unfoldable pub reacted : Rule → ℕ → State → List ℕ → State
reacted r i s ps = record {
  next = cond (begins r) (suc s.next) s.next;
  entries = map (merged (owners_at s ps)) (without ps 0 s.entries) ++ products r s (picked s ps) i 0 (product_atoms r);
}

-- ---- commit and abort

-- a transaction is there as long as it owns something
abbrev pub is_open : ℕ → State → Bool
is_open b s = ltb 0 b && any (owned b) s.entries

-- A commit may not lose anything: no abort mark, and no message left on a port of the transaction's own.
abbrev pub may_commit : Table → ℕ → State → Bool
may_commit t b s = all (λ e. not (is_abort_mark e) && (not (is_message e) || ltb e.port t.sizes.globals)) (entries_in b s)

-- 9, 10: the end of transaction b, of which `may` says whether it is allowed where b is there
abbrev pub end_faults : Bool → ℕ → State → List Verdict
end_faults may b s = unless (is_open b s) NoTransaction ∷ unless may EndNotAllowed ∷ []

abbrev pub to_global : Entry → Entry
to_global e = record { origin = e.origin; owner = 0; kind = 0; port = e.port; value = e.value }

-- an entry that stays: those of b become global messages
abbrev pub freed : (Entry → Bool) → ℕ → Entry → Entry
freed p b e = cond (owned b e && p e) (to_global e) e

-- The end of b frees those of its entries of which p holds, a commit its messages and an abort its compensations, where they stand; its others go.
unfoldable pub ended : (Entry → Bool) → ℕ → State → State
ended p b s = record { next = s.next; entries = map (freed p b) (keep (λ e. not (owned b e) || p e) s.entries) }

-- ---- a move

-- why a move is refused, before anything is changed (7 to 11, 18)
unfoldable pub allowed : Table → State → Move → Verdict
allowed t s (react r ps) = react_allowed (rule_at t r) s ps
allowed t s (commit b) = first_fault (end_faults (may_commit t b s) b s)
allowed t s (abort b) = first_fault (end_faults (may_abort b s) b s)

-- what a move that is allowed leaves; i is the maker of its products
unfoldable pub applied : Table → ℕ → State → Move → State
applied t i s (react r ps) = reacted (rule_at t r) i s ps
applied t i s (commit b) = ended is_message b s
applied t i s (abort b) = ended is_compensation b s

pub data Stepped : Type 0 where
  to : State → Stepped
  refused : Refusal → Stepped

abbrev pub stepped_by : Verdict → State → Stepped
stepped_by Allowed s = to s
stepped_by (Denied r) s = refused r

unfoldable pub step : Table → ℕ → State → Move → Stepped
step t i s m = stepped_by (allowed t s m) (applied t i s m)

-- 12: the state left may not have more entries than the ceiling
abbrev pub within : ℕ → Stepped → Stepped
within ceiling (to s) = cond (leb (length s.entries) ceiling) (to s) (refused TooManyEntries)
within ceiling (refused r) = refused r

-- a move in words: 5, then 7 to 12 and 18
unfoldable pub step_words : ℕ → Table → ℕ → State → List ℕ → Stepped
step_words ceiling t i s m = cond (move_ok t m) (within ceiling (step t i s (move_of t m))) (refused MoveForm)

-- the same as a verdict, for a reader who tests before anything is changed
unfoldable pub move_verdict : ℕ → Table → State → Move → Verdict
move_verdict ceiling t s m = first_fault (allowed t s m ∷ unless (leb (length (applied t 0 s m).entries) ceiling) TooManyEntries ∷ [])
