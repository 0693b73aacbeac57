-- An allowed move keeps a state well formed.
use Rattle.std.specs.Prelude.{ℕ, ◌≤◌, ◌<◌, Bool, true, false, ◌&&◌, ◌||◌, not, cond, List, ◌≡◌, leb, ltb, eqb, length, get_or, take, drop}
use Rattle.std.proofs.Common.{arith}
use borrow.Author.Tests.{leb-true, ltb-true, eqb-true, eq-eqb, ne_eqb}
use Rattle.lists.specs.Lists.{all}
use Rattle.lists.specs.Choices.{and_right, and-three, given_holds}
use Rattle.lists.specs.Members.{Among, all-each, keep-among}
use Rattle.semantics.specs.Words.{head_kind, head_number}
use Rattle.semantics.specs.Table.{Table, sizes_of, table_of, rule_at}
use Rattle.semantics.specs.State.{Entry, State, is_message, is_compensation, is_abort_mark, owned, entries_ok}
use Rattle.semantics.specs.Move.{unless, Move, react, commit, abort, is_zero, picks_used, head_ok, move_ok, move_of, is_open, entries_in, may_commit, allowed, applied}
use Rattle.semantics.specs.Answers.{table_verdict}
use Rattle.semantics.specs.declared.Refusal.TheVariants.{NoTransaction, EndNotAllowed}
use Rattle.semantics.specs.declared.Verdict.TheVariants.{Allowed}
use Rattle.wellformed.specs.Verdicts.{both-allowed, unless_allowed}
use Rattle.wellformed.specs.Rules.{TableRight, table-right}
use Rattle.wellformed.specs.Entries.{state-right, state-tests, Sound, Small}
use Rattle.wellformed.specs.Picks.{react-given}
use Rattle.wellformed.specs.Reaction.{react-keeps, react-small}
use Rattle.wellformed.specs.Ends.{ended-keeps, ended-small}

-- a reaction's rule is one of the table's
abbrev pub RuleKnown : Table → Move → Type 0
RuleKnown t (react r ps) = r < length t.rules
RuleKnown t (commit b) = Unit
RuleKnown t (abort b) = Unit

-- an end in order is a commit or an abort, and its number is an id
module _ (t : Table) (m : List ℕ) (h : move_ok t m ≡ true) (k : head_kind (get_or m 0 0) ≡ 0 → ⊥) where
  abbrev head : ℕ
  head = get_or m 0 0

  in-range : (leb (head_kind head) 2 ≡ true) × (leb 1 (head_number head) ≡ true) × (leb (head_number head) 65535 ≡ true)
  unfolding move_ok
  in-range =
      let ok = (and-three (eqb (length m) 5) (head_ok t head) (all is_zero (drop (picks_used t head) (drop 1 m))) h).1 in
      and-three (leb (head_kind head) 2) (leb 1 (head_number head)) (leb (head_number head) 65535) (rw (ne_eqb (head_kind head) 0 k) at ok)

  pub end-kind : head_kind head ≤ 2
  end-kind = leb-true (head_kind head) 2 in-range.0

  pub end-id : head_number head ≤ 65535
  end-id = leb-true (head_number head) 65535 in-range.2

pub rule-known : (t : Table) (m : List ℕ) → move_ok t m ≡ true → RuleKnown t (move_of t m)
unfolding move_ok move_of
rule-known t m h = go (eqb (head_kind (get_or m 0 0)) 0) (eqb (head_kind (get_or m 0 0)) 1)
    (and-three (eqb (length m) 5) (head_ok t (get_or m 0 0)) (all is_zero (drop (picks_used t (get_or m 0 0)) (drop 1 m))) h).1
  where
    go : (a b : Bool)
        → cond a (ltb (head_number (get_or m 0 0)) (length t.rules))
        (leb (head_kind (get_or m 0 0)) 2 && leb 1 (head_number (get_or m 0 0)) && leb (head_number (get_or m 0 0)) 65535) ≡ true
        → RuleKnown t (cond a (react (head_number (get_or m 0 0)) (take (picks_used t (get_or m 0 0)) (drop 1 m)))
        (cond b (commit (head_number (get_or m 0 0))) (abort (head_number (get_or m 0 0)))))
    go true b k = ltb-true (head_number (get_or m 0 0)) (length t.rules) k
    go false true k = tt
    go false false k = tt

-- the number of a reaction in order is a rule's
pub rule-number : (t : Table) (m : List ℕ) → move_ok t m ≡ true → head_kind (get_or m 0 0) ≡ 0 → head_number (get_or m 0 0) < length t.rules
unfolding move_of
rule-number t m h k = rw (eq-eqb (head_kind (get_or m 0 0)) 0 k) at (rule-known t m h)

module _ {t : Table} (right : TableRight t) {s : State} (sound : Sound t.sizes s) (i : ℕ) where
  committed-global : (b : ℕ) → may_commit t b s ≡ true → (e : Entry) → Among e s.entries → e.owner ≡ b → is_message e ≡ true → (e.port < t.sizes.globals)
  committed-global b h e m o k =
      let q = all-each (λ e. not (is_abort_mark e) && (not (is_message e) || ltb e.port t.sizes.globals)) (entries_in b s) h e
      (keep-among (owned b) s.entries e m (eq-eqb e.owner b o)) in
      ltb-true e.port t.sizes.globals
      (given_holds (is_message e) (ltb e.port t.sizes.globals)
      (and_right (not (is_abort_mark e)) (not (is_message e) || ltb e.port t.sizes.globals) q) k)

  pub applied-keeps : (m : Move) → RuleKnown t m → allowed t s m ≡ Allowed → Sound t.sizes (applied t i s m)
  unfolding allowed applied
  applied-keeps (react r ps) k h = react-keeps (right.rule r k) sound (react-given (rule_at t r) s ps h) i
  applied-keeps (commit b) k h = ended-keeps sound is_message b (λ e p q. let l = eqb-true e.kind 0 p in omega arith)
      (committed-global b (unless_allowed (may_commit t b s) EndNotAllowed
      (both-allowed (unless (is_open b s) NoTransaction) (unless (may_commit t b s) EndNotAllowed) h).1))
  applied-keeps (abort b) k h = ended-keeps sound is_compensation b (λ e p q. let l = eqb-true e.kind 1 p in omega arith)
      (λ e m o p. (sound.right.each e m).compensation (eqb-true e.kind 1 p))

  pub applied-small : (m : Move) → RuleKnown t m → allowed t s m ≡ Allowed → Small s.entries → Small (applied t i s m).entries
  unfolding allowed applied
  applied-small (react r ps) k h small = react-small (right.rule r k) sound (react-given (rule_at t r) s ps h) i small
  applied-small (commit b) k h small = ended-small is_message b s small
  applied-small (abort b) k h small = ended-small is_compensation b s small

pub move-preserves : (T : List ℕ) → table_verdict T ≡ Allowed → (i : ℕ) (s : State) (m : List ℕ) → entries_ok (sizes_of T) s ≡ true → 1 ≤ s.next
    → s.next ≤ 65536
    → move_ok (table_of T) m ≡ true → allowed (table_of T) s (move_of (table_of T) m) ≡ Allowed
    → (entries_ok (sizes_of T) (applied (table_of T) i s (move_of (table_of T) m)) ≡ true)
    × (1 ≤ (applied (table_of T) i s (move_of (table_of T) m)).next) × ((applied (table_of T) i s (move_of (table_of T) m)).next ≤ 65536)
unfolding table_of
move-preserves T h i s m e l u f a =
    let t = table_of T in
    let k : Sound (sizes_of T) (applied t i s (move_of t m)) =
    applied-keeps (table-right T h) (record { right = state-right (sizes_of T) s e; next_low = l; next-high = u }) i (move_of t m) (rule-known t m f) a in
    (state-tests (sizes_of T) (applied t i s (move_of t m)) k.right, k.next_low, k.next-high)
