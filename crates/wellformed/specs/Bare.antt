-- Origins do not matter: to what is allowed, to what a move leaves but for origins, to a state's words, or to whether it is well formed.
use Rattle.std.specs.Prelude.{ℕ, suc, Bool, true, false, ◌&&◌, ◌||◌, not, ◌≡◌, refl, ltb, eqb}
use Rattle.std.proofs.Math.Bool.{cond}
use mathlib.Core.List.{List, [], ◌∷◌, ◌++◌, map, map-map, map-append}
use Rattle.std.proofs.Math.Path.{sym, ap}
use Rattle.std.proofs.Common.{◌∙◌}
use Rattle.std.proofs.lemmas.List.{length-map}
use Rattle.std.proofs.Math.ListN.{get_or-map}
use Rattle.lists.specs.Lists.{all, any, keep, count_if, distinct, without}
use Rattle.lists.specs.Counting.{count_map}
use Rattle.lists.specs.Parts.{keep-map, all_map, any-map, without-map}
use Rattle.semantics.specs.Words.{item_word}
use Rattle.semantics.specs.Table.{Table, Rule, rule_at, consumed, product_atoms, begins}
use Rattle.semantics.specs.State.{Entry, State, is_message, is_abort_mark, is_member_mark, owned, state_words, entry_ok, is_own_mark, owner_ok, entries_ok}
use Rattle.semantics.specs.Move.{unless, both, Move, react, commit, abort, nothing, picked, on_ports, owners_at, owners_fit, is_zero, has_id, merged, products}
use Rattle.semantics.specs.Move.{reacted, entries_in, may_abort, takes_part, to_global, freed, ended, allowed, applied}
use Rattle.semantics.specs.Members.{member_count, members_ended}
use Rattle.semantics.specs.declared.Atom.{Atom}
use Rattle.semantics.specs.declared.Sizes.{Sizes}
use Rattle.semantics.specs.declared.Refusal.TheVariants.{WrongPick, WrongOwner, NoTransaction, EndNotAllowed, NoMoreIds, TransactionAborting}

-- an entry and a state without origins; two states with the same `bare_state` differ in origins alone
abbrev pub bare : Entry → Entry
bare e = record { origin = record { maker = 0; index = 0 }; owner = e.owner; kind = e.kind; port = e.port; value = e.value }

abbrev pub bare_state : State → State
bare_state s = record { next = s.next; entries = map bare s.entries }

owners-bare : (es : List Entry) → map (λ e. e.owner) (map bare es) ≡ map (λ e. e.owner) es
owners-bare es = map-map (λ e. e.owner) bare es

values-bare : (es : List Entry) → map (λ e. e.value) (map bare es) ≡ map (λ e. e.value) es
values-bare es = map-map (λ e. e.value) bare es

-- ---- words and tests

pub words-bare : (s : State) → state_words (bare_state s) ≡ state_words s
unfolding state_words
words-bare s = rw (length-map s.entries bare, owners-bare s.entries, map-map (λ e. item_word e.kind e.port e.value) bare s.entries)

pub entries_ok-bare : (z : Sizes) (s : State) → entries_ok z (bare_state s) ≡ entries_ok z s
unfolding entries_ok entry_ok
entries_ok-bare z s = λ k.
    all_map bare (entry_ok z s.next) s.entries k
    && distinct ((ap (map (λ e. e.value)) (keep-map bare is_member_mark s.entries) ∙ values-bare (keep is_member_mark s.entries)) k)
    && owners k
  where
    owners : all (owner_ok (map bare s.entries)) (map bare s.entries) ≡ all (owner_ok s.entries) s.entries
    owners = all_map bare (owner_ok (map bare s.entries)) s.entries
        ∙ (λ k. all (λ e. owned 0 e || any-map bare (is_own_mark e.owner) s.entries k) s.entries)

-- ---- what is allowed

picked-bare : (s : State) (ps : List ℕ) → picked (bare_state s) ps ≡ map bare (picked s ps)
picked-bare s [] = refl
picked-bare s (p ∷ ps) = λ k. get_or-map bare s.entries p nothing k ∷ picked-bare s ps k

on_ports-bare : (ports : List ℕ) (es : List Entry) → on_ports ports (map bare es) ≡ on_ports ports es
on_ports-bare [] [] = refl
on_ports-bare [] (e ∷ es) = refl
on_ports-bare (p ∷ ps) [] = refl
on_ports-bare (p ∷ ps) (e ∷ es) = rw (on_ports-bare ps es)

owners_at-bare : (s : State) (ps : List ℕ) → owners_at (bare_state s) ps ≡ owners_at s ps
owners_at-bare s ps = ap (map (λ e. e.owner)) (picked-bare s ps) ∙ owners-bare (picked s ps)

values_at-bare : (s : State) (ps : List ℕ) → map (λ e. e.value) (picked (bare_state s) ps) ≡ map (λ e. e.value) (picked s ps)
values_at-bare s ps = ap (map (λ e. e.value)) (picked-bare s ps) ∙ values-bare (picked s ps)

abort-bare : (s : State) (b : ℕ) → may_abort b (bare_state s) ≡ may_abort b s
abort-bare s b = ap (any is_abort_mark) (keep-map bare (owned b) s.entries) ∙ any-map bare is_abort_mark (entries_in b s)

part-bare : (s : State) (os : List ℕ) → all (takes_part (bare_state s)) os ≡ all (takes_part s) os
part-bare s os = λ k. all (λ o. is_zero o || not (abort-bare s o k)) os

pub allowed-bare : (t : Table) (s : State) (m : Move) → allowed t (bare_state s) m ≡ allowed t s m
unfolding allowed
allowed-bare t s (react r ps) = λ k.
    both (unless (distinct ps && (ap (on_ports (consumed (rule_at t r))) (picked-bare s ps)
    ∙ on_ports-bare (consumed (rule_at t r)) (picked s ps)) k) WrongPick)
    (both (unless (owners_fit (rule_at t r).class (owners_at-bare s ps k)) WrongOwner)
    (both (unless ((ap (all (takes_part (bare_state s))) (owners_at-bare s ps) ∙ part-bare s (owners_at s ps)) k) TransactionAborting)
    (unless (has_id (rule_at t r) s) NoMoreIds)))
allowed-bare t s (commit b) = λ k.
    both (unless (ltb 0 b && any-map bare (owned b) s.entries k) NoTransaction)
    (unless ((ap (all (λ e. not (is_abort_mark e) && (not (is_message e) || ltb e.port t.sizes.globals))) (keep-map bare (owned b) s.entries)
    ∙ all_map bare (λ e. not (is_abort_mark e) && (not (is_message e) || ltb e.port t.sizes.globals)) (entries_in b s)) k) EndNotAllowed)
allowed-bare t s (abort b) = λ k.
    both (unless (ltb 0 b && any-map bare (owned b) s.entries k) NoTransaction)
    (unless (abort-bare s b k) EndNotAllowed)

-- ---- the members that a move ends

marks-bare : (s : State) (b : ℕ) → member_count b (bare_state s) ≡ member_count b s
marks-bare s b = ap (count_if is_member_mark) (keep-map bare (owned b) s.entries) ∙ count_map bare is_member_mark (entries_in b s)

members-bare : (s : State) (m : Move) → members_ended (bare_state s) m ≡ members_ended s m
members-bare s (react r ps) = refl
members-bare s (commit b) = marks-bare s b
members-bare s (abort b) = marks-bare s b

-- ---- what a move leaves

module _ (R : Rule) (i j : ℕ) (s : State) (ps : List ℕ) where
  products-bare : (q : ℕ) (atoms : List Atom)
      → map bare (products R (bare_state s) (picked (bare_state s) ps) i q atoms) ≡ map bare (products R s (picked s ps) j q atoms)
  products-bare q [] = refl
  products-bare q (a ∷ atoms) = rw (owners_at-bare s ps, values_at-bare s ps, products-bare (suc q) atoms)

  kept-bare : map bare (map (merged (owners_at (bare_state s) ps)) (without ps 0 (map bare s.entries))) ≡ map bare
      (map (merged (owners_at s ps)) (without ps 0 s.entries))
  kept-bare =
      (λ k. map bare (map (merged (owners_at-bare s ps k)) (without-map bare ps 0 s.entries k)))
      ∙ ap (map bare) (map-map (merged (owners_at s ps)) bare (without ps 0 s.entries))
      ∙ map-map bare (λ e. merged (owners_at s ps) (bare e)) (without ps 0 s.entries)
      ∙ sym (map-map bare (merged (owners_at s ps)) (without ps 0 s.entries))

  reacted-bare : bare_state (reacted R i (bare_state s) ps) ≡ bare_state (reacted R j s ps)
  unfolding reacted
  reacted-bare = λ k. record { next = cond (begins R) (suc s.next) s.next; entries = both-parts k }
    where
      both-parts : map bare (map (merged (owners_at (bare_state s) ps)) (without ps 0 (map bare s.entries)) ++ products R (bare_state s)
          (picked (bare_state s) ps) i 0 (product_atoms R))
          ≡ map bare (map (merged (owners_at s ps)) (without ps 0 s.entries) ++ products R s (picked s ps) j 0 (product_atoms R))
      both-parts =
          map-append bare (map (merged (owners_at (bare_state s) ps)) (without ps 0 (map bare s.entries)))
          (products R (bare_state s) (picked (bare_state s) ps) i 0 (product_atoms R))
          ∙ (λ k. kept-bare k ++ products-bare 0 (product_atoms R) k)
          ∙ sym (map-append bare (map (merged (owners_at s ps)) (without ps 0 s.entries)) (products R s (picked s ps) j 0 (product_atoms R)))

-- an end that frees the entries of a kind
module _ (kind b : ℕ) where
  abbrev of_kind : Entry → Bool
  of_kind e = eqb e.kind kind

  abbrev goes_on : Entry → Bool
  goes_on e = not (owned b e) || of_kind e

  freed-bare : (e : Entry) → bare (freed of_kind b (bare e)) ≡ bare (freed of_kind b e)
  freed-bare e = go (owned b e && of_kind e)
    where
      go : (c : Bool) → bare (cond c (to_global (bare e)) (bare e)) ≡ bare (cond c (to_global e) e)
      go true = refl
      go false = refl

  ended-bare : (s : State) → bare_state (ended of_kind b (bare_state s)) ≡ bare_state (ended of_kind b s)
  unfolding ended
  ended-bare s = λ k. record { next = s.next; entries = entries k }
    where
      entries : map bare (map (freed of_kind b) (keep goes_on (map bare s.entries))) ≡ map bare (map (freed of_kind b) (keep goes_on s.entries))
      entries =
          ap (λ (l : List Entry). map bare (map (freed of_kind b) l)) (keep-map bare goes_on s.entries)
          ∙ ap (map bare) (map-map (freed of_kind b) bare (keep goes_on s.entries))
          ∙ map-map bare (λ e. freed of_kind b (bare e)) (keep goes_on s.entries)
          ∙ (λ k. map (λ e. freed-bare e k) (keep goes_on s.entries))
          ∙ sym (map-map bare (freed of_kind b) (keep goes_on s.entries))

pub applied-bare : (t : Table) (i j : ℕ) (s : State) (m : Move) → bare_state (applied t i (bare_state s) m) ≡ bare_state (applied t j s m)
unfolding applied
applied-bare t i j s (react r ps) = reacted-bare (rule_at t r) i j s ps
applied-bare t i j s (commit b) = ended-bare 0 b s
applied-bare t i j s (abort b) = ended-bare 1 b s

-- ---- two states that differ in origins alone

module _ (s s' : State) (same : bare_state s ≡ bare_state s') where
  pub words_same : state_words s ≡ state_words s'
  words_same = sym (words-bare s) ∙ ap state_words same ∙ words-bare s'

  pub entries_ok-same : (z : Sizes) → entries_ok z s ≡ entries_ok z s'
  entries_ok-same z = sym (entries_ok-bare z s) ∙ ap (entries_ok z) same ∙ entries_ok-bare z s'

  pub members_alike : (m : Move) → members_ended s m ≡ members_ended s' m
  members_alike m = sym (members-bare s m) ∙ ap (λ (x : State). members_ended x m) same ∙ members-bare s' m

  pub allowed_same : (t : Table) (m : Move) → allowed t s m ≡ allowed t s' m
  allowed_same t m = sym (allowed-bare t s m) ∙ ap (λ (x : State). allowed t x m) same ∙ allowed-bare t s' m

  pub applied-same : (t : Table) (i j : ℕ) (m : Move) → bare_state (applied t i s m) ≡ bare_state (applied t j s' m)
  applied-same t i j m = sym (applied-bare t 0 i s m) ∙ ap (λ (x : State). bare_state (applied t 0 x m)) same ∙ applied-bare t 0 j s' m
