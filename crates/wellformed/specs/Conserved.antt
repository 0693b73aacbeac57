-- Member marks are neither lost nor invented: a begin adds one, an end removes those that it counts (02, M-120), and no other move changes their number.
use Rattle.std.specs.Prelude.{ℕ, zero, suc, ◌+◌, ◌≤◌, Bool, true, false, ◌&&◌, ◌||◌, not, cond, leb, length, replicate}
use mathlib.Core.List.{List, [], ◌∷◌}
use Rattle.std.proofs.Math.Path.{◌≡◌, refl, ap}
use Rattle.std.proofs.Common.{sym, ◌∙◌, arith, length-append}
use borrow.Author.Tests.{eqb-true, ne_eqb}
use Rattle.std.proofs.lemmas.List.{length-map, length-replicate}
use Rattle.lists.specs.Lists.{keep, one_if, count_if}
use Rattle.lists.specs.Choices.{by_bool}
use Rattle.lists.specs.Counting.{count-le, length-keep, count_map, any-count}
use Rattle.lists.specs.Totals.{count-keep, count-sum}
use Rattle.lists.specs.TupleCount.{keep-le}
use Rattle.semantics.specs.Table.{Table, Rule, has_role, rule_at, product_atoms, begins}
use Rattle.semantics.specs.State.{Entry, State, is_message, is_compensation, is_member_mark, owned, mark_values}
use Rattle.semantics.specs.Move.{Move, react, commit, abort, move_of, entries_in, freed, to_global, reacted, ended, allowed, applied, Stepped, to, refused, step_words}
use Rattle.semantics.specs.Log.{completed, onward, run}
use Rattle.semantics.specs.Members.{member_count, members_ended, add_members, members_along}
use Rattle.semantics.specs.Serial.{is_begin}
use Rattle.semantics.specs.declared.Atom.{Atom}
use Rattle.semantics.specs.declared.Verdict.TheVariants.{Allowed}
use Rattle.wellformed.specs.Rules.{TableRight}
use Rattle.wellformed.specs.Picks.{ReactGiven, react-given}
use Rattle.wellformed.specs.Products.{marks-added}
use Rattle.wellformed.specs.Ends.{stays}
use Rattle.wellformed.specs.Preservation.{RuleKnown, rule-known}
use Rattle.wellformed.specs.Step.{completed-same, accepted-move}

-- the member marks of a state
abbrev pub marks : State → ℕ
marks s = count_if is_member_mark s.entries

-- no more than there are entries
pub members-few : (s : State) (m : Move) → members_ended s m ≤ length s.entries
members-few s (react r ps) = omega arith
members-few s (commit b) = omega (arith, count-le is_member_mark (entries_in b s), keep-le (owned b) s.entries)
members-few s (abort b) = omega (arith, count-le is_member_mark (entries_in b s), keep-le (owned b) s.entries)

-- ---- an end

-- a mark of another's stays, one of its own goes, and what is freed was none
module _ (p : Entry → Bool) (b : ℕ) (unmarked : (e : Entry) → p e ≡ true → e.kind ≡ 3 → ⊥) where
  mark_of : (e : Entry) → one_if (is_member_mark e)
      ≡ one_if (stays p b e && is_member_mark (freed p b e)) + one_if (owned b e && is_member_mark e)
  mark_of e = go (owned b e) (p e) (λ h. ne_eqb e.kind 3 (unmarked e h))
    where
      go : (o q : Bool) → (q ≡ true → is_member_mark e ≡ false)
          → one_if (is_member_mark e) ≡ one_if ((not o || q) && is_member_mark (cond (o && q) (to_global e) e)) + one_if (o && is_member_mark e)
      go true true h = rw (h refl)
      go true false h = omega arith
      go false q h = omega arith

  ended-marks : (s : State) → marks s ≡ marks (ended p b s) + member_count b s
  unfolding ended
  ended-marks s =
      count-sum is_member_mark (λ e. stays p b e && is_member_mark (freed p b e)) (λ e. owned b e && is_member_mark e) mark_of s.entries
      ∙ ap (λ (n : ℕ). n + count_if (λ e. owned b e && is_member_mark e) s.entries)
      (sym (count_map (freed p b) is_member_mark (keep (stays p b) s.entries) ∙ count-keep (λ e. is_member_mark (freed p b e)) (stays p b) s.entries))
      ∙ ap (λ (n : ℕ). marks (ended p b s) + n) (sym (count-keep is_member_mark (owned b) s.entries))

-- ---- a reaction

-- a rule has at most one begin
begin-atoms : (R : Rule) → count_if (has_role 2) R.atoms ≤ 1 → count_if (has_role 2) (product_atoms R) ≡ one_if (begins R)
begin-atoms R few =
    count-keep (has_role 2) (λ a. not (has_role 0 a)) R.atoms
    ∙ (λ k. count_if (λ a. only a k) R.atoms)
    ∙ one (count_if (has_role 2) R.atoms) few
    ∙ sym (ap one_if (any-count (has_role 2) R.atoms))
  where
    only : (a : Atom) → not (has_role 0 a) && has_role 2 a ≡ has_role 2 a
    only a = by_bool (has_role 0 a) (λ h. let e = eqb-true a.role 0 h in rw (h, e)) (λ h. rw h)

    one : (n : ℕ) → n ≤ 1 → n ≡ one_if (leb 1 n)
    one zero h = refl
    one (suc zero) h = refl
    one (suc (suc n)) h = absurd (omega arith)

marks-values : (es : List Entry) → length (mark_values es) ≡ count_if is_member_mark es
marks-values es = length-map (keep is_member_mark es) (λ e. e.value) ∙ length-keep is_member_mark es

reacted-marks : (R : Rule) → count_if (has_role 2) R.atoms ≤ 1 → (i : ℕ) (s : State) (ps : List ℕ) → ReactGiven R s ps
    → marks (reacted R i s ps) ≡ marks s + one_if (begins R)
unfolding reacted
reacted-marks R few i s ps g =
    let n = count_if (has_role 2) (product_atoms R) in
    sym (marks-values (reacted R i s ps).entries)
    ∙ ap length (marks-added g i)
    ∙ omega (arith, length-append (mark_values s.entries) (replicate n s.next), length-replicate n s.next, marks-values s.entries, begin-atoms R few)

-- ---- a move, and a run

module _ {t : Table} (right : TableRight t) where
  pub applied-marks : (i : ℕ) (s : State) (m : Move) → RuleKnown t m → allowed t s m ≡ Allowed
      → marks s + one_if (is_begin t m) ≡ marks (applied t i s m) + members_ended s m
  unfolding allowed applied
  applied-marks i s (react r ps) k h =
      omega (arith, reacted-marks (rule_at t r) (right.rule r k).begins-le i s ps (react-given (rule_at t r) s ps h))
  applied-marks i s (commit b) k h = omega (arith, ended-marks is_message b (λ e p q. let l = eqb-true e.kind 0 p in omega arith) s)
  applied-marks i s (abort b) k h = omega (arith, ended-marks is_compensation b (λ e p q. let l = eqb-true e.kind 1 p in omega arith) s)

  -- marks at the start and begins are marks at the end and members ended
  pub run-marks : (ceiling i : ℕ) (s : State) (ms : List (List ℕ)) (e : State) → run ceiling t i s ms ≡ completed e
      → marks s + count_if (λ m. is_begin t (move_of t m)) ms ≡ marks e + members_along ceiling t i s ms
  unfolding run members_along
  run-marks ceiling i s [] e h = ap (λ (x : State). marks x + 0) (completed-same h)
  run-marks ceiling i s (m ∷ ms) e h = go (step_words ceiling t (suc i) s m) refl (λ x. run-marks ceiling (suc i) x ms e) h
    where
      go : (x : Stepped) → step_words ceiling t (suc i) s m ≡ x
          → ((x : State) → run ceiling t (suc i) x ms ≡ completed e
          → marks x + count_if (λ m. is_begin t (move_of t m)) ms ≡ marks e + members_along ceiling t (suc i) x ms)
          → onward x i (λ x. run ceiling t (suc i) x ms) ≡ completed e
          → marks s + (one_if (is_begin t (move_of t m)) + count_if (λ m. is_begin t (move_of t m)) ms)
          ≡ marks e + add_members x (members_ended s (move_of t m)) (λ x. members_along ceiling t (suc i) x ms)
      go (to x) q ih k =
          let a = accepted-move ceiling t (suc i) s m x q in
          let one = applied-marks (suc i) s (move_of t m) (rule-known t m a.form) a.allows in
          let one = rw a.result at one in
          omega (arith, one, ih x k)
      go (refused r) q ih k = absurd (let z : ◌≡◌ {A = ℕ} 0 1 = cc in omega arith)
