-- The set of stopped transactions after the end of one.
use Rattle.std.specs.Prelude.{ℕ, Bool, false, ◌&&◌, ◌||◌, cond, List, [], ◌∷◌, ◌≡◌, refl, ltb, eqb}
use Rattle.std.proofs.Math.Bool.{true, not}
use Rattle.std.proofs.Math.Path.{sym, ap}
use Rattle.std.proofs.Common.{◌∙◌, eqb-true, ne_eqb}
use Rattle.std.proofs.lemmas.Bool.{eqb-false, not-true}
use Rattle.lists.specs.Lists.{any, keep}
use Rattle.lists.specs.Choices.{by_bool, and_left, and_right, and_intro}
use Rattle.lists.specs.Counting.{any-weaker}
use Rattle.lists.specs.Tests.{and-right-false, true-or}
use Rattle.lists.specs.Members.{any_some, any-intro}
use Rattle.lists.specs.Each.{any_same}
use Rattle.lists.specs.Found.{any-keep}
use Rattle.lists.specs.Parts.{any-map}
use Rattle.lists.specs.Splits.{All-every}
use Rattle.semantics.specs.Table.{Table}
use Rattle.semantics.specs.State.{Entry, State, is_message, is_compensation, is_abort_mark, owned}
use Rattle.semantics.specs.Move.{commit, abort, unless, is_open, may_commit, may_abort, takes_part, to_global, freed, ended, allowed, applied}
use Rattle.semantics.specs.declared.Refusal.TheVariants.{NoTransaction, EndNotAllowed}
use Rattle.semantics.specs.declared.Verdict.TheVariants.{Allowed}
use Rattle.wellformed.specs.Verdicts.{unless_allowed, both-allowed}
use Rattle.idset.specs.IdSet.{has, Removed}
use Rattle.transactions.specs.Sets.{stops, blocks, commit-unblocked, abort-marked}
use Rattle.stopped.specs.Stopped.{StoppedIn, unstopped}
use Rattle.stopped.specs.Reacted.{stops_of}

-- what b owns goes or is freed, and what is freed is no abort mark; what others own stays
end-stops : (p : Entry → Bool) (b v : ℕ) (e : Entry) → (not (owned b e) || p e) && stops_of v (freed p b e) ≡ not (eqb v b) && stops_of v e
end-stops p b v e = by_bool (owned b e) own other
  where
    none : (c : Bool) → c && stops_of v (cond c (to_global e) e) ≡ false
    none true = and-right-false (eqb 0 v) refl
    none false = refl

    own : owned b e ≡ true → (not (owned b e) || p e) && stops_of v (freed p b e) ≡ not (eqb v b) && stops_of v e
    own o =
        let q = eqb-true e.owner b o in
        rw o (none (p e) ∙ sym (by_bool (eqb v b) (λ k. rw k) (λ k. let n = eqb-false v b k in rw (k, ne_eqb e.owner v (λ l. n (sym l ∙ q))))))

    other : owned b e ≡ false → (not (owned b e) || p e) && stops_of v (freed p b e) ≡ not (eqb v b) && stops_of v e
    other o = rw o (by_bool (eqb v b) (λ k. rw (k, eqb-true v b k, o)) (λ k. rw k))

any-under : {A : Type 0} (c : Bool) (p : A → Bool) (xs : List A) → any (λ x. c && p x) xs ≡ c && any p xs
any-under true p xs = refl
any-under false p [] = refl
any-under false p (x ∷ xs) = any-under false p xs

-- the abort marks of v, after the end of b
ended-stops : (p : Entry → Bool) (b : ℕ) (s : State) (v : ℕ) → any (stops_of v) (ended p b s).entries ≡ not (eqb v b) && any (stops_of v) s.entries
unfolding ended
ended-stops p b s v =
    let q : Entry → Bool = λ e. not (owned b e) || p e in
    any-map (freed p b) (stops_of v) (keep q s.entries)
    ∙ sym (any-keep (λ e. stops_of v (freed p b e)) q s.entries)
    ∙ any_same (λ e. q e && stops_of v (freed p b e)) (λ e. not (eqb v b) && stops_of v e) s.entries
    (All-every (λ e. q e && stops_of v (freed p b e) ≡ not (eqb v b) && stops_of v e) s.entries (λ e m. end-stops p b v e))
    ∙ any-under (not (eqb v b)) (stops_of v) s.entries

-- others take part after it if they did before
pub ended-part : (p : Entry → Bool) (b : ℕ) (s : State) (v : ℕ) → eqb v b ≡ false → takes_part (ended p b s) v ≡ takes_part s v
ended-part p b s v n =
    let same : any (stops_of v) (ended p b s).entries ≡ any (stops_of v) s.entries = ended-stops p b s v ∙ rw n in
    sym (unstopped (ended p b s) v) ∙ ap not same ∙ unstopped s v

module _ (t : Table) (s : State) (b : ℕ) {stopped : List ℕ} (are : StoppedIn s.entries stopped) where
  -- a transaction that is committed has no abort mark, so that the set stays
  pub commit-stopped : allowed t s (commit b) ≡ Allowed → (i : ℕ) → StoppedIn (applied t i s (commit b)).entries stopped
  unfolding allowed applied
  commit-stopped h i = record { size = are.size; are = λ v. are.are v ∙ sym (ended-stops is_message b s v ∙ same v) }
    where
      may : may_commit t b s ≡ true
      may = unless_allowed (may_commit t b s) EndNotAllowed
          (both-allowed (unless (is_open b s) NoTransaction) (unless (may_commit t b s) EndNotAllowed) h).1

      unmarked : any (stops_of b) s.entries ≡ false
      unmarked = any-weaker (stops_of b) (λ e. owned b e && blocks t.sizes.globals e) (λ e k.
          and_intro (and_left (owned b e) (stops e) k)
          (true-or (is_message e && not (ltb e.port t.sizes.globals)) (and_right (ltb 0 e.owner) (is_abort_mark e) (and_right (owned b e) (stops e) k))))
          s.entries (not-true (any (λ e. owned b e && blocks t.sizes.globals e) s.entries) (sym (commit-unblocked t b s) ∙ may))

      same : (v : ℕ) → not (eqb v b) && any (stops_of v) s.entries ≡ any (stops_of v) s.entries
      same v = by_bool (eqb v b) (λ k. rw (k, eqb-true v b k, unmarked)) (λ k. rw k)

  -- one that is aborted is in the set ..
  pub abort-stopped : allowed t s (abort b) ≡ Allowed → has stopped b ≡ true
  unfolding allowed
  abort-stopped h =
      let (open_is, may-is) = both-allowed (unless (is_open b s) NoTransaction) (unless (may_abort b s) EndNotAllowed) h in
      let may = sym (abort-marked b s) ∙ unless_allowed (may_abort b s) EndNotAllowed may-is in
      let high = and_left (ltb 0 b) (any (owned b) s.entries) (unless_allowed (is_open b s) NoTransaction open_is) in
      let (e, m, k) = any_some (λ e. owned b e && is_abort_mark e) s.entries may in
      let own = and_left (owned b e) (is_abort_mark e) k in
      are.are b ∙ any-intro (stops_of b) s.entries e m (and_intro own
      (and_intro (ap (ltb 0) (eqb-true e.owner b own) ∙ high) (and_right (owned b e) (is_abort_mark e) k)))

  -- .. and is taken out of it
  pub abort-removes : {left : List ℕ} → Removed b stopped left → (i : ℕ) → StoppedIn (applied t i s (abort b)).entries left
  unfolding applied
  abort-removes gone i = record {
    size = gone.size;
    are = λ v. gone.holds v ∙ ap (λ (c : Bool). not (eqb v b) && c) (are.are v) ∙ sym (ended-stops is_compensation b s v);
  }
