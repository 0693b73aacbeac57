-- One legal move of a log: its picks are places, and what is recorded of it is its act.
use Prim.Native.Nat.{ℕ, zero, suc, ◌≤◌, ◌<◌}
use mathlib.Core.Bool.{Bool, true, false, ◌&&◌, ◌||◌, cond, true≢false, false≢true}
use mathlib.Core.List.{List, [], ◌∷◌, map}
use mathlib.Core.Logic.{inl, inr}
use mathlib.Core.Path.{◌≡◌, refl, sym, ap, subst, ◌∙◌}
use native.Mathlib.Omega.{arith}
use borrow.Author.Tests.{eqb-true, eqb-false, eq-eqb, ne_eqb, ltb-true, le-ltb}
use lib.Dec.{eqb, ltb}
use lib.ListN.{length, get_or, take}
use Rattle.lists.specs.Lists.{any, is_empty, is_in, keep}
use Rattle.lists.specs.Choices.{by_bool, and_intro, and_left, and_right, is_false}
use Rattle.lists.specs.Members.{Among, any_some, any-intro, among-keep, keep-among, among-map, map-among, get_or-among, is_in-among, among-is_in}
use Rattle.lists.specs.Each.{empty-nil}
use Rattle.lists.specs.Rows.{rows, length-rows, get_d_rows}
use Rattle.semantics.specs.Words.{head_kind, head_number}
use Rattle.semantics.specs.Table.{Table, Rule, rule_at}
use Rattle.semantics.specs.State as semantics
use Rattle.semantics.specs.State.{Origin, Entry, is_member_mark, owned}
use Rattle.semantics.specs.Move.{Move, react, commit, abort, move_ok, move_of, allowed, applied, reacted, ended, is_open, picks_used, nothing, entry_at, picked, owners_at}
use Rattle.semantics.specs.Serial.{origins_of, same_origin, marks_in, members_of, picks_of, begins_emit, is_end}
use Rattle.semantics.specs.declared.Refusal.TheVariants.{NoTransaction}
use Rattle.semantics.specs.declared.Verdict.TheVariants.{Allowed}
use Rattle.wellformed.specs.Verdicts.{both-allowed, unless_allowed}
use Rattle.wellformed.specs.Rules.{RuleRight, TableRight}
use Rattle.wellformed.specs.Entries.{Sound}
use Rattle.wellformed.specs.Picks.{ReactGiven, react-given, picks-length, pick-lt, owners-zero, owners-positive}
use Rattle.wellformed.specs.Preservation.{rule-number, end-id}
use Rattle.cells.specs.Rules.{Shape, plain, begin, inner}
use Rattle.cells.specs.Shapes.{table-shaped}
use Rattle.state.specs.declared.State.{State}
use Rattle.words.specs.Origin.{maker_in, index_in, origin_of, first_product, origin-of-first}
use Rattle.state.specs.Working.{row_of, entry_in, state_in}
use Rattle.recording.specs.Marks.{is_mark_of, marks_of, OneOf, any_made_at}
use Rattle.recording.specs.Recordings.{words_at, concerned_by, mark_by, marks_ended}
use Rattle.recording.proofs.Tracking.{Tracked, no-mark, own-mark}

-- ---- one of some origins is one of more

pub one-of-more : {w : ℕ} (xs ys : List Origin) (x : Origin) → Among x xs → ((o : Origin) → Among o xs → Among o ys) → OneOf w xs → OneOf w ys
one-of-more {w} xs ys x n wider h =
    let (o, m, e) = any_some (same_origin (origin_of w)) xs (h.some (is_false (is_empty xs) (λ k. subst (Among x) (empty-nil xs k) n))) in
    record {
      some = λ k. any-intro (same_origin (origin_of w)) ys o (wider o m) e;
      none = λ k. absurd (subst (Among o) (empty-nil ys k) (wider o m));
    }

marks-wider : (id : ℕ) (bs : List ℕ) (s : semantics.State) → Among id bs → (o : Origin) → Among o (marks_of id s.entries) → Among o (marks_in bs s)
marks-wider id bs s k o m =
    let (e, n, q) = among-map (λ e. e.origin) (keep (is_mark_of id) s.entries) o m in
    let (l, h) = among-keep (is_mark_of id) s.entries e n in
    let mark = and_left (is_member_mark e) (is_in e.owner (id ∷ [])) h in
    let mine : e.owner ≡ id = only e.owner (is_in-among e.owner (id ∷ []) (and_right (is_member_mark e) (is_in e.owner (id ∷ [])) h)) in
    let p : Entry → Bool = λ e. is_member_mark e && is_in e.owner bs in
    subst (λ (x : Origin). Among x (marks_in bs s)) (sym q)
    (map-among (λ e. e.origin) (keep p s.entries) e (keep-among p s.entries e l (and_intro mark (rw mine (among-is_in id bs k)))))
  where
    only : (n : ℕ) → Among n (id ∷ []) → n ≡ id
    only n (inl e) = e
    only n (inr m) = absurd m

-- ---- a legal move

-- a move in words that a well-formed state allows, under an accepted table in which no begin emits
pub record Legal (t : Table) (s : semantics.State) (head : ℕ) (picks : List ℕ) : Type 0 where
  pub form : move_ok t (head ∷ picks) ≡ true
  pub allows : allowed t s (move_of t (head ∷ picks)) ≡ Allowed
  pub table : TableRight t
  pub sound : Sound t.sizes s
  pub quiet : begins_emit t ≡ false

module _ (t : Table) (head : ℕ) (picks : List ℕ) where
  is-react : head_kind head ≡ 0 → move_of t (head ∷ picks) ≡ react (head_number head) (take (picks_used t head) picks)
  unfolding move_of
  is-react k = rw (eq-eqb (head_kind head) 0 k)

  -- what holds of both ends holds of an end
  by_end : (P : Move → Type 0) → P (commit (head_number head)) → P (abort (head_number head)) → (head_kind head ≡ 0 → ⊥) → P (move_of t (head ∷ picks))
  unfolding move_of
  by_end P c a k = rw (ne_eqb (head_kind head) 0 k) (by_bool (eqb (head_kind head) 1) (λ e. rw e c) (λ e. rw e a))

module _ {t : Table} {s : semantics.State} {head : ℕ} {picks : List ℕ} (g : Legal t s head picks) where
  module _ (k : head_kind head ≡ 0) where
    abbrev rule : Rule
    rule = rule_at t (head_number head)

    abbrev used : List ℕ
    used = take (picks_used t head) picks

    reacts : ReactGiven rule s used
    unfolding allowed
    reacts = react-given rule s used (rw (is-react t head picks k) at g.allows)

    right : RuleRight t.sizes rule
    right = g.table.rule (head_number head) (rule-number t (head ∷ picks) g.form k)

    shape : Shape rule
    shape = table-shaped t g.table g.quiet (head_number head)

    some-used : 1 ≤ length used
    some-used = omega (arith, picks-length reacts, right.consumes-some)

    -- the first pick is one of those used
    first-used : Among (get_or picks 0 0) used
    first-used = go (picks_used t head) picks some-used
      where
        go : (n : ℕ) (ps : List ℕ) → 1 ≤ length (take n ps) → Among (get_or ps 0 0) (take n ps)
        go zero ps h = absurd (omega arith)
        go (suc n) [] h = absurd (omega arith)
        go (suc n) (p ∷ ps) h = inl refl

    abbrev first_entry : Entry
    first_entry = entry_at s.entries (get_or picks 0 0)

    pub first-lt : get_or picks 0 0 < length s.entries
    first-lt = pick-lt reacts (get_or picks 0 0) first-used

    first-among : Among first_entry s.entries
    first-among = get_or-among nothing s.entries (get_or picks 0 0) first-lt

    first-owner : Among first_entry.owner (owners_at s used)
    first-owner = map-among (λ e. e.owner) (picked s used) first_entry (map-among (entry_at s.entries) used (get_or picks 0 0) first-used)

  used-none : (head_kind head ≡ 0 → ⊥) → picks_used t head ≡ 0
  used-none k = rw (ne_eqb (head_kind head) 0 k)

  pub used-few : picks_used t head ≤ 4
  used-few = by_bool (eqb (head_kind head) 0)
      (λ e. let k = eqb-true (head_kind head) 0 e in rw e (right k).consumes-le)
      (λ e. let k = used-none (eqb-false (head_kind head) 0 e) in omega arith)

  -- ---- the member noted

  module _ {first : ℕ} {begun : List ℕ} {i : ℕ} (tracked : Tracked first begun i s) where
    -- an end's transaction owns something
    open-mark : (b : ℕ) → is_open b s ≡ true → OneOf (mark_by begun first b) (marks_of b s.entries)
    open-mark b h =
        let (e, m, o) = any_some (owned b) s.entries (and_right (ltb 0 b) (any (owned b) s.entries) h) in
        let q = eqb-true e.owner b o in
        subst (λ (id : ℕ). OneOf (mark_by begun first id) (marks_of id s.entries)) q
        (own-mark tracked g.sound e m (λ z. let l = ltb-true 0 b (and_left (ltb 0 b) (any (owned b) s.entries) h) in omega arith)).2

    -- w at a move that leaves the next id as it was, else the mark of a begin
    abbrev Noted : ℕ → Move → Type 0
    Noted id m = OneOf (cond (eqb s.next (applied t (suc i) s m).next) (mark_by begun first id) (first_product i)) (members_of t i s m)

    member-end : (head_kind head ≡ 0 → ⊥) → Noted (head_number head) (move_of t (head ∷ picks))
    unfolding allowed applied ended
    member-end k = by_end t head picks (λ m. allowed t s m ≡ Allowed → Noted (head_number head) m)
        (λ h. rw (eq-eqb s.next s.next refl) (open-mark (head_number head)
        (unless_allowed (is_open (head_number head) s) NoTransaction (both-allowed _ _ h).0)))
        (λ h. rw (eq-eqb s.next s.next refl) (open-mark (head_number head)
        (unless_allowed (is_open (head_number head) s) NoTransaction (both-allowed _ _ h).0)))
        k g.allows

    member-react : head_kind head ≡ 0 → Noted (entry_at s.entries (get_or picks 0 0)).owner (move_of t (head ∷ picks))
    unfolding applied reacted
    member-react k = rw (is-react t head picks k) (go (shape k))
      where
        go : Shape (rule k) → Noted (first_entry k).owner (react (head_number head) (used k))
        go (plain c b h) =
            rw (
              b,
              eq-eqb s.next s.next refl,
              eq-eqb (rule k).class 0 c,
              owners-zero (reacts k) c (first_entry k).owner (first-owner k),
              no-mark tracked,
            )
            (record { some = λ q. absurd (true≢false q); none = λ q. refl })
        go (begin c b h m rest q w z) =
            let maker : maker_in (first_product i) ≡ suc i = ap (λ (o : Origin). o.maker) (origin-of-first i) in
            let index : index_in (first_product i) ≡ 0 = ap (λ (o : Origin). o.index) (origin-of-first i) in
            rw (b, h, ne_eqb s.next (suc s.next) (λ q. omega arith))
            (record { some = λ q. rw (maker, index, eq-eqb (suc i) (suc i) refl, eq-eqb 0 0 refl); none = λ q. absurd (false≢true q) })
        go (inner c b h z) =
            let id = (first_entry k).owner in
            let positive = owners-positive (reacts k) (eqb-false (rule k).class 0 c) id (first-owner k) in
            let (o, m, one) = own-mark tracked g.sound (first_entry k) (first-among k) (λ q. omega arith) in
            rw (b, eq-eqb s.next s.next refl, c)
            (one-of-more (marks_of id s.entries) (marks_in (owners_at s (used k)) s) o m (marks-wider id (owners_at s (used k)) s (first-owner k)) one)

row_at : (os ws gs : List ℕ) (n p : ℕ) → p < n → entry_at (rows (row_of os ws gs) 0 n) p ≡ row_of os ws gs p
row_at os ws gs n p l = get_d_rows nothing (row_of os ws gs) 0 n p l ∙ ap (row_of os ws gs) (omega arith)

-- ---- in lent columns

module _ (s : State) {t : Table} {head : ℕ} {picks : List ℕ} (g : Legal t (state_in s) head picks) where
  pub member-noted : {first : ℕ} {begun : List ℕ} {i : ℕ} → Tracked first begun i (state_in s)
      → OneOf (cond (eqb s.next (applied t (suc i) (state_in s) (move_of t (head ∷ picks))).next) (mark_by begun first (concerned_by s.owners head picks))
      (first_product i)) (members_of t i (state_in s) (move_of t (head ∷ picks)))
  unfolding state_in
  member-noted {first} {begun} {i} tracked = by_bool (eqb (head_kind head) 0)
      (λ e. let k = eqb-true (head_kind head) 0 e in
      let l : get_or picks 0 0 < s.len = omega (arith, first-lt g k, length-rows (entry_in s) 0 s.len) in
      let owner : (entry_at (state_in s).entries (get_or picks 0 0)).owner ≡ get_or s.owners (get_or picks 0 0) 0 = ap (λ (x : Entry). x.owner)
      (row_at s.owners s.items s.origins s.len (get_or picks 0 0) l) in
      subst (λ (id : ℕ). Noted g tracked id (move_of t (head ∷ picks))) (owner ∙ rw e) (member-react g tracked k))
      (λ e. subst (λ (id : ℕ). Noted g tracked id (move_of t (head ∷ picks))) (rw e) (member-end g tracked (eqb-false (head_kind head) 0 e)))

  pub picks-origins : picks_of (state_in s) (move_of t (head ∷ picks)) ≡ map origin_of (words_at s.origins (take (picks_used t head) picks))
  unfolding state_in
  picks-origins = by_bool (eqb (head_kind head) 0)
      (λ e. let k = eqb-true (head_kind head) 0 e in rw (is-react t head picks k) (go (used g k) (λ p l. pick-lt (reacts g k) p l)))
      (λ e. let k = eqb-false (head_kind head) 0 e in rw (used-none g k) (by_end t head picks (λ m. picks_of (state_in s) m ≡ []) refl refl k))
    where
      go : (ps : List ℕ) → ((p : ℕ) → Among p ps → p < length (rows (entry_in s) 0 s.len))
          → origins_of (picked (state_in s) ps) ≡ map origin_of (words_at s.origins ps)
      go [] f = refl
      go (p ∷ ps) f =
          let l : p < s.len = omega (arith, f p (inl refl), length-rows (entry_in s) 0 s.len) in
          rw (row_at s.owners s.items s.origins s.len p l, go ps (λ q k. f q (inr k)))

-- an end in order has an id for its number
end-narrow : (t : Table) (head : ℕ) (picks : List ℕ) → move_ok t (head ∷ picks) ≡ true
    → eqb (head_kind head) 0 || ltb 65535 (head_number head) ≡ eqb (head_kind head) 0
end-narrow t head picks form =
    by_bool (eqb (head_kind head) 0) (λ e. rw e)
    (λ e. rw (e, le-ltb 65535 (head_number head) (end-id t (head ∷ picks) form (eqb-false (head_kind head) 0 e))))

pub ends-marks : (t : Table) (i : ℕ) (s : semantics.State) (head : ℕ) (picks : List ℕ) → move_ok t (head ∷ picks) ≡ true → (p : ℕ)
    → is_end (move_of t (head ∷ picks)) && any_made_at p (members_of t i s (move_of t (head ∷ picks))) ≡ any_made_at p (marks_ended head s.entries)
unfolding move_of
ends-marks t i s head picks form p = rw (end-narrow t head picks form) (go (eqb (head_kind head) 0) (eqb (head_kind head) 1))
  where
    go : (a b : Bool) → is_end (cond a (react (head_number head) (take (picks_used t head) picks))
        (cond b (commit (head_number head)) (abort (head_number head))))
        && any_made_at p (members_of t i s (cond a (react (head_number head) (take (picks_used t head) picks))
        (cond b (commit (head_number head)) (abort (head_number head)))))
        ≡ any_made_at p (cond a [] (marks_of (head_number head) s.entries))
    go true b = refl
    go false true = refl
    go false false = refl
