-- From the verdict on a move in order, and figures that are counted, to its preview.
use Prim.Native.Nat.{ℕ, ◌+◌, ◌-◌, ◌≤◌, ◌<◌}
use mathlib.Core.Bool.{true, cond}
use mathlib.Core.List.{List, [], ◌∷◌}
use mathlib.Core.Path.{◌≡◌, sym, ap, ◌∙◌}
use native.Mathlib.Numerals.{add-one}
use native.Mathlib.Omega.{arith}
use borrow.Author.Tests.{ltb-true, eqb-true, eqb-false}
use lib.Dec.{eqb, ltb}
use lib.ListN.{length, take}
use Rattle.lists.specs.Lists.{least}
use Rattle.lists.specs.Choices.{given_holds, by_bool}
use Rattle.lists.specs.Rows.{length-rows}
use Rattle.semantics.specs.Words.{head_kind, head_number}
use Rattle.semantics.specs.Table.{Table, sizes_of, table_of, rule_at, begins}
use Rattle.semantics.specs.Move.{move_ok, move_of, applied, reacted, ended, stepped_by, move_verdict}
use Rattle.semantics.specs.Members.{member_count, members_ended}
use Rattle.semantics.specs.Preview.{reaction_concerns, concerned, foreseen_in, previewed}
use Rattle.semantics.specs.State as semantics
use Rattle.semantics.specs.declared.Refusal.{Refusal}
use Rattle.semantics.specs.declared.Verdict.{Verdict}
use Rattle.semantics.specs.declared.Verdict.TheVariants.{Allowed, Denied}
use Rattle.semantics.specs.declared.Previewed.{Previewed}
use Rattle.semantics.specs.declared.Previewed.TheVariants.{Accepted, Rejected}
use Rattle.wellformed.specs.Tables.{length-rules}
use Rattle.wellformed.specs.Preservation.{end-kind, rule-number}
use Rattle.wellformed.specs.Picks.{ReactGiven}
use Rattle.rules.specs.declared.decode.Rule.{Rule}
use Rattle.rules.specs.Decode.{Decodes}
use Rattle.state.specs.declared.Extent.{Extent}
use Rattle.state.specs.Working.{row_of, state_in, held}
use Rattle.state.specs.Arrays.{HoldsIn}
use Rattle.state.specs.Lent.{state_from, Columns}
use Rattle.reaction.specs.Decoded.{rule_in, rule-in, decodes-itself, consumes-within}
use Rattle.reaction.specs.Places.{Places, column, places, owners-at}
use Rattle.reaction.specs.Verdict.{react_verdict, verdict-allowed, picks-fit, count_left}
use Rattle.ending.specs.End.{end_verdict}
use Rattle.step.specs.Make.{step-formed}
use Rattle.step.specs.Moves.{IsMove, move-react, move-commit, move-abort, verdict-react, verdict-end, applied-react, members-react, members-end, applied-end}

-- ---- any move

module _ (ceiling : ℕ) (t : Table) (s : semantics.State) (m : List ℕ) (form : move_ok t m ≡ true)
    {v : Verdict} (e : v ≡ move_verdict ceiling t s (move_of t m)) where
  abbrev left : semantics.State
  left = applied t 1 s (move_of t m)

  -- what the verdict makes of it
  decided : {w : Verdict} → v ≡ w
      → foreseen_in (concerned t s (move_of t m)) (members_ended s (move_of t m)) (stepped_by w left) ≡ previewed ceiling t s m
  unfolding previewed
  decided h = rw (step-formed ceiling t 1 s m form, ← e, h)

  pub preview-rejected : {q : Refusal} → v ≡ Denied q → Rejected q ≡ previewed ceiling t s m
  preview-rejected h = decided h

  pub preview-accepted : v ≡ Allowed → {entries next id members : ℕ} → entries ≡ length left.entries → next ≡ left.next
      → id ≡ concerned t s (move_of t m) → members ≡ members_ended s (move_of t m)
      → Accepted (record { entries = entries; next = next; id = id; members = members }) ≡ previewed ceiling t s m
  preview-accepted h a b c d = rw (a, b, c, d) (decided h)

-- the columns are those of a loaded state
pub preview-loaded : (ceiling : ℕ) (t : Table) (m : List ℕ) {os ws gs : List ℕ} {at : Extent} {σ : semantics.State} → HoldsIn (held os ws gs at) σ
    → {p : Previewed} → ((gs : List ℕ) → p ≡ previewed ceiling t (state_from os ws gs at) m) → p ≡ previewed ceiling t σ m
unfolding state_in
preview-loaded ceiling t m {gs = gs} h e = e gs ∙ ap (λ (s : semantics.State). previewed ceiling t s m) h.holds.value

-- ---- a reaction

-- 5: its rule is one of the table's
pub rule-below : (T : List ℕ) (head : ℕ) (picks : List ℕ) → head_kind head ≡ 0 → move_ok (table_of T) (head ∷ picks) ≡ true
    → head_number head < (sizes_of T).rules
rule-below T head picks k form = omega (arith, rule-number (table_of T) (head ∷ picks) form k, length-rules T)

-- a reaction's words in order, with its rule decoded and its verdict asked of lent columns
pub record ReactionAsked (t : Table) (x : Rule) (head : ℕ) (picks : List ℕ) (ceiling : ℕ) (os ws : List ℕ) (at : Extent) (r : Verdict) : Type 0 where
  pub four : length picks ≡ 4
  pub kind : head_kind head ≡ 0
  pub form : move_ok t (head ∷ picks) ≡ true
  pub rule : Decodes x (rule_at t (head_number head))
  pub columns : Columns os ws at.len
  pub verdict : (gs : List ℕ) → r ≡ react_verdict ceiling (rule_in x) (state_from os ws gs at) (take x.consumes picks)

module _ {t : Table} {x : Rule} {head : ℕ} {picks : List ℕ} {ceiling : ℕ} {os ws : List ℕ} {at : Extent} {r : Verdict}
    (g : ReactionAsked t x head picks ceiling os ws at r) where
  decodes : Decodes x (rule_in x)
  decodes = decodes-itself x _ g.rule

  is_move : IsMove t x head picks
  is_move = record { form = g.form; rule = λ k. g.rule }

  abbrev ps : List ℕ
  ps = take x.consumes picks

  abbrev σ : List ℕ → semantics.State
  σ gs = state_from os ws gs at

  verdict-is : (gs : List ℕ) → r ≡ move_verdict ceiling t (σ gs) (move_of t (head ∷ picks))
  verdict-is gs = g.verdict gs ∙ verdict-react ceiling is_move (σ gs) g.kind

  -- 7, 8, 18, 11, 12
  pub reaction-rejected : {q : Refusal} → r ≡ Denied q → (gs : List ℕ) → Rejected q ≡ previewed ceiling t (σ gs) (head ∷ picks)
  reaction-rejected h gs = preview-rejected ceiling t (σ gs) (head ∷ picks) g.form (verdict-is gs) h

  module _ (h : r ≡ Allowed) where
    given : (gs : List ℕ) → ReactGiven (rule_in x) (σ gs) ps
    given gs = (verdict-allowed ceiling (rule_in x) (σ gs) ps (sym (g.verdict gs) ∙ h)).0

    places-in : Places at.len ps
    places-in = places x decodes picks g.four os ws [] at (given []).ports

    -- what the counting of an allowed reaction asks
    pub reaction-counted : (x.consumes ≤ at.len) × (at.len ≤ 1024) × (x.consumes ≤ x.count) × (x.count ≤ 16)
    reaction-counted = (picks-fit x decodes picks g.four os ws [] at (given []), g.columns.fits, consumes-within x decodes, g.rule.few)

    pub reaction-begins : x.begins ≡ true → at.next < 65536
    reaction-begins b = ltb-true at.next 65536 (given_holds (begins (rule_in x)) (ltb at.next 65536) (given []).ids (sym decodes.begins ∙ b))

    pub reaction-picks : (1 ≤ x.consumes) × (x.consumes ≤ 4) × (length os ≡ 1024) × Places 1024 ps
    reaction-picks = (
      g.rule.legal.some,
      g.rule.legal.most,
      g.columns.owners,
      λ p m. let l = places-in p m in let f = g.columns.fits in omega arith,
    )

    next-is : (gs : List ℕ) → (applied t 1 (σ gs) (move_of t (head ∷ picks))).next ≡ cond x.begins (at.next + 1) at.next
    unfolding reacted
    next-is gs = ap (λ (z : semantics.State). z.next) (applied-react is_move 1 (σ gs) g.kind) ∙ rw (sym decodes.begins, add-one at.next)

    concerns : (gs : List ℕ)
        → concerned t (σ gs) (move_of t (head ∷ picks)) ≡ cond x.begins at.next (cond (eqb x.class 0) 0 (least (column os ps)))
    concerns gs =
        ap (concerned t (σ gs)) (move-react is_move g.kind)
        ∙ ap (λ R. reaction_concerns R (σ gs) ps) (sym (rule-in x _ g.rule))
        ∙ rw (sym decodes.begins, owners-at os ws gs at.len ps places-in)

    pub reaction-accepted : {entries next id : ℕ} → entries ≡ at.len - x.consumes + (x.count - x.consumes)
        → next ≡ cond x.begins (at.next + 1) at.next
        → id ≡ cond x.begins at.next (cond (eqb x.class 0) 0 (least (column os ps)))
        → (gs : List ℕ) → Accepted (record { entries = entries; next = next; id = id; members = 0 }) ≡ previewed ceiling t (σ gs) (head ∷ picks)
    reaction-accepted a b c gs =
        preview-accepted ceiling t (σ gs) (head ∷ picks) g.form (verdict-is gs) h
        (a ∙ sym (count_left x decodes picks g.four os ws gs at 1 (given gs))
        ∙ sym (ap (λ (z : semantics.State). length z.entries) (applied-react is_move 1 (σ gs) g.kind)))
        (b ∙ sym (next-is gs)) (c ∙ sym (concerns gs)) (sym (members-react is_move (σ gs) g.kind))

-- ---- an end

end-concerns : (t : Table) (head : ℕ) (picks : List ℕ) → (head_kind head ≡ 0 → ⊥) → (s : semantics.State)
    → concerned t s (move_of t (head ∷ picks)) ≡ head_number head
end-concerns t head picks k s =
    by_bool (eqb (head_kind head) 1)
    (λ e. rw (move-commit t head picks k (eqb-true (head_kind head) 1 e)))
    (λ e. rw (move-abort t head picks k (eqb-false (head_kind head) 1 e)))

-- an end's words in order, with its verdict asked of lent columns
pub record EndAsked (t : Table) (head : ℕ) (picks : List ℕ) (ceiling : ℕ) (os ws : List ℕ) (at : Extent) (r : Verdict) : Type 0 where
  pub kind : head_kind head ≡ 0 → ⊥
  pub form : move_ok t (head ∷ picks) ≡ true
  pub fits : at.len ≤ ceiling
  pub verdict : (gs : List ℕ) → r ≡ end_verdict (head_kind head) t.sizes.globals (head_number head) (state_from os ws gs at)

module _ {t : Table} {head : ℕ} {picks : List ℕ} {ceiling : ℕ} {os ws : List ℕ} {at : Extent} {r : Verdict}
    (g : EndAsked t head picks ceiling os ws at r) where
  abbrev s : List ℕ → semantics.State
  s gs = state_from os ws gs at

  end-verdict-is : (gs : List ℕ) → r ≡ move_verdict ceiling t (s gs) (move_of t (head ∷ picks))
  end-verdict-is gs =
      g.verdict gs ∙ verdict-end ceiling t (s gs) (omega (arith, g.fits, length-rows (row_of os ws gs) 0 at.len)) head picks g.kind

  -- 9, 10
  pub end-rejected : {q : Refusal} → r ≡ Denied q → (gs : List ℕ) → Rejected q ≡ previewed ceiling t (s gs) (head ∷ picks)
  end-rejected h gs = preview-rejected ceiling t (s gs) (head ∷ picks) g.form (end-verdict-is gs) h

  left_is : (gs : List ℕ) → applied t 1 (s gs) (move_of t (head ∷ picks)) ≡ ended (λ e. eqb e.kind (head_kind head - 1)) (head_number head) (s gs)
  left_is gs = applied-end t head picks 1 (s gs) g.kind (end-kind t (head ∷ picks) g.form g.kind)

  pub end-accepted : r ≡ Allowed → {entries id kind members : ℕ} → id ≡ head_number head → kind ≡ head_kind head
      → ((gs : List ℕ) → entries ≡ length (ended (λ e. eqb e.kind (kind - 1)) id (s gs)).entries) → ((gs : List ℕ) → members ≡ member_count id (s gs))
      → (gs : List ℕ) → Accepted (record { entries = entries; next = at.next; id = id; members = members }) ≡ previewed ceiling t (s gs) (head ∷ picks)
  unfolding ended
  end-accepted h i k a n gs =
      preview-accepted ceiling t (s gs) (head ∷ picks) g.form (end-verdict-is gs) h
      (a gs ∙ rw (i, k) (sym (ap (λ (z : semantics.State). length z.entries) (left_is gs))))
      (sym (ap (λ (z : semantics.State). z.next) (left_is gs)))
      (i ∙ sym (end-concerns t head picks g.kind (s gs)))
      (n gs ∙ rw i (sym (members-end t head picks (s gs) g.kind)))
