-- From the tests of a move in words to the step that it makes in lent columns.
use Prim.Native.Nat.{ℕ, ◌-◌, ◌≤◌, ◌<◌}
use mathlib.Core.Path.{◌≡◌, refl, sym, ap, ◌∙◌}
use mathlib.Core.Bool.{Bool, true}
use mathlib.Core.List.{List, ◌∷◌}
use native.Mathlib.Omega.{arith}
use lib.Dec.{eqb}
use lib.ListN.{length, take, drop}
use Rattle.lists.specs.Lists.{all}
use Rattle.lists.specs.Rows.{length-rows}
use Rattle.semantics.specs.Words.{head_kind, head_number}
use Rattle.semantics.specs.Table.{Table, sizes_of, table_of, rule_at}
use Rattle.semantics.specs.Move.{is_zero, move_ok, move_of, reacted, ended, move_verdict}
use Rattle.semantics.specs.Members.{member_count}
use Rattle.semantics.specs.Answers.{table_verdict}
use Rattle.semantics.specs.declared.Refusal.{Refusal}
use Rattle.semantics.specs.declared.Verdict.{Verdict}
use Rattle.semantics.specs.declared.Verdict.TheVariants.{Allowed, Denied}
use Rattle.wellformed.specs.Preservation.{end-kind, end-id}
use Rattle.wellformed.specs.Picks.{ReactGiven}
use Rattle.rules.specs.declared.decode.Rule.{Rule}
use Rattle.rules.specs.Decode.{Decodes}
use Rattle.state.specs.declared.Extent.{Extent}
use Rattle.state.specs.Working.{state_in, held, row_of}
use Rattle.state.specs.Arrays.{UnmarkedTo, HoldsIn}
use Rattle.reaction.specs.Decoded.{rule_in, decodes-itself}
use Rattle.reaction.specs.Places.{count-picks}
use Rattle.state.specs.Lent.{state_from}
use Rattle.reaction.specs.Verdict.{react_verdict, verdict-allowed}
use Rattle.ending.specs.End.{end_verdict}
use Rattle.words.specs.Origin.{Maker}
use Rattle.products.specs.Narrow.{rule-ready}
use Rattle.products.specs.React.{Permitted}
use Rattle.step.specs.declared.make.Made.{Made}
use Rattle.step.specs.Moves.{IsMove, end_form, form-end, form-rule, verdict-react, verdict-end, applied-react, members-react, members-end, applied-end}
use Rattle.step.specs.Bounds.{verdict-higher}
use Rattle.step.specs.Looking.{looked_to, reacted-looked, ended-looked}
use Rattle.step.specs.Make.{Workable, MadeAs, made-refused, made-allowed}

-- ---- a reaction

-- a reaction's words and its rule, decoded
pub record Chosen (T : List ℕ) (x : Rule) (head : ℕ) (picks : List ℕ) : Type 0 where
  pub table : table_verdict T ≡ Allowed
  pub four : length picks ≡ 4
  pub kind : head_kind head ≡ 0
  pub below : head_number head < (sizes_of T).rules
  pub rule : Decodes x (rule_at (table_of T) (head_number head))

module _ {T : List ℕ} {x : Rule} {head : ℕ} {picks : List ℕ} (g : Chosen T x head picks) where
  -- 5: the unused picks
  pub reaction-form : {b : Bool} → b ≡ all is_zero (drop x.consumes picks) → b ≡ move_ok (table_of T) (head ∷ picks)
  reaction-form e = e ∙ ap (λ (n : ℕ). all is_zero (drop n picks)) g.rule.consumes ∙ form-rule T refl head picks g.four g.kind g.below

  module _ (form : move_ok (table_of T) (head ∷ picks) ≡ true) where
    is_move : IsMove (table_of T) x head picks
    is_move = record { form = form; rule = λ k. g.rule }

    module _ {ceiling : ℕ} {os ws gs : List ℕ} {at : Extent} (w : Workable (held os ws gs at) ceiling) {r : Verdict}
        (e : r ≡ react_verdict ceiling (rule_in x) (state_from os ws gs at) (take x.consumes picks)) where
      verdict-is : r ≡ move_verdict ceiling (table_of T) (state_in (held os ws gs at)) (move_of (table_of T) (head ∷ picks))
      unfolding state_in
      verdict-is = e ∙ verdict-react ceiling is_move (state_from os ws gs at) g.kind

      pub reaction-refused : (i : ℕ) {made : Made} {q : Refusal} → made.verdict ≡ Denied q → made.members ≡ 0 → r ≡ Denied q
          → MadeAs made ceiling (table_of T) i (head ∷ picks) (held os ws gs at) (held os ws gs at)
      reaction-refused i v n h = made-refused w form v n (sym verdict-is ∙ h)

      module _ (h : r ≡ Allowed) where
        pub reaction-asked : {maker : ℕ} → Maker maker → Permitted x picks maker (held os ws gs at)
        reaction-asked {maker} l = record {
          arrays = w.arrays;
          fits = omega (arith, w.bounds.fits, w.limit);
          ready = rule-ready T g.table (head_number head) g.below x g.rule at.next maker w.bounds.next l;
          verdict = verdict-react 1024 is_move (state_in (held os ws gs at)) g.kind
              ∙ verdict-higher ceiling (table_of T) (state_in (held os ws gs at)) (move_of (table_of T) (head ∷ picks)) (sym verdict-is ∙ h) 1024 w.limit;
        }

        given : ReactGiven (rule_in x) (state_in (held os ws gs at)) (take x.consumes picks)
        unfolding state_in
        given = (verdict-allowed ceiling (rule_in x) (state_from os ws gs at) (take x.consumes picks) (sym e ∙ h)).0

        pub reaction-made : (i : ℕ) {made : Made} → made.verdict ≡ Allowed → made.members ≡ 0 → {u : ℕ} → (u ≤ at.len) × UnmarkedTo ws u
            → {os' ws' gs' : List ℕ} {left : Extent}
            → HoldsIn (held os' ws' gs' left) (reacted (rule_in x) i (state_in (held os ws gs at)) (take x.consumes picks))
            → MadeAs made ceiling (table_of T) i (head ∷ picks) (held os ws gs at) (held os' ws' gs' (looked_to left (u - x.consumes)))
        reaction-made i v n (l, none) m =
            let count = count-picks x (decodes-itself x _ g.rule) picks g.four in
            let ends-none = members-react is_move (state_in (held os ws gs at)) g.kind in
            made-allowed w form v (n ∙ sym ends-none) (sym verdict-is ∙ h) (rw (applied-react is_move i (state_in (held os ws gs at)) g.kind)
            (reacted-looked os ws gs at _ l none (rule_in x) i (take x.consumes picks) given count m))

-- ---- an end

-- the words of an end
pub record Ending (t : Table) (head : ℕ) (picks : List ℕ) : Type 0 where
  pub kind : head_kind head ≡ 0 → ⊥
  pub small : head_kind head ≤ 2
  pub narrow : head_number head < 65536
  pub form : move_ok t (head ∷ picks) ≡ true

-- 5: the test of its form
pub end-formed : (t : Table) (head : ℕ) (picks : List ℕ) → length picks ≡ 4 → (head_kind head ≡ 0 → ⊥) → {b : Bool}
    → b ≡ end_form head picks → b ≡ true → Ending t head picks
end-formed t head picks four k e h =
    let ok = sym (form-end t head picks four k) ∙ sym e ∙ h in
    record { kind = k; small = end-kind t (head ∷ picks) ok k; narrow = omega (arith, end-id t (head ∷ picks) ok k); form = ok }

-- with its kind and its id as they were read
module _ {t : Table} {head : ℕ} {picks : List ℕ} (g : Ending t head picks) {ceiling : ℕ} {os ws gs : List ℕ} {at : Extent}
    (w : Workable (held os ws gs at) ceiling)
    {globals kind id : ℕ} (same : globals ≡ t.sizes.globals) (k : kind ≡ head_kind head) (n : id ≡ head_number head)
    {r : Verdict} (e : r ≡ end_verdict kind globals id (state_from os ws gs at)) where
  end-verdict-is : r ≡ move_verdict ceiling t (state_in (held os ws gs at)) (move_of t (head ∷ picks))
  unfolding state_in
  end-verdict-is =
      rw (same, k, n) at e
      ∙ verdict-end ceiling t (state_from os ws gs at) (omega (arith, w.bounds.fits, length-rows (row_of os ws gs) 0 at.len)) head picks g.kind

  pub end_refused : (i : ℕ) {made : Made} {q : Refusal} → made.verdict ≡ Denied q → made.members ≡ 0 → r ≡ Denied q
      → MadeAs made ceiling t i (head ∷ picks) (held os ws gs at) (held os ws gs at)
  end_refused i v n h = made-refused w g.form v n (sym end-verdict-is ∙ h)

  pub end-made : (i : ℕ) {made : Made} → made.verdict ≡ Allowed → made.members ≡ member_count id (state_in (held os ws gs at)) → r ≡ Allowed
      → {os' ws' gs' : List ℕ} {left : Extent}
      → HoldsIn (held os' ws' gs' left) (ended (λ e. eqb e.kind (kind - 1)) id (state_in (held os ws gs at)))
      → MadeAs made ceiling t i (head ∷ picks) (held os ws gs at) (held os' ws' gs' (looked_to left (at.unmarked - (at.len - left.len))))
  end-made i v count h m =
      let m = ended-looked os ws gs at at.unmarked w.looked.within w.looked.none (kind - 1) id m in
      let all = members-end t head picks (state_in (held os ws gs at)) g.kind in
      made-allowed w g.form v (count ∙ rw n (sym all)) (sym end-verdict-is ∙ h)
      (rw (applied-end t head picks i (state_in (held os ws gs at)) g.kind g.small) (rw (k, n) at m))
