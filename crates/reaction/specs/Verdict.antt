-- Why a reaction is refused, and how many entries an allowed one leaves.
use Rattle.std.specs.Prelude.{ℕ, ◌≤◌, ◌+◌, ◌-◌, ◌≡◌, refl, List, leb, length, take}
use Rattle.std.proofs.Common.{ap, ◌∙◌, length-drop, arith}
use Rattle.semantics.specs.State.{State}
use Rattle.semantics.specs.Move.{unless, both, react, react_allowed, reacted, allowed, applied, move_verdict}
use Rattle.semantics.specs.declared.Verdict.{Verdict}
use Rattle.semantics.specs.declared.Refusal.TheVariants.{TooManyEntries}
use Rattle.rules.specs.declared.decode.Rule.{Rule}
use Rattle.rules.specs.Decode.{Decodes}
use Rattle.state.specs.Working.{row_of}
use borrow.Author.Tests.{leb-true}
use Rattle.lists.specs.Rows.{length-rows}
use Rattle.semantics.specs.declared.Verdict.TheVariants.{Allowed}
use Rattle.wellformed.specs.Tables.{LegalRule}
use Rattle.wellformed.specs.Verdicts.{both-allowed, unless_allowed}
use Rattle.wellformed.specs.Picks.{ReactGiven, react-given, left-length}
use Rattle.wellformed.specs.Length.{length-reacted}
use Rattle.reaction.specs.Decoded.{rule_in, count-atoms, making_count}
use Rattle.state.specs.declared.Extent.{Extent}
use Rattle.state.specs.Lent.{state_from}
use Rattle.reaction.specs.Places.{count-taken}
use Rattle.semantics.specs.Table as rules

-- 7, 8, 18, 11, 12 of a reaction
unfoldable pub react_verdict : ℕ → rules.Rule → State → List ℕ → Verdict
react_verdict ceiling r s ps = both (react_allowed r s ps) (unless (leb (length (reacted r 0 s ps).entries) ceiling) TooManyEntries)

pub react-verdict-is : (ceiling : ℕ) (t : rules.Table) (s : State) (k : ℕ) (ps : List ℕ)
    → move_verdict ceiling t s (react k ps) ≡ react_verdict ceiling (rules.rule_at t k) s ps
unfolding move_verdict allowed applied react_verdict
react-verdict-is ceiling t s k ps = refl

-- as many picks, however their number is given
pub verdict-taken : (ceiling : ℕ) (r : rules.Rule) (s : State) (picks : List ℕ) {j k : ℕ} → j ≡ k
    → react_verdict ceiling r s (take j picks) ≡ react_verdict ceiling r s (take k picks)
verdict-taken ceiling r s picks e = ap (λ (k : ℕ). react_verdict ceiling r s (take k picks)) e

module _ (ceiling : ℕ) (r : rules.Rule) (s : State) (ps : List ℕ) where
  pub verdict-allowed : react_verdict ceiling r s ps ≡ Allowed → ReactGiven r s ps × (length (reacted r 0 s ps).entries ≤ ceiling)
  unfolding react_verdict
  verdict-allowed h =
      let (a, b) = both-allowed (react_allowed r s ps) (unless (leb (length (reacted r 0 s ps).entries) ceiling) TooManyEntries) h in
      (react-given r s ps a, leb-true _ _ (unless_allowed (leb (length (reacted r 0 s ps).entries) ceiling) TooManyEntries b))

-- 12: how many entries are left, by a rule whose first k atoms are its consumes
module _ (k : ℕ) (r : rules.Rule) (legal : LegalRule k r) (picks : List ℕ) (four : length picks ≡ 4) (os ws gs : List ℕ) (at : Extent) where
  abbrev Given : Type 0
  Given = ReactGiven r (state_from os ws gs at) (take k picks)

  pub consumes-fit : Given → k ≤ at.len
  consumes-fit g = omega (arith, left-length g, count-taken legal picks four, length-rows (row_of os ws gs) 0 at.len)

  pub entries-left : (i : ℕ) → Given → length (reacted r i (state_from os ws gs at) (take k picks)).entries ≡ at.len - k + (length r.atoms - k)
  entries-left i g = omega (
    arith,
    length-reacted r i (state_from os ws gs at) (take k picks),
    ap length legal.products ∙ length-drop k r.atoms,
    left-length g,
    count-taken legal picks four,
    length-rows (row_of os ws gs) 0 at.len,
  )

-- .. as decoded
module _ (x : Rule) (d : Decodes x (rule_in x)) (picks : List ℕ) (four : length picks ≡ 4) where
  abbrev ps : List ℕ
  ps = take x.consumes picks

  module _ (os ws gs : List ℕ) (at : Extent) where
    abbrev n : ℕ
    n = at.len

    abbrev σ : State
    σ = state_from os ws gs at

    pub picks-fit : ReactGiven (rule_in x) σ ps → x.consumes ≤ n
    picks-fit = consumes-fit x.consumes (rule_in x) d.legal picks four os ws gs at

    pub count_left : (i : ℕ) → ReactGiven (rule_in x) σ ps → length (reacted (rule_in x) i σ ps).entries ≡ n - x.consumes + making_count x
    count_left i g = entries-left x.consumes (rule_in x) d.legal picks four os ws gs at i g
        ∙ ap (λ (m : ℕ). n - x.consumes + (m - x.consumes)) (count-atoms x d)
