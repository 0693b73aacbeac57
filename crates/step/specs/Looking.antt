-- How far no abort mark stands, in columns and in the state that they hold, after a reaction and after an end.
use Rattle.std.specs.Prelude.{ℕ, ◌-◌, ◌≤◌, List, ◌≡◌, eqb, length}
use Rattle.std.proofs.Common.{sym, ap, subst, ◌∙◌, arith}
use Rattle.lists.specs.Lists.{any}
use Rattle.lists.specs.Rows.{rows, take-rows}
use Rattle.lists.specs.Found.{none_rows, rows-lack}
use Rattle.semantics.specs.Table.{Rule}
use Rattle.semantics.specs.State.{Entry, is_abort_mark}
use Rattle.semantics.specs.Move.{reacted, ended}
use Rattle.wellformed.specs.Picks.{ReactGiven, left-length}
use Rattle.wellformed.specs.Length.{length-reacted, length-ended}
use Rattle.wellformed.specs.Unmarked.{Unmarked, reacted-unmarked, ended-unmarked}
use Rattle.state.specs.declared.State.{State}
use Rattle.state.specs.declared.Extent.{Extent}
use Rattle.state.specs.Working.{row_of, state_in, held}
use Rattle.state.specs.Arrays.{UnmarkedTo, HoldsIn, count-in, held-len}
use Rattle.semantics.specs.State as semantics

module _ (os ws gs : List ℕ) (n u : ℕ) (l : u ≤ n) where
  abbrev row : ℕ → Entry
  row = row_of os ws gs

  to-entries : UnmarkedTo ws u → Unmarked u (rows row 0 n)
  to-entries h = ap (any is_abort_mark) (take-rows row 0 u n l) ∙ none_rows is_abort_mark row 0 u (λ k a b. h k (omega arith))

  to-items : Unmarked u (rows row 0 n) → UnmarkedTo ws u
  to-items h j m = rows-lack is_abort_mark row 0 u (sym (ap (any is_abort_mark) (take-rows row 0 u n l)) ∙ h) j (omega arith) (omega arith)

-- the extent with another such place
abbrev pub looked_to : Extent → ℕ → Extent
looked_to at u = record { len = at.len; next = at.next; unmarked = u }

holds-looked : {os ws gs : List ℕ} {at : Extent} {σ : semantics.State} → HoldsIn (held os ws gs at) σ → (u : ℕ) → u ≤ length σ.entries
    → Unmarked u σ.entries → HoldsIn (held os ws gs (looked_to at u)) σ
unfolding state_in
holds-looked {os} {ws} {gs} {at} h u few none =
    let l : u ≤ at.len = omega (arith, held-len h.holds) in
    record {
      arrays = h.arrays;
      holds = record { value = h.holds.value; fits = h.holds.fits };
      looked = record {
        within = l;
        none = to-items os ws gs at.len u l (subst (Unmarked u) (sym (ap (λ (x : semantics.State). x.entries) h.holds.value)) none);
      };
    }

module _ (os ws gs : List ℕ) (at : Extent) (u : ℕ) (l : u ≤ at.len) (none : UnmarkedTo ws u) where
  abbrev s : State
  s = held os ws gs at

  few : u ≤ length (state_in s).entries
  few = omega (arith, count-in s)

  clear : Unmarked u (state_in s).entries
  unfolding state_in
  clear = to-entries os ws gs at.len u l none

  pub reacted-looked : (R : Rule) (i : ℕ) (ps : List ℕ) → ReactGiven R (state_in s) ps → {k : ℕ} → length ps ≡ k → {os' ws' gs' : List ℕ} {left : Extent}
      → HoldsIn (held os' ws' gs' left) (reacted R i (state_in s) ps) → HoldsIn (held os' ws' gs' (looked_to left (u - k))) (reacted R i (state_in s) ps)
  reacted-looked R i ps g {k} e h =
      holds-looked h (u - k) (omega (arith, few, left-length g, length-reacted R i (state_in s) ps))
      (subst (λ (n : ℕ). Unmarked (u - n) (reacted R i (state_in s) ps).entries) e (reacted-unmarked R i (state_in s) ps g u few clear))

  pub ended-looked : (kind b : ℕ) {os' ws' gs' : List ℕ} {left : Extent} → HoldsIn (held os' ws' gs' left) (ended (λ e. eqb e.kind kind) b (state_in s))
      → HoldsIn (held os' ws' gs' (looked_to left (u - (at.len - left.len)))) (ended (λ e. eqb e.kind kind) b (state_in s))
  ended-looked kind b {left = left} h =
      let away : length (state_in s).entries - length (ended (λ e. eqb e.kind kind) b (state_in s)).entries ≡ at.len - left.len =
      omega (arith, count-in s, held-len h.holds) in
      holds-looked h (u - (at.len - left.len))
      (omega (arith, l, held-len h.holds, count-in s, length-ended (λ e. eqb e.kind kind) b (state_in s)))
      (subst (λ (n : ℕ). Unmarked (u - n) (ended (λ e. eqb e.kind kind) b (state_in s)).entries) away (ended-unmarked kind b (state_in s) u few clear))
