-- The first of the list, by its parts.
use Prim.Native.Nat.{ℕ, zero, suc, ◌+◌, ◌-◌, ◌*◌, ◌≤◌, ◌<◌}
use mathlib.Core.Bool.{Bool, true, false, ◌&&◌, ◌||◌, not, false≢true, cond}
use mathlib.Core.List.{List, [], ◌∷◌, ◌++◌, map}
use mathlib.Core.Path.{◌≡◌, refl, sym, ap, ◌∙◌}
use native.Mathlib.Omega.{arith}
use lib.Dec.{leb, ltb}
use lib.ListN.{length, get_or, take, length-map}
use lib.Seq.{get_or-take}
use Rattle.lists.specs.Lists.{any, keep, up_from, count_if}
use Rattle.lists.specs.Each.{All, All-get_or}
use Rattle.lists.specs.Mapped.{map-map, map-take}
use Rattle.lists.specs.Parts.{keep_append}
use Rattle.lists.specs.Rows.{rows, length-rows}
use Rattle.lists.specs.Runs.{RunEnd, keys-count}
use Rattle.semantics.specs.Words.{head_word, atom_role, port_of}
use Rattle.semantics.specs.Table.{Rule, sizes_of, class_of, is_role, atom_of, rule_of, table_of, consumed}
use Rattle.semantics.specs.Log.{four_picks}
use Rattle.semantics.specs.Move.{Move, react, commit, abort, takes_part, move_verdict}
use Rattle.semantics.specs.Enabled.{is_allowed, enabled}
use Rattle.semantics.specs.Answers.{table_verdict}
use Rattle.semantics.specs.declared.Atom.{Atom}
use Rattle.semantics.specs.declared.Sizes.{Sizes}
use Rattle.semantics.specs.declared.Verdict.TheVariants.{Allowed}
use Rattle.wellformed.specs.Tables.{RuleFits, rule-has, consumed-length, rule-legal}
use Rattle.wellformed.specs.Entries.{StateRight}
use Rattle.enabled.specs.Keys.{Keyed}
use Rattle.enabled.specs.Reactions.{OfClass}
use Rattle.enabled.specs.ByRules.{enabled-by-rules}
use Rattle.state.specs.declared.Extent.{Extent}
use Rattle.state.specs.Working.{row_of}
use Rattle.state.specs.Lent.{state_from}
use Rattle.rule_moves.specs.Takes.{SmallPorts, has_room_for, reactions_by}
use Rattle.first_choice.specs.Choice.{first_choice, AllOfClass}
use Rattle.first_end.specs.declared.First.{First}
use Rattle.first_end.specs.First.{first_move}
use Rattle.first_end.specs.OpenEnds.{open_ends}
use Rattle.next_move.specs.Reactions.{ConsumesFirst}

-- ---- a choice as a reaction

pub choice-none : (r : ℕ) (cs : List (List ℕ)) → (first_choice cs).found ≡ false → first_move [] ≡ first_move (map (react r) cs)
choice-none r [] h = refl
choice-none r (c ∷ cs) h = absurd (false≢true (sym h))

pub choice-found : (r : ℕ) (cs : List (List ℕ)) → (first_choice cs).found ≡ true
    → record { found = true; mv = record { head = r; picks = (first_choice cs).picks } } ≡ first_move (map (react r) cs)
choice-found r [] h = absurd (false≢true h)
choice-found r (c ∷ cs) h =
    let e : r ≡ head_word 0 r = omega arith in
    ap {B = First} (λ (x : ℕ). record { found = true; mv = record { head = x; picks = four_picks (react r c) } }) e

-- a rule has all its choices, or none
module _ (r : ℕ) {b : Bool} (cs : List (List ℕ)) where
  pub rule-open : {f : First} → b ≡ true → f ≡ first_move (map (react r) cs) → f ≡ first_move (map (react r) (cond b cs []))
  rule-open e h = rw e h

  pub rule-shut : b ≡ false → first_move [] ≡ first_move (map (react r) (cond b cs []))
  rule-shut e = rw e

pub rule-lacks : (r : ℕ) (b : Bool) {cs : List (List ℕ)} → cs ≡ [] → first_move [] ≡ first_move (map (react r) (cond b cs []))
rule-lacks r true e = rw e
rule-lacks r false e = refl

-- ---- one part behind another

pub first-here : (xs ys : List Move) → (first_move xs).found ≡ true → first_move xs ≡ first_move (xs ++ ys)
first-here [] ys h = absurd (false≢true h)
first-here (x ∷ xs) ys h = refl

pub first-behind : (xs ys : List Move) → (first_move xs).found ≡ false → first_move ys ≡ first_move (xs ++ ys)
first-behind [] ys h = refl
first-behind (x ∷ xs) ys h = absurd (false≢true (sym h))

-- the reactions, and behind them the ends
pub whole-list : (t : List ℕ) → table_verdict t ≡ Allowed → (os ws gs : List ℕ) (at : Extent) → StateRight (sizes_of t) (state_from os ws gs at) → (ceiling : ℕ)
    → {ks : List ℕ} → Keyed (sizes_of t) (takes_part (state_from os ws gs at)) (rows (row_of os ws gs) 0 at.len) ks
    → enabled ceiling (table_of t) (state_from os ws gs at)
    ≡ reactions_by ceiling t at.len at.next ks ++ open_ends ceiling (table_of t) (state_from os ws gs at)
whole-list t table os ws gs at right ceiling {ks} keyed =
    let S = state_from os ws gs at in
    let open? : Move → Bool = λ m. is_allowed (move_verdict ceiling (table_of t) S m) in
    let ends : (ℕ → Move) → List Move = λ f. map f (up_from 1 (S.next - 1)) in
    enabled-by-rules t table S right ceiling keyed
    ∙ ap (λ (n : ℕ). reactions_by ceiling t n at.next ks ++ (keep open? (ends commit) ++ keep open? (ends abort))) (length-rows (row_of os ws gs) 0 at.len)
    ∙ ap (λ (l : List Move). reactions_by ceiling t at.len at.next ks ++ l) (sym (keep_append open? (ends commit) (ends abort)))

-- the ports of a rule's consumes, four in an array, are of its class
pub of-class : (z : Sizes) (R : Rule) (takes : List ℕ) (k : ℕ) → take k takes ≡ consumed R → k ≡ length (consumed R)
    → All (OfClass z R.class) (consumed R) → AllOfClass z R.class takes k
of-class z R takes k e n h j l =
    let q : get_or (consumed R) j 0 ≡ get_or takes j 0 = ap (λ (ts : List ℕ). get_or ts j 0) (sym e) ∙ get_or-take k takes j 0 l in
    rw q at (All-get_or (OfClass z R.class) 0 (consumed R) j h (omega arith))

-- the consumes of a rule stand first in its words
pub words-consumed : (z : Sizes) (ws : List ℕ) → RuleFits z ws → {k : ℕ} → RunEnd (is_role 0) ws 0 k → ConsumesFirst z ws k
unfolding rule_of
words-consumed z ws f {k} r =
    let count : count_if (is_role 0) ws ≡ k = omega (arith, keys-count atom_role 0 r f.rises) in
    let legal = rw count at (rule-legal z ws f) in
    record {
      some = legal.some;
      most = legal.most;
      within = r.within;
      count = sym (consumed-length z ws ∙ count);
      ports = legal.consumed ∙ ap (map (λ (a : Atom). a.port)) (sym (map-take atom_of k ws)) ∙ map-map (λ (a : Atom). a.port) atom_of (take k ws);
    }

-- four in an array, of which the first k count
pub ports-taken : (f : ℕ → ℕ) (ws : List ℕ) (k : ℕ) → k ≤ 4 → k ≤ length ws
    → take k (cond (ltb 0 k) (f (get_or ws 0 0)) 0 ∷ cond (ltb 1 k) (f (get_or ws 1 0)) 0 ∷ cond (ltb 2 k) (f (get_or ws 2 0)) 0
    ∷ cond (ltb 3 k) (f (get_or ws 3 0)) 0 ∷ []) ≡ map f (take k ws)
ports-taken f ws zero a b = refl
ports-taken f [] (suc k) a b = absurd (omega arith)
ports-taken f (w ∷ ws) (suc zero) a b = refl
ports-taken f (w ∷ []) (suc (suc k)) a b = absurd (omega arith)
ports-taken f (w ∷ x ∷ ws) (suc (suc zero)) a b = refl
ports-taken f (w ∷ x ∷ []) (suc (suc (suc k))) a b = absurd (omega arith)
ports-taken f (w ∷ x ∷ y ∷ ws) (suc (suc (suc zero))) a b = refl
ports-taken f (w ∷ x ∷ y ∷ []) (suc (suc (suc (suc k)))) a b = absurd (omega arith)
ports-taken f (w ∷ x ∷ y ∷ v ∷ ws) (suc (suc (suc (suc zero)))) a b = refl
ports-taken f (w ∷ x ∷ y ∷ v ∷ ws) (suc (suc (suc (suc (suc k))))) a b = absurd (omega arith)

pub four-small : (a b c d : ℕ) → a < 256 → b < 256 → c < 256 → d < 256 → SmallPorts (a ∷ b ∷ c ∷ d ∷ [])
four-small a b c d la lb lc ld zero = la
four-small a b c d la lb lc ld (suc zero) = lb
four-small a b c d la lb lc ld (suc (suc zero)) = lc
four-small a b c d la lb lc ld (suc (suc (suc zero))) = ld
four-small a b c d la lb lc ld (suc (suc (suc (suc j)))) = omega arith

pub first-class : (z : Sizes) (ws : List ℕ) {c : ℕ} → c ≡ class_of z (port_of (get_or ws 0 0)) → (rule_of z ws).class ≡ c
unfolding rule_of
first-class z ws e = sym e

pub room-is : (z : Sizes) (ws : List ℕ) {k : ℕ} → ConsumesFirst z ws k → (ceiling n next : ℕ)
    → has_room_for ceiling (rule_of z ws) n next ≡ ((not (any (is_role 2) ws) || ltb next 65536) && leb (n + length ws) (ceiling + 2 * k))
unfolding rule_of
room-is z ws {k} w ceiling n next = rw (rule-has z ws 2, length-map ws atom_of, ← w.count)
