-- The tests of the picks, one by one: the column there, their ports, their owners.
use Prim.Native.Nat.{ℕ, zero, suc, ◌≤◌}
use mathlib.Core.Path.{◌≡◌, refl, sym, ap, ◌∙◌}
use mathlib.Core.Bool.{Bool, true, false, ◌&&◌, cond, and-true, and-false}
use mathlib.Core.List.{List, [], ◌∷◌, map}
use native.Mathlib.Omega.{arith}
use lib.Dec.{eqb, ltb}
use lib.ListN.{length, get_or, take}
use lib.Seq.{take-take}
use Rattle.lists.specs.Lists.{all, is_in, least}
use borrow.Author.Tests.{eqb-true, eq-eqb}
use Rattle.lists.specs.Choices.{by_bool}
use Rattle.lists.specs.Tests.{and-after}
use Rattle.lists.specs.Mapped.{map-take}
use Rattle.lists.specs.Members.{Among, get_or-among, is_in-among, among-is_in}
use Rattle.lists.specs.Numbers.{all_same}
use Rattle.lists.specs.Smallest.{all-least}
use Rattle.lists.specs.Walk.{take-four}
use Rattle.lists.specs.Rows.{rows, rows_from, rows_take, rows_whole, map_rows}
use Rattle.semantics.specs.Table.{consumed}
use Rattle.semantics.specs.State.{Entry, is_message}
use Rattle.semantics.specs.Move.{is_zero, entry_at, on_ports, owners_fit}
use Rattle.rules.specs.declared.decode.Rule.{Rule}
use Rattle.rules.specs.Decode.{Decodes}
use Rattle.reaction.specs.Decoded.{rule_in, blank, consumes-within}
use Rattle.reaction.specs.Places.{column, four_at, take_found, entries}
use Rattle.reaction.specs.Four.{four-places}

-- four numbers that are the same as those at the picks
pub same-found : (f xs picks : List ℕ) (k : ℕ) → k ≤ length picks → {found : List ℕ} → found ≡ four_at xs (take k picks)
    → ((x : ℕ) → is_in x f ≡ is_in x (take k found)) → (x : ℕ) → is_in x f ≡ is_in x (column xs (take k picks))
same-found f xs picks k l e same x = same x ∙ ap (is_in x) (ap (take k) e ∙ take_found k xs picks l)

-- a column at the first k of four picks, one by one
pub four-at : (xs picks : List ℕ) (k : ℕ) → length picks ≡ 4 → k ≤ 4
    → cond (ltb 0 k) (get_or xs (get_or picks 0 0) 0) 0 ∷ cond (ltb 1 k) (get_or xs (get_or picks 1 0) 0) 0 ∷ cond (ltb 2 k) (get_or xs (get_or picks 2 0) 0)
    0 ∷ cond (ltb 3 k) (get_or xs (get_or picks 3 0) 0) 0 ∷ []
    ≡ four_at xs (take k picks)
four-at xs picks k l h = go k h ∙ sym (ap (λ ps. four_at xs (take k ps)) (four-places picks l))
  where
    go : (k : ℕ) → k ≤ 4
        → cond (ltb 0 k) (get_or xs (get_or picks 0 0) 0) 0 ∷ cond (ltb 1 k) (get_or xs (get_or picks 1 0) 0) 0
        ∷ cond (ltb 2 k) (get_or xs (get_or picks 2 0) 0)
        0 ∷ cond (ltb 3 k) (get_or xs (get_or picks 3 0) 0) 0 ∷ []
        ≡ four_at xs (take k (get_or picks 0 0 ∷ get_or picks 1 0 ∷ get_or picks 2 0 ∷ get_or picks 3 0 ∷ []))
    go zero h = refl
    go (suc zero) h = refl
    go (suc (suc zero)) h = refl
    go (suc (suc (suc zero))) h = refl
    go (suc (suc (suc (suc zero)))) h = refl
    go (suc (suc (suc (suc (suc k))))) h = absurd (omega arith)

-- ---- ports

-- a message on this port
abbrev pub on_port : ℕ → Entry → Bool
on_port port e = is_message e && eqb e.port port

ports-rows : (f : ℕ → ℕ) (g : ℕ → Entry) (i n : ℕ) → on_ports (rows f i n) (rows g i n) ≡ all (λ j. on_port (f j) (g j)) (rows (λ j. j) i n)
unfolding rows
ports-rows f g i zero = refl
ports-rows f g i (suc n) = ap (λ (b : Bool). on_port (f i) (g i) && b) (ports-rows f g (suc i) n)

-- the pick at j is a message on the port at j
abbrev pub pick_fits : List ℕ → List ℕ → List ℕ → ℕ → List ℕ → List ℕ → ℕ → Bool
pick_fits os ws gs n ports picks j = on_port (get_or ports j 0) (entry_at (entries os ws gs n) (get_or picks j 0))

-- pick by pick
pub ports-each : (os ws gs : List ℕ) (n : ℕ) (ports picks : List ℕ) (k : ℕ) → k ≤ length ports → k ≤ length picks
    → all (pick_fits os ws gs n ports picks) (rows_from (λ j. j) k 0) ≡ on_ports (take k ports) (map (entry_at (entries os ws gs n)) (take k picks))
ports-each os ws gs n ports picks k l m =
    let g = entry_at (entries os ws gs n) in
    let found : map g (take k picks) ≡ rows (λ j. g (get_or picks j 0)) 0 k = rw (← rows_take 0 picks k m) (map_rows g (λ j. get_or picks j 0) 0 k) in
    rw (← rows_take 0 ports k l, found, rows_whole (λ j. j) k) (sym (ports-rows (λ j. get_or ports j 0) (λ j. g (get_or picks j 0)) 0 k))

-- the ports of the first four atoms, of which those of the consumes count
pub ports-four : (x : Rule) → Decodes x (rule_in x)
    → take x.consumes ((get_or x.atoms 0 blank).port ∷ (get_or x.atoms 1 blank).port ∷ (get_or x.atoms 2 blank).port ∷ (get_or x.atoms 3
    blank).port ∷ []) ≡ consumed (rule_in x)
ports-four x d =
    let k = x.consumes in
    ap (λ atoms. take k (map (λ a. a.port) atoms)) (take-four x.atoms 0 blank (omega (arith, d.room)))
    ∙ sym (map-take (λ a. a.port) k (take 4 x.atoms))
    ∙ rw (take-take k 4 x.atoms d.legal.most, ← take-take k x.count x.atoms (consumes-within x d)) (sym d.legal.consumed)

-- ---- owners

-- whether owners fit depends on nothing but which there are
pub owners-same : (class : ℕ) (f os : List ℕ) → length f ≡ 4 → ((x : ℕ) → is_in x f ≡ is_in x os) → owners_fit class f ≡ owners_fit class os
owners-same class f os l same = go (eqb class 0) (eqb class 1)
  where
    one : ℕ
    one = get_or f 0 0

    first : Among one f
    first = get_or-among 0 f 0 (omega arith)

    go : (a b : Bool)
        → cond a (all is_zero f) (cond b (all (λ o. ltb 0 o && eqb o (least f)) f) (all (ltb 0) f))
        ≡ cond a (all is_zero os) (cond b (all (λ o. ltb 0 o && eqb o (least os)) os) (all (ltb 0) os))
    go true b = all_same is_zero f os same
    go false true =
        sym (all-least (ltb 0) f one first)
        ∙ all_same (λ o. ltb 0 o && eqb o one) f os same
        ∙ all-least (ltb 0) os one (is_in-among one os (sym (same one) ∙ among-is_in one f first))
    go false false = all_same (ltb 0) f os same

-- four owners, as the code compares them
module _ (f : List ℕ) (l : length f ≡ 4) where
  abbrev a : ℕ
  a = get_or f 0 0

  abbrev b : ℕ
  b = get_or f 1 0

  abbrev c : ℕ
  c = get_or f 2 0

  abbrev d : ℕ
  d = get_or f 3 0

  pub four-all : (p : ℕ → Bool) → p a && (p b && (p c && p d)) ≡ all p f
  four-all p = ap (λ (x : Bool). p a && (p b && (p c && x))) (sym (and-true (p d))) ∙ ap (all p) (sym (four-places f l))

  pub four-one : ltb 0 a && (eqb b a && (eqb c a && eqb d a)) ≡ all (λ o. ltb 0 o && eqb o (least f)) f
  four-one =
      and-after (ltb 0 a) (λ h. rw (← like h b, ← like h c, ← like h d))
      ∙ ap (λ (x : Bool). x && (at b && (at c && at d))) (sym (and-true (ltb 0 a)) ∙ ap (λ (x : Bool). ltb 0 a && x) (sym (eq-eqb a a refl)))
      ∙ four-all at
      ∙ all-least (ltb 0) f a (get_or-among 0 f 0 (omega arith))
    where
      at : ℕ → Bool
      at o = ltb 0 o && eqb o a

      like : ltb 0 a ≡ true → (o : ℕ) → eqb o a ≡ at o
      like h o = by_bool (eqb o a) (λ e. rw (e, eqb-true o a e, h)) (λ e. rw (e, and-false (ltb 0 o)))
