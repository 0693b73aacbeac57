-- Totals changed atom by atom.
use Prim.Native.Nat.{ℕ, ◌+◌, ◌-◌, ◌≤◌, ◌<◌}
use mathlib.Core.Bool.{Bool, true, false, ◌&&◌, and-true, and-false}
use mathlib.Core.List.{List, [], ◌∷◌, ◌++◌, map, map-append}
use mathlib.Core.Path.{◌≡◌, refl, sym, ap, ◌∙◌}
use native.Mathlib.Numerals.{add-one}
use native.Mathlib.Omega.{arith}
use borrow.Author.Tests.{eqb-true, eqb-false, eq-eqb, ne_eqb}
use lib.Dec.{eqb}
use lib.ListN.{length, get_or, take, drop, set, length-map, length-set, take-append-drop}
use lib.Seq.{take-suc, take-length, length-take-le, get_or-set_same, get_or-set_other}
use Rattle.lists.specs.Lists.{one_if, count_if}
use Rattle.lists.specs.Choices.{by_bool}
use Rattle.lists.specs.Counting.{count-le, count-append}
use Rattle.semantics.specs.Table.{atom_of, has_role}
use Rattle.semantics.specs.Words.{atom_role, port_of}
use Rattle.semantics.specs.declared.Atom.{Atom}
use Rattle.supply.specs.Atoms.{supplies, supplies_on, consumes_on, AtomsCounted, Enough}

-- ---- one atom

pub one_on : (b : Bool) (p q : ℕ) → p ≡ q → one_if (b && eqb p q) ≡ one_if b
one_on b p q e = rw (eq-eqb p q e, and-true b)

pub none-on : (b : Bool) (p q : ℕ) → (p ≡ q → ⊥) → one_if (b && eqb p q) ≡ 0
none-on b p q n = rw (ne_eqb p q n, and-false b)

-- what an atom consumes is there
pub one-there : (w : ℕ) (totals : List ℕ) {port : ℕ} → port ≡ port_of w → atom_role w ≡ 0 → one_if (has_role 0 (atom_of w)) ≤ get_or totals (port_of w) 0
    → 1 ≤ get_or totals port 0
one-there w totals at r l = rw at (rw r at l)

module _ (globals : ℕ) (global aborts : Bool) where
  -- a total is stored anew
  counted-one : (totals : List ℕ) → length totals ≡ 512 → (a : Atom) → a.port < 256 → (n : ℕ)
      → n + one_if (has_role 0 a) ≡ get_or totals a.port 0 + one_if (supplies globals global aborts a)
      → AtomsCounted globals global aborts (a ∷ []) totals (set totals a.port n)
  counted-one totals size a low n e = record {
    size = length-set totals a.port n ∙ size;
    each = λ p. by_bool (eqb a.port p)
        (λ q. let q = eqb-true a.port p q in
        let here : get_or (set totals a.port n) p 0 ≡ n = ap (λ (k : ℕ). get_or (set totals a.port n) k 0) (sym q)
        ∙ get_or-set_same totals a.port n 0 (omega arith) in
        let was = ap (λ (k : ℕ). get_or totals k 0) q in
        omega (arith, one_on (has_role 0 a) a.port p q, one_on (supplies globals global aborts a) a.port p q))
        (λ q. let q = eqb-false a.port p q in
        let here = get_or-set_other totals a.port p n 0 (λ k. q (sym k)) in
        omega (arith, none-on (has_role 0 a) a.port p q, none-on (supplies globals global aborts a) a.port p q));
  }

  module _ (w : ℕ) {port : ℕ} (at : port ≡ port_of w) {totals : List ℕ} (size : length totals ≡ 512) where
    counted-store : (n : ℕ) → n + one_if (has_role 0 (atom_of w)) ≡ get_or totals port 0 + one_if (supplies globals global aborts (atom_of w))
        → AtomsCounted globals global aborts (atom_of w ∷ []) totals (set totals port n)
    counted-store n e = rw at (counted-one totals size (atom_of w) (omega arith) n
        (e ∙ ap (λ (k : ℕ). get_or totals k 0 + one_if (supplies globals global aborts (atom_of w))) at))

    pub counted-less : atom_role w ≡ 0 → one_if (has_role 0 (atom_of w)) ≤ get_or totals (port_of w) 0
        → AtomsCounted globals global aborts (atom_of w ∷ []) totals (set totals port (get_or totals port 0 - 1))
    counted-less r l = let h = one-there w totals at r l in counted-store (get_or totals port 0 - 1) (rw r (omega arith))

    pub counted-more : (atom_role w ≡ 0 → ⊥) → supplies globals global aborts (atom_of w) ≡ true
        → AtomsCounted globals global aborts (atom_of w ∷ []) totals (set totals port (get_or totals port 0 + 1))
    counted-more r s = counted-store (get_or totals port 0 + 1) (rw (ne_eqb (atom_role w) 0 r, s) (omega arith))

  pub counted_none : (w : ℕ) {totals : List ℕ} → length totals ≡ 512 → (atom_role w ≡ 0 → ⊥) → supplies globals global aborts (atom_of w) ≡ false
      → AtomsCounted globals global aborts (atom_of w ∷ []) totals totals
  counted_none w size r s = record { size = size; each = λ p. rw (ne_eqb (atom_role w) 0 r, s) }

  counted-append : {xs ys : List Atom} {first middle last : List ℕ} → AtomsCounted globals global aborts xs first middle
      → AtomsCounted globals global aborts ys middle last → AtomsCounted globals global aborts (xs ++ ys) first last
  counted-append {xs} {ys} f g = record {
    size = g.size;
    each = λ p. omega (
      arith,
      f.each p,
      g.each p,
      count-append (consumes_on p) xs ys,
      count-append (supplies_on globals global aborts p) xs ys,
    );
  }

-- ---- the loop

-- i words are counted
pub record CountingAtoms (globals : ℕ) (global aborts : Bool) (ws before after : List ℕ) (i : ℕ) : Type 0 where
  pub within : i ≤ length ws
  pub so_far : AtomsCounted globals global aborts (map atom_of (take i ws)) before after

pub counting-start : (globals : ℕ) (global aborts : Bool) (ws totals : List ℕ) → length totals ≡ 512 → CountingAtoms globals global aborts ws totals totals 0
counting-start globals global aborts ws totals e = record { within = omega arith; so_far = record { size = e; each = λ p. refl } }

module _ {globals : ℕ} {global aborts : Bool} {ws before after : List ℕ} {i : ℕ} (c : CountingAtoms globals global aborts ws before after i) where
  pub counting-done : length ws ≤ i → AtomsCounted globals global aborts (map atom_of ws) before after
  counting-done l =
      let e : i ≡ length ws = omega (arith, c.within) in
      rw (e, take-length ws) at c.so_far

  module _ (l : i < length ws) where
    abbrev w : ℕ
    w = get_or ws i 0

    next_word : map atom_of (take (i + 1) ws) ≡ map atom_of (take i ws) ++ atom_of w ∷ []
    next_word = rw (add-one i, take-suc ws i 0 l) (map-append atom_of (take i ws) (w ∷ []))

    pub counting-next : {left : List ℕ} → AtomsCounted globals global aborts (atom_of w ∷ []) after left
        → CountingAtoms globals global aborts ws before left (i + 1)
    counting-next one = record { within = omega arith; so_far = rw next_word (counted-append globals global aborts c.so_far one) }

    module _ (enough : Enough (map atom_of ws) before) where
      abbrev p : ℕ
      p = port_of w

      -- what is still to be consumed is there
      pub counting-low : one_if (has_role 0 (atom_of w)) ≤ get_or after p 0
      counting-low =
          let part = ap (λ (l : List ℕ). count_if (consumes_on p) (map atom_of l)) (take-append-drop (i + 1) ws) in
          let split = ap (count_if (consumes_on p)) (map-append atom_of (take (i + 1) ws) (drop (i + 1) ws)) in
          let sum = count-append (consumes_on p) (map atom_of (take (i + 1) ws)) (map atom_of (drop (i + 1) ws)) in
          let here = ap (count_if (consumes_on p)) next_word ∙ count-append (consumes_on p) (map atom_of (take i ws)) (atom_of w ∷ []) in
          let one = one_on (has_role 0 (atom_of w)) p p refl in
          omega (arith, enough.low p (omega arith), c.so_far.each p)

      pub counting-high : get_or after p 0 < 65535
      counting-high =
          let made = count-le (supplies_on globals global aborts p) (map atom_of (take i ws)) in
          let few = length-map (take i ws) atom_of in
          let all = length-map ws atom_of in
          let part = length-take-le i ws c.within in
          omega (arith, enough.high p (omega arith), enough.few, c.so_far.each p)
