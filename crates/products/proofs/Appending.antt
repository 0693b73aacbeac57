-- The loop that appends a reaction's products to the columns, one by one.
use Prim.Native.Nat.{ℕ, ◌+◌, ◌≤◌, ◌<◌}
use mathlib.Core.Path.{◌≡◌, refl, sym, ◌∙◌}
use mathlib.Core.List.{List, ◌++◌, append-nil}
use native.Mathlib.Nat.{add-zero}
use native.Mathlib.Numerals.{add-one}
use native.Mathlib.Omega.{arith}
use lib.ListN.{get_or, drop, set}
use Rattle.lists.specs.Ahead.{Tails, Ahead, ahead-next, ahead-done}
use Rattle.lists.specs.Prefix.{part-tails}
use Rattle.lists.specs.Rows.{rows}
use Rattle.semantics.specs.State.{Entry}
use Rattle.semantics.specs.declared.Atom.{Atom}
use Rattle.rules.specs.declared.decode.Rule.{Rule}
use Rattle.state.specs.Working.{entry_from, row_of, held}
use Rattle.state.specs.Arrays.{Arrays, HoldsIn, stored-sized, stored-before, holds_of, not-looked}
use Rattle.words.specs.Origin.{Maker, origin_word, origin-of-product}
use Rattle.products.specs.Narrow.{Applicable}
use Rattle.products.specs.Products.{owner_of_role, ItemMade, product_from, products_from}
use Rattle.reaction.specs.Decoded.{blank}
use Rattle.reaction.specs.Decoded.{making_atoms, making_count}

-- Before product q of a reaction that is appended from place `at` on; `all` is what is to be made.
pub record Making (x : Rule) (next home maker : ℕ) (got : List ℕ) (at q : ℕ) (os ws gs : List ℕ) (all : List Entry) : Type 0 where
  pub ready : Applicable x next maker
  pub arrays : Arrays os ws gs
  pub room : at + making_count x ≤ 1024
  pub ahead : Ahead (λ j. drop j (making_atoms x)) (making_count x)
      (λ atoms. rows (row_of os ws gs) 0 (at + q) ++ products_from x.class next home got maker q atoms) q all

-- of at most 16 atoms one is a consume
pub few-made : {x : Rule} {next maker q : ℕ} → Applicable x next maker → q < making_count x → q < 16
few-made r h = omega (arith, r.rule.few, r.rule.legal.some)

module _ (x : Rule) (next home maker : ℕ) (got : List ℕ) where
  pub making-start : (os ws gs : List ℕ) (at : ℕ) → Applicable x next maker → Arrays os ws gs → at + making_count x ≤ 1024
      → Making x next home maker got at 0 os ws gs (rows (row_of os ws gs) 0 at ++ products_from x.class next home got maker 0 (making_atoms x))
  making-start os ws gs at r a h = record { ready = r; arrays = a; room = h; ahead = record { within = omega arith; so_far = rw (add-zero at) } }

  entry-made : (o w q : ℕ) (a : Atom) → o ≡ owner_of_role x.class next home a.role → ItemMade w got next a → Maker maker → q < 16
      → entry_from o w (origin_word maker q) ≡ product_from x.class next home got (record { maker = maker; index = q }) a
  entry-made o w q a e i m h = rw (e, i.kind, i.port, i.value, origin-of-product maker q m h)

  module _ {at q : ℕ} {os ws gs : List ℕ} {all : List Entry} (m : Making x next home maker got at q os ws gs all) where
    tails : Tails (λ i. get_or x.atoms (x.consumes + i) blank) (λ j. drop j (making_atoms x)) (making_count x)
    tails = part-tails blank x.atoms x.consumes x.count (omega (arith, m.ready.rule.room, m.ready.rule.few))

    pub making-next : q < making_count x → (o w : ℕ) → o ≡ owner_of_role x.class next home (get_or x.atoms (x.consumes + q) blank).role
        → ItemMade w got next (get_or x.atoms (x.consumes + q) blank)
        → Making x next home maker got at (q + 1) (set os (at + q) o) (set ws (at + q) w) (set gs (at + q) (origin_word maker q)) all
    making-next h o w e i =
        let low : at + q < 1024 = omega (arith, m.room) in
        let step : at + (q + 1) ≡ at + q + 1 = omega arith in
        let entry = entry-made o w q (get_or x.atoms (x.consumes + q) blank) e i m.ready.makers (few-made m.ready h) in
        record {
          ready = m.ready;
          arrays = stored-sized _ _ _ (at + q) o w (origin_word maker q) m.arrays;
          room = m.room;
          ahead = ahead-next tails m.ahead h _ (λ atoms. rw (step, add-one q)
              (stored-before _ _ _ (at + q) o w (origin_word maker q) m.arrays low entry _));
        }

    pub making-done : making_count x ≤ q → (n : ℕ)
        → HoldsIn (held os ws gs (record { len = at + making_count x; next = n; unmarked = 0 })) (record { next = n; entries = all })
    making-done h n =
        let e : q ≡ making_count x = omega (arith, m.ahead.within) in
        let done : rows (row_of os ws gs) 0 (at + q) ≡ all = sym (append-nil _) ∙ ahead-done tails m.ahead h in
        record { arrays = m.arrays; holds = holds_of _ refl refl m.room (rw e at done); looked = not-looked refl }
