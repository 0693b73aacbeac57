-- The keys of columns say where messages fit.
use Prim.Native.Nat.{ℕ, zero, suc, ◌+◌, ◌/◌, ◌%◌, ◌≤◌, ◌<◌}
use mathlib.Core.Bool.{Bool, true, false, ◌&&◌, not, cond}
use mathlib.Core.List.{List, [], ◌∷◌, map}
use mathlib.Core.Path.{◌≡◌, refl, sym, ap, ◌∙◌}
use native.Mathlib.Nat.{zero-add}
use native.Mathlib.Omega.{arith}
use borrow.Author.Tests.{eqb-true, eqb-false, leb-true, eq-eqb, le-leb}
use lib.Dec.{eqb, leb, ltb}
use lib.ListN.{length, get_or, length-map}
use Rattle.lists.specs.Lists.{given}
use Rattle.lists.specs.Choices.{by_bool, and_intro, and-three}
use Rattle.lists.specs.Tests.{and_both, same_test}
use Rattle.lists.specs.Rows.{rows, length-rows, get_d_rows}
use Rattle.lists.specs.Choosing.{group_base}
use Rattle.semantics.specs.Table.{class_of}
use Rattle.semantics.specs.State.{Entry, is_message}
use Rattle.semantics.specs.Words.{port_of}
use Rattle.semantics.specs.Move.{nothing, entry_at}
use Rattle.semantics.specs.declared.Sizes.{Sizes}
use Rattle.enabled.specs.Keys.{takeable, takeable_on, plain-key, local-key, group-key}
use Rattle.idset.specs.IdSet.{has}
use Rattle.state.specs.declared.Extent.{Extent}
use Rattle.state.specs.Working.{entry_from, row_of}
use Rattle.seek.specs.Seek.{fits_for, fits_at}
use Rattle.offers.specs.Offers.{column_keys}
use Rattle.offers.specs.ColumnKeys.{keyed-rows}
use Rattle.first_choice.specs.Choice.{NarrowOwners, AllOfClass, FitKeys, GroupKeys, Groupable}

abbrev outside : List ℕ → ℕ → Bool
outside stopped v = not (has stopped v)

-- ---- classes of ports

global-port : (a b : Bool) → ◌≡◌ {A = ℕ} (cond a 0 (cond b 1 2)) 0 → a ≡ true
global-port true b h = refl
global-port false true h = absurd (omega arith)
global-port false false h = absurd (omega arith)

inner-port : (a : Bool) (x : ℕ) → (◌≡◌ {A = ℕ} (cond a 0 x) 0 → ⊥) → a ≡ false
inner-port true x h = absurd (h refl)
inner-port false x h = refl

-- ---- a message that rules may consume from a port

-- between an owner and the same
between : (o c : ℕ) → leb c o && leb o c ≡ eqb o c
between o c = same_test (leb c o && leb o c) (eqb o c)
    (λ h. let (a, b) = and_both (leb c o) (leb o c) h in let a = leb-true c o a in let b = leb-true o c b in eq-eqb o c (omega arith))
    (λ h. let e = eqb-true o c h in and_intro (le-leb c o (omega arith)) (le-leb o c (omega arith)))

turned : (e m p : Bool) → m && p && e ≡ e && m && p
turned true true true = refl
turned true true false = refl
turned true false p = refl
turned false true true = refl
turned false true false = refl
turned false false p = refl

module _ (z : Sizes) (stopped : List ℕ) (t : ℕ) (low : t < 256) (o w g : ℕ) where
  abbrev e : Entry
  e = entry_from o w g

  message-on : takeable_on z (outside stopped) t e ≡ given (ltb t z.globals) (eqb o 0) && eqb (w / 65536) t && outside stopped o
  message-on = same_test (takeable_on z (outside stopped) t e) (given (ltb t z.globals) (eqb o 0) && eqb (w / 65536) t && outside stopped o)
      (λ h.
      let (a, b) = and_both (takeable z (outside stopped) e) (eqb (port_of w) t) h in
      let (m, f, s) = and-three (is_message e) (given (ltb (port_of w) z.globals) (eqb o 0)) (outside stopped o) a in
      let m = eqb-true e.kind 0 m in
      let b = eqb-true (port_of w) t b in
      and_intro (and_intro (rw b at f) (eq-eqb (w / 65536) t (omega arith))) s)
      (λ h.
      let (f, m, s) = and-three (given (ltb t z.globals) (eqb o 0)) (eqb (w / 65536) t) (outside stopped o) h in
      let m = eqb-true (w / 65536) t m in
      let b : port_of w ≡ t = omega arith in
      and_intro (and_intro (and_intro (eq-eqb e.kind 0 (omega arith)) (rw b f)) s) (eq-eqb (port_of w) t b))

  global-on : class_of z t ≡ 0 → takeable_on z (outside stopped) t e ≡ fits_for 0 0 stopped t o w
  global-on c =
      let a : ltb t z.globals ≡ true = global-port (ltb t z.globals) (ltb t (z.globals + z.locals)) c in
      message-on ∙ rw (between o 0, a)

  inner : (class_of z t ≡ 0 → ⊥) → takeable_on z (outside stopped) t e ≡ eqb (w / 65536) t && outside stopped o
  inner c = let a : ltb t z.globals ≡ false = inner-port (ltb t z.globals) _ c in message-on ∙ rw a

  inner-on : (class_of z t ≡ 0 → ⊥) → o < 65536 → takeable_on z (outside stopped) t e ≡ fits_for 0 65535 stopped t o w
  inner-on c l = inner c ∙ rw (le-leb 0 o (omega arith), le-leb o 65535 (omega arith))

  owner-on : (class_of z t ≡ 0 → ⊥) → (v : ℕ) → takeable_on z (outside stopped) t e && eqb o v ≡ fits_for v v stopped t o w
  owner-on c v = rw (inner c, between o v) (turned (eqb o v) (eqb (w / 65536) t) (outside stopped o))

-- ---- the keys of columns

get_or-raised : (b : ℕ) (xs : List ℕ) (i : ℕ) → i < length xs → get_or (map (λ u. u + b) xs) i 0 ≡ get_or xs i 0 + b
get_or-raised b [] i l = absurd (omega arith)
get_or-raised b (x ∷ xs) zero l = refl
get_or-raised b (x ∷ xs) (suc i) l = get_or-raised b xs i (omega arith)

module _ (z : Sizes) (stopped os ws : List ℕ) (n : ℕ) (takes : List ℕ) (k : ℕ) (enough : k ≤ length takes) (narrow : NarrowOwners os n) where
  abbrev es : List Entry
  es = rows (row_of os ws []) 0 n

  abbrev ks : List ℕ
  ks = column_keys z stopped os ws n

  size : length ks ≡ n
  size = length-rows _ 0 n

  here : (p : ℕ) → p < n → entry_at es p ≡ row_of os ws [] p
  here p l = get_d_rows nothing (row_of os ws []) 0 n p l ∙ ap (row_of os ws []) (zero-add p)

  in_rows : {p : ℕ} → p < n → p < length es
  in_rows l = rw length-rows l

  module _ {class : ℕ} (c : AllOfClass z class takes k) where
    pub columns-plain : (class ≡ 1 → ⊥) → FitKeys os ws stopped takes n k 0 (cond (eqb class 0) 0 65535) ks takes
    columns-plain d = record { size = size; enough = enough; same = same }
      where
        same : (i p : ℕ) → i < k → p < n → eqb (get_or ks p 0) (get_or takes i 0) ≡ fits_at os ws 0 (cond (eqb class 0) 0 65535) stopped (get_or takes i 0) p
        same i p l u =
            plain-key (keyed-rows z (outside stopped) os ws [] n) (get_or takes i 0) (c i l).0 (λ e. d (sym (c i l).1 ∙ e)) p (in_rows u)
            ∙ ap (takeable_on z (outside stopped) (get_or takes i 0)) (here p u)
            ∙ by_bool (eqb class 0)
            (λ e. rw e (global-on z stopped (get_or takes i 0) (c i l).0 (get_or os p 0) (get_or ws p 0) (get_or [] p 0) ((c i l).1 ∙ eqb-true class 0 e)))
            (λ e. rw e (inner-on z stopped (get_or takes i 0) (c i l).0 (get_or os p 0) (get_or ws p 0) (get_or [] p 0)
            (λ f. eqb-false class 0 e (sym (c i l).1 ∙ f)) (narrow p u)))

  pub columns-grouped : 1 ≤ k → AllOfClass z 1 takes k → GroupKeys os ws stopped takes n k ks
  columns-grouped some c = record { size = size; first = first; within = within }
    where
      t : ℕ
      t = get_or takes 0 0

      local : (i : ℕ) → i < k → class_of z (get_or takes i 0) ≡ 0 → ⊥
      local i l e = let f = (c i l).1 in absurd (omega arith)

      small : (p : ℕ) → p < length es → takeable z (outside stopped) (entry_at es p) ≡ true → (entry_at es p).port < 256
      small p l h = let l : p < n = rw length-rows at l in rw (here p l) (omega arith)

      on : (i p : ℕ) → i < k → p < n → takeable_on z (outside stopped) (get_or takes i 0) (entry_at es p) ≡ fits_at os ws 0 65535 stopped (get_or takes i 0) p
      on i p l u =
          ap (takeable_on z (outside stopped) (get_or takes i 0)) (here p u)
          ∙ inner-on z stopped (get_or takes i 0) (c i l).0 (get_or os p 0) (get_or ws p 0) (get_or [] p 0) (local i l) (narrow p u)

      first : (p : ℕ) → p < n → eqb (get_or ks p 0 % 512) t ≡ fits_at os ws 0 65535 stopped t p
      first p u = local-key (keyed-rows z (outside stopped) os ws [] n) small t (c 0 some).0 (c 0 some).1 p (in_rows u) ∙ on 0 p some u

      within : (p : ℕ) → p < n → fits_at os ws 0 65535 stopped t p ≡ true
          → FitKeys os ws stopped takes n k (get_or os p 0) (get_or os p 0) ks (map (λ u. u + group_base ks t p) takes)
      within p u h = record { size = size; enough = rw length-map enough; same = same }
        where
          same : (i q : ℕ) → i < k → q < n
              → eqb (get_or ks q 0) (get_or (map (λ u. u + group_base ks t p) takes) i 0)
              ≡ fits_at os ws (get_or os p 0) (get_or os p 0) stopped (get_or takes i 0) q
          same i q l v =
              ap (eqb (get_or ks q 0)) (get_or-raised (group_base ks t p) takes i (omega arith))
              ∙ group-key (keyed-rows z (outside stopped) os ws [] n) small t (get_or takes i 0) (c 0 some).0 (c i l).0 (c 0 some).1 (c i l).1 p q
              (in_rows u) (in_rows v) (on 0 p some u ∙ h)
              ∙ rw (here q v, here p u)
              (owner-on z stopped (get_or takes i 0) (c i l).0 (get_or os q 0) (get_or ws q 0) (get_or [] q 0) (local i l) (get_or os p 0))

pub groupable-keys : {z : Sizes} {os ws stopped : List ℕ} {at : Extent} {takes : List ℕ} {k : ℕ} → Groupable z os ws stopped at takes k
    → GroupKeys os ws stopped takes at.len k (column_keys z stopped os ws at.len)
groupable-keys {z} g = columns-grouped z _ _ _ _ _ _ (omega (arith, g.four, g.most)) g.narrow g.some g.local
