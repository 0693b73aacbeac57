-- Keys of entries: whether some rule may consume an entry, on which port, and on a local port in which transaction.
use Rattle.std.specs.Prelude.{ℕ, ◌+◌, ◌/◌, ◌%◌, ◌<◌, Bool, true, false, ◌&&◌, cond, List, ◌≡◌, refl, ltb, eqb, length, get_or}
use Rattle.std.proofs.Common.{sym, ap, ◌∙◌, arith, eqb-true, eq-eqb, ne_eqb}
use Rattle.lists.specs.Lists.{given}
use Rattle.lists.specs.Tests.{and_both, and-right-false, same_test}
use Rattle.lists.specs.Choices.{by_bool, and_intro, and_left, and_right}
use Rattle.lists.specs.Choosing.{group_base}
use Rattle.semantics.specs.Table.{class_of}
use Rattle.semantics.specs.State.{Entry, is_message, owned}
use Rattle.semantics.specs.Move.{entry_at}
use Rattle.semantics.specs.declared.Sizes.{Sizes}

-- a message that some rule may consume: on a global port only if it is global, and only if its owner takes part at all
abbrev pub takeable : Sizes → (ℕ → Bool) → Entry → Bool
takeable z part e = is_message e && given (ltb e.port z.globals) (owned 0 e) && part e.owner

-- one on a local port
abbrev pub is_local : Sizes → (ℕ → Bool) → Entry → Bool
is_local z part e = takeable z part e && eqb (class_of z e.port) 1

-- the port of such a message; no port is 256
abbrev pub port_key : Sizes → (ℕ → Bool) → Entry → ℕ
port_key z part e = cond (takeable z part e) e.port 256

-- A key for each entry: group * 512 + port on a local port, the groups being those of one owner; elsewhere the port alone.
pub record Keyed (z : Sizes) (part : ℕ → Bool) (es : List Entry) (ks : List ℕ) : Type 0 where
  pub size : length ks ≡ length es
  pub plain : (p : ℕ) → p < length es → is_local z part (entry_at es p) ≡ false → get_or ks p 0 ≡ port_key z part (entry_at es p)
  pub local : (p : ℕ) → p < length es → is_local z part (entry_at es p) ≡ true → get_or ks p 0 % 512 ≡ (entry_at es p).port
  pub together : (p q : ℕ) → p < length es → q < length es → is_local z part (entry_at es p) ≡ true → is_local z part (entry_at es q) ≡ true
      → (entry_at es p).owner ≡ (entry_at es q).owner → get_or ks p 0 / 512 ≡ get_or ks q 0 / 512
  pub apart : (p q : ℕ) → p < length es → q < length es → is_local z part (entry_at es p) ≡ true → is_local z part (entry_at es q) ≡ true
      → get_or ks p 0 / 512 ≡ get_or ks q 0 / 512 → (entry_at es p).owner ≡ (entry_at es q).owner

-- ---- what a key says

-- a message that rules may consume from port t
abbrev pub takeable_on : Sizes → (ℕ → Bool) → ℕ → Entry → Bool
takeable_on z part t e = takeable z part e && eqb e.port t

module _ {z : Sizes} {part : ℕ → Bool} {es : List Entry} {ks : List ℕ} (keyed : Keyed z part es ks) where
  abbrev at : ℕ → Entry
  at p = entry_at es p

  abbrev key : ℕ → ℕ
  key p = get_or ks p 0

  -- on a port that is not local the key is the port
  pub plain-key : (t : ℕ) → t < 256 → (class_of z t ≡ 1 → ⊥) → (p : ℕ) → p < length es → eqb (key p) t ≡ takeable_on z part t (at p)
  plain-key t l n p h = same_test (eqb (key p) t) (takeable_on z part t (at p)) there back
    where
      port : (b : Bool) → cond b (at p).port 256 ≡ t → b && eqb (at p).port t ≡ true
      port true e = eq-eqb (at p).port t e
      port false e = absurd (omega arith)

      there : eqb (key p) t ≡ true → takeable_on z part t (at p) ≡ true
      there q =
          let e = eqb-true (key p) t q in
          by_bool (is_local z part (at p))
          (λ i. let f = keyed.local p h i in let f : (at p).port ≡ t = omega arith in
          absurd (n (ap (class_of z) (sym f) ∙ eqb-true (class_of z (at p).port) 1 (and_right (takeable z part (at p)) (eqb (class_of z (at p).port) 1) i))))
          (λ i. port (takeable z part (at p)) (sym (keyed.plain p h i) ∙ e))

      back : takeable_on z part t (at p) ≡ true → eqb (key p) t ≡ true
      back q =
          let (a, b) = and_both (takeable z part (at p)) (eqb (at p).port t) q in
          let e = eqb-true (at p).port t b in
          let d = ne_eqb (class_of z (at p).port) 1 (λ c. n (ap (class_of z) (sym e) ∙ c)) in
          let i : is_local z part (at p) ≡ false = and-right-false (takeable z part (at p)) d in
          let f : key p ≡ (at p).port = rw a at (keyed.plain p h i) in
          eq-eqb (key p) t (f ∙ e)

  module _ (small : (p : ℕ) → p < length es → takeable z part (at p) ≡ true → (at p).port < 256) where
    on-local : (t : ℕ) → class_of z t ≡ 1 → (p : ℕ) → takeable_on z part t (at p) ≡ true → is_local z part (at p) ≡ true
    on-local t c p q =
        let (a, b) = and_both (takeable z part (at p)) (eqb (at p).port t) q in
        and_intro a (eq-eqb (class_of z (at p).port) 1 (ap (class_of z) (eqb-true (at p).port t b) ∙ c))

    -- on a local port it is the port within the group
    pub local-key : (t : ℕ) → t < 256 → class_of z t ≡ 1 → (p : ℕ) → p < length es → eqb (key p % 512) t ≡ takeable_on z part t (at p)
    local-key t l c p h = same_test (eqb (key p % 512) t) (takeable_on z part t (at p)) there back
      where
        port : (b : Bool) → takeable z part (at p) ≡ b → key p ≡ cond b (at p).port 256 → key p % 512 ≡ t → b && eqb (at p).port t ≡ true
        port true a f e = let g = small p h a in eq-eqb (at p).port t (omega arith)
        port false a f e = absurd (omega arith)

        there : eqb (key p % 512) t ≡ true → takeable_on z part t (at p) ≡ true
        there q =
            let e = eqb-true (key p % 512) t q in
            by_bool (is_local z part (at p))
            (λ i. and_intro (and_left (takeable z part (at p)) (eqb (class_of z (at p).port) 1) i) (eq-eqb (at p).port t (sym (keyed.local p h i) ∙ e)))
            (λ i. port (takeable z part (at p)) refl (keyed.plain p h i) e)

        back : takeable_on z part t (at p) ≡ true → eqb (key p % 512) t ≡ true
        back q = eq-eqb (key p % 512) t
            (keyed.local p h (on-local t c p q) ∙ eqb-true (at p).port t (and_right (takeable z part (at p)) (eqb (at p).port t) q))

    -- and the groups of two keys are the same where their owners are
    pub group-key : (t u : ℕ) → t < 256 → u < 256 → class_of z t ≡ 1 → class_of z u ≡ 1 → (p q : ℕ) → p < length es → q < length es
        → takeable_on z part t (at p) ≡ true
        → eqb (key q) (u + group_base ks t p) ≡ takeable_on z part u (at q) && eqb (at q).owner (at p).owner
    group-key t u l m c d p q h k first =
        same_test (eqb (key q) (u + group_base ks t p)) (takeable_on z part u (at q) && eqb (at q).owner (at p).owner) there back
      where
        base : key p % 512 ≡ t
        base = eqb-true (key p % 512) t (local-key t l c p h ∙ first)

        there : eqb (key q) (u + group_base ks t p) ≡ true → takeable_on z part u (at q) && eqb (at q).owner (at p).owner ≡ true
        there e =
            let e = eqb-true (key q) (u + group_base ks t p) e in
            let f = base in
            let a : takeable_on z part u (at q) ≡ true = sym (local-key u m d q k) ∙ eq-eqb (key q % 512) u (omega arith) in
            and_intro a (eq-eqb (at q).owner (at p).owner (keyed.apart q p k h (on-local u d q a) (on-local t c p first) (omega arith)))

        back : takeable_on z part u (at q) && eqb (at q).owner (at p).owner ≡ true → eqb (key q) (u + group_base ks t p) ≡ true
        back e =
            let (a, b) = and_both (takeable_on z part u (at q)) (eqb (at q).owner (at p).owner) e in
            let f = base in
            let g = eqb-true (key q % 512) u (local-key u m d q k ∙ a) in
            let i = keyed.together q p k h (on-local u d q a) (on-local t c p first) (eqb-true (at q).owner (at p).owner b) in
            eq-eqb (key q) (u + group_base ks t p) (omega arith)
