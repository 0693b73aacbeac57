-- The key of an entry, case by case, as the code tells them apart.
use Prim.Native.Nat.{ℕ, ◌+◌, ◌*◌, ◌/◌, ◌≤◌, ◌<◌}
use mathlib.Core.Bool.{Bool, true, false, ◌&&◌}
use mathlib.Core.Path.{◌≡◌, sym, ◌∙◌}
use mathlib.Core.List.{List}
use native.Mathlib.Omega.{arith}
use borrow.Author.Tests.{eqb-true, eqb-false, eq-eqb, ne_eqb, lt-ltb, le-ltb}
use lib.Dec.{eqb, ltb}
use lib.ListN.{get_or, set, length-set}
use lib.Seq.{get_or-set_same, get_or-set_other}
use Rattle.lists.specs.Lists.{given}
use Rattle.lists.specs.Choices.{by_bool, clash, cond-true, cond-false, and_intro}
use Rattle.lists.specs.Tests.{and-right-false, false-and}
use Rattle.semantics.specs.Table.{class_of}
use Rattle.semantics.specs.State.{Entry, is_message, owned}
use Rattle.semantics.specs.declared.Sizes.{Sizes}
use Rattle.enabled.specs.Keys.{takeable, is_local}
use Rattle.eligible.specs.KeyColumn.{KeyAs, KeyColumn}

module _ (z : Sizes) (part : ℕ → Bool) (ids : List ℕ) (m : ℕ) (e : Entry) where
  -- what no rule may take
  nothing : takeable z part e ≡ false → KeyAs z part ids m e 256
  nothing h = record {
    plain = λ l. sym (cond-false _ _ h);
    local = λ l. absurd (clash l (false-and (eqb (class_of z e.port) 1) h));
    below = omega arith;
  }

  plain : takeable z part e ≡ true → eqb (class_of z e.port) 1 ≡ false → e.port < 256 → KeyAs z part ids m e e.port
  plain h c l = record {
    plain = λ _. sym (cond-true _ _ h);
    local = λ i. absurd (clash i (and-right-false (takeable z part e) c));
    below = omega arith;
  }

  pub key-other : (is_message e ≡ false) → KeyAs z part ids m e 256
  key-other h = nothing (false-and (part e.owner) (false-and (given (ltb e.port z.globals) (owned 0 e)) h))

  module _ (message : e.kind ≡ 0) (small : e.port < 256) where
    is : is_message e ≡ true
    is = eq-eqb e.kind 0 message

    -- on a global port: global, or in a transaction
    pub key-global : e.port < z.globals → e.owner ≡ 0 → part 0 ≡ true → KeyAs z part ids m e e.port
    key-global l o p =
        let g = lt-ltb e.port z.globals l in
        plain (and_intro (and_intro is (rw (g, eq-eqb e.owner 0 o))) (rw o p)) (rw g) small

    pub key-inside : e.port < z.globals → (e.owner ≡ 0 → ⊥) → KeyAs z part ids m e 256
    key-inside l o =
        let g = lt-ltb e.port z.globals l in
        nothing (false-and (part e.owner) (and-right-false (is_message e) (rw (g, ne_eqb e.owner 0 o))))

    -- of an owner that takes no part
    pub key-aborting : part e.owner ≡ false → KeyAs z part ids m e 256
    key-aborting h = nothing (and-right-false (is_message e && given (ltb e.port z.globals) (owned 0 e)) h)

    module _ (high : z.globals ≤ e.port) (takes : part e.owner ≡ true) where
      free : takeable z part e ≡ true
      free = and_intro (and_intro is (rw (le-ltb e.port z.globals high))) takes

      -- on a local port
      pub is-local : e.port < z.globals + z.locals → is_local z part e ≡ true
      is-local l = and_intro free (rw (le-ltb e.port z.globals high, lt-ltb e.port (z.globals + z.locals) l))

      pub key-local : e.port < z.globals + z.locals → m ≤ 1024 → {key : ℕ} → ((g : ℕ) × (g < m) × (get_or ids g 0 ≡ e.owner) × (key ≡ g * 512 + e.port))
          → KeyAs z part ids m e key
      key-local l few {key} (g, k, o, q) =
          let i = is-local l in
          let d : key / 512 ≡ g = omega arith in
          record {
            plain = λ n. absurd (clash i n);
            local = λ _. (omega arith, rw d k, rw d o);
            below = omega arith;
          }

      -- on a merge port
      pub key-merge : z.globals + z.locals ≤ e.port → KeyAs z part ids m e e.port
      key-merge l = plain free (rw (le-ltb e.port z.globals high, le-ltb e.port (z.globals + z.locals) l)) small

-- ---- the column

pub column-more : {z : Sizes} {part : ℕ → Bool} {ids : List ℕ} {m : ℕ} {row : ℕ → Entry} {p : ℕ} {keys : List ℕ} → KeyColumn z part ids m row p keys → p < 1024
    → {key : ℕ} → KeyAs z part ids m (row p) key → KeyColumn z part ids m row (p + 1) (set keys p key)
column-more {z} {part} {ids} {m} {row} {p} {keys} h l {key} k = record { size = length-set keys p key ∙ h.size; each = each }
  where
    each : (q : ℕ) → q < p + 1 → KeyAs z part ids m (row q) (get_or (set keys p key) q 0)
    each q b = by_bool (eqb q p)
        (λ e. let f = eqb-true q p e in rw (f, get_or-set_same keys p key 0 (omega (arith, h.size))) k)
        (λ e. let n = eqb-false q p e in rw (get_or-set_other keys p q key 0 n) (h.each q (omega arith)))
