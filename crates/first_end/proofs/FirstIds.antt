-- The lowest id of which a test holds, found by another test that holds of more ids.
use Prim.Native.Nat.{ℕ, suc, ◌+◌, ◌-◌, min, ◌≤◌, ◌<◌}
use mathlib.Core.Bool.{Bool, true, false, ◌&&◌, not, cond}
use mathlib.Core.List.{List, []}
use mathlib.Core.Logic.{inl}
use mathlib.Core.Path.{◌≡◌, refl, sym, ap, ◌∙◌, fun_ext}
use native.Mathlib.Omega.{arith}
use lib.Dec.{eqb, ltb}
use Rattle.lists.specs.Lists.{keep, keep_if, up_from}
use Rattle.lists.specs.Choices.{by_bool, cond-true, cond-false, and_intro, and_right}
use Rattle.lists.specs.Tests.{same_test, and-after, true-and}
use Rattle.lists.specs.Members.{Among, among-keep}
use Rattle.lists.specs.Lowest.{lowest_key, lowest-first, lowest-none}
use Rattle.lists.specs.TupleMembers.{among-up}
use Rattle.lists.specs.Each.{keep-both}
use Rattle.semantics.specs.Words.{item_kind, port_of}
use Rattle.first_end.specs.OpenEnds.{FirstId}

-- the lowest key of such elements, where p holds of their keys and of no other id from start on
pub lowest-id : {A : Type 0} (q : A → Bool) (key : A → ℕ) (p : ℕ → Bool) (start next : ℕ) (xs : List A)
    → ((v : ℕ) → start ≤ v → p v ≡ true → (x : A) × Among x xs × (q x ≡ true) × (key x ≡ v))
    → ((x : A) → Among x xs → q x ≡ true → (start ≤ key x) × (key x < next) × (p (key x) ≡ true))
    → next ≤ 65536 → {v : ℕ} → v ≡ lowest_key q key 65536 65536 xs → FirstId p start next v
lowest-id q key p start next xs there back last is = rw is (record {
  some = lowest-first q key 65536 p start next xs there back;
  none = lowest-none q key 65536 p start next xs there back last;
})

-- the first is one of those
pub first_holds : {p : ℕ → Bool} {start next v : ℕ} → FirstId p start next v → v < 65536 → (start ≤ v) × (p v ≡ true)
first_holds {p} {start} {next} {v} first l =
    let ids = up_from start (next - start) in
    let m : Among v (keep p ids) = rw (first.some l) (inl refl) in
    let (u, h) = among-keep p ids v m in
    ((among-up start (next - start) v u).0, h)

-- what p holds of is among what q holds of
module _ {p q : ℕ → Bool} (fewer : (v : ℕ) → p v ≡ true → q v ≡ true) where
  keep-within : (vs : List ℕ) → keep p (keep q vs) ≡ keep p vs
  keep-within vs =
      let same : ◌≡◌ {A = ℕ → Bool} (λ v. q v && p v) p =
      fun_ext (λ v. same_test (q v && p v) (p v) (and_right (q v) (p v)) (λ h. and_intro (fewer v h) h)) in
      keep-both q p vs ∙ ap (λ (f : ℕ → Bool). keep f vs) same

  module _ {start next v : ℕ} (first : FirstId q start next v) where
    pub none-fewer : 65536 ≤ v → keep p (up_from start (next - start)) ≡ []
    none-fewer l = sym (keep-within (up_from start (next - start))) ∙ ap (keep p) (first.none l)

    -- v, if p holds of it, and those behind it
    from_first : v < 65536 → {b : Bool} → p v ≡ b → keep p (up_from start (next - start)) ≡ keep_if b v (keep p (up_from (suc v) (next - suc v)))
    from_first l {b} h =
        let tail = up_from (suc v) (next - suc v) in
        sym (keep-within (up_from start (next - start))) ∙ ap (keep p) (first.some l)
        ∙ ap (λ b. keep_if b v (keep p (keep q tail))) h ∙ ap (keep_if b v) (keep-within tail)

    pub first-fewer : p v ≡ true → FirstId p start next v
    first-fewer h = record { some = λ l. from_first l h; none = none-fewer }

-- ---- one id of q after the other

-- p holds of no id before start, and v is the first of q from there on
pub record ByTurn (p q : ℕ → Bool) (next v : ℕ) : Type 0 where
  pub start : ℕ
  pub passed : keep p (up_from 1 (next - 1)) ≡ keep p (up_from start (next - start))
  pub first : FirstId q start next v

-- behind the first of some that p holds of no other than
pub turn-from : {p o q : ℕ → Bool} → ((v : ℕ) → p v ≡ true → o v ≡ true) → {next v : ℕ} → FirstId o 1 next v → v < 65536 → p v ≡ false → {u : ℕ}
    → FirstId q (suc v) next u → ByTurn p q next u
turn-from fewer {next} {v} before l h first = record { start = suc v; passed = from_first fewer before l h; first = first }

module _ {p q : ℕ → Bool} (fewer : (v : ℕ) → p v ≡ true → q v ≡ true) {next v : ℕ} (t : ByTurn p q next v) where
  pub turn-next : v < 65536 → p v ≡ false → {u : ℕ} → FirstId q (suc v) next u → ByTurn p q next u
  turn-next l h first = record { start = suc v; passed = t.passed ∙ from_first fewer t.first l h; first = first }

  pub turn_end : p v ≡ true → FirstId p 1 next v
  turn_end h =
      let found = first-fewer fewer t.first h in
      record { some = λ l. t.passed ∙ found.some l; none = λ l. t.passed ∙ found.none l }

  pub turn-none : 65536 ≤ v → keep p (up_from 1 (next - 1)) ≡ []
  turn-none l = t.passed ∙ none-fewer fewer t.first l

-- of two numbers that are one lower, the lower one is so too; what is not above counts for the highest
pub lower-by-one : (r low owner above : ℕ) → low < 65536 → r + 1 ≡ cond (ltb above owner) owner 65536
    → min r low + 1 ≡ min (owner + cond (ltb above owner) 0 65536) (low + 1)
lower-by-one r low owner above l e =
    by_bool (ltb above owner)
    (λ t. omega (arith, cond-true {A = ℕ} 0 65536 t, e ∙ cond-true owner 65536 t))
    (λ t. omega (arith, cond-false {A = ℕ} 0 65536 t, e ∙ cond-false owner 65536 t))

-- a message that does not stand before the end of the global ones
pub inside-by-item : (item outside globals : ℕ) → ltb item outside ≡ (eqb (item_kind item) 0 && ltb (port_of item) globals)
    → eqb (item_kind item) 0 && not (ltb item outside) ≡ eqb (item_kind item) 0 && not (ltb (port_of item) globals)
inside-by-item item outside globals is = and-after (eqb (item_kind item) 0) (λ k. ap not (is ∙ true-and (ltb (port_of item) globals) k))
