-- A walk through a set that collects its members: those collected and those ahead are those wanted.
use Prim.Native.Nat.{ℕ, ◌+◌, ◌-◌, ◌≤◌, ◌<◌}
use mathlib.Core.Path.{◌≡◌, refl, sym, ap, ◌∙◌}
use mathlib.Core.Bool.{Bool, true, false}
use mathlib.Core.List.{List, [], ◌++◌, append-nil, append_assoc}
use native.Mathlib.Numerals.{add-one}
use native.Mathlib.Omega.{arith}
use lib.ListN.{length, take, set, length-append, length-set}
use lib.Seq.{length-take-le, take-suc-set}
use Rattle.lists.specs.Lists.{keep, up_from, count_if}
use Rattle.lists.specs.Counting.{length-keep}
use Rattle.lists.specs.Parts.{keep_if-append}
use Rattle.lists.specs.UpFrom.{keep-onward}
use Rattle.transactions.specs.Ids.{AddedIf, IdsBelow}

-- ---- a number added

pub not-added : (v n : ℕ) {ids : List ℕ} → length ids ≡ 1024 → n ≤ 1024 → AddedIf false v n ids ids n
not-added v n {ids} size l = record { size = size; fits = l; list = sym (append-nil (take n ids)) }

pub added : (v n : ℕ) (ids : List ℕ) → length ids ≡ 1024 → n < 1024 → AddedIf true v n ids (set ids n v) (n + 1)
added v n ids size l =
    let inside : n < length ids = omega arith in
    record { size = length-set ids n v ∙ size; fits = omega arith; list = rw (add-one n, take-suc-set ids n v inside) }

-- ---- the walk

-- n members are in ids, and the walk is at v
pub record Collecting (p : ℕ → Bool) (next : ℕ) (ids : List ℕ) (n v : ℕ) : Type 0 where
  pub within : v ≤ next
  pub size : length ids ≡ 1024
  pub fits : n ≤ 1024
  pub so_far : take n ids ++ keep p (up_from v (next - v)) ≡ keep p (up_from 1 (next - 1))

pub collecting-start : (p : ℕ → Bool) (next : ℕ) {ids : List ℕ} → 1 ≤ next → length ids ≡ 1024 → Collecting p next ids 0 1
collecting-start p next l size = record { within = l; size = size; fits = omega arith; so_far = refl }

module _ {p : ℕ → Bool} {next : ℕ} {ids : List ℕ} {n v : ℕ} (c : Collecting p next ids n v) where
  -- there is room for a member
  pub collecting-room : v < next → count_if p (up_from 1 (next - 1)) ≤ 1024 → p v ≡ true → n < 1024
  collecting-room l few e =
      let here = keep-onward p v (v + 1) next (omega arith) (omega arith) (λ x a b. absurd (omega arith)) in
      let some : 1 ≤ length (keep p (up_from v (next - v))) = rw (here, e) (omega arith) in
      let inside : n ≤ length ids = omega (arith, c.size, c.fits) in
      omega (
        arith,
        length-keep p (up_from 1 (next - 1)),
        ap length c.so_far,
        length-append (take n ids) (keep p (up_from v (next - v))),
        length-take-le n ids inside,
      )

  pub collecting-next : {ids' : List ℕ} {m r : ℕ} → AddedIf (p v) v n ids ids' m → v < r → r ≤ next → ((x : ℕ) → v < x → x < r → p x ≡ false)
      → Collecting p next ids' m r
  collecting-next {r = r} a l h none = record {
    within = h;
    size = a.size;
    fits = a.fits;
    so_far = rw (a.list, append_assoc, ← keep_if-append (p v) v [] (keep p (up_from r (next - r))), ← keep-onward p v r next l h none) c.so_far;
  }

  pub collecting-done : next ≤ v → IdsBelow next p ids n
  collecting-done l =
      let e : next - v ≡ 0 = omega arith in
      record { size = c.size; fits = c.fits; list = sym (append-nil (take n ids)) ∙ (rw e at c.so_far) }
