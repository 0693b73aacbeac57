-- Totals changed by what an end frees, part by part of the rows.
use Prim.Native.Nat.{ℕ, ◌+◌, ◌-◌, ◌≤◌, ◌<◌}
use mathlib.Core.Bool.{false, ◌&&◌}
use mathlib.Core.List.{List, [], ◌∷◌, ◌++◌}
use mathlib.Core.Path.{◌≡◌, sym, ap, ◌∙◌}
use native.Mathlib.Nat.{add-zero}
use native.Mathlib.Omega.{arith}
use borrow.Author.Tests.{eqb-true, eqb-false, ne_eqb}
use lib.Dec.{eqb}
use lib.ListN.{length, get_or, set, length-set}
use lib.Seq.{get_or-set_same, get_or-set_other}
use Rattle.lists.specs.Lists.{one_if, count_if}
use Rattle.lists.specs.Choices.{by_bool}
use Rattle.lists.specs.Counting.{count-le, count-append}
use Rattle.lists.specs.Each.{count_none}
use Rattle.lists.specs.Rows.{rows, length-rows, rows_none, rows_append, rows-each, rows_more, rows_whole}
use Rattle.semantics.specs.State.{Entry, owned}
use Rattle.semantics.specs.Move.{takes_part}
use Rattle.semantics.specs.declared.Sizes.{Sizes}
use Rattle.enabled.specs.Keys.{takeable_on}
use Rattle.enabled.specs.Supply.{Supply}
use Rattle.words.specs.Search.{in_chunk, chunk-lacks}
use Rattle.state.specs.Working.{row_of}
use Rattle.state.specs.Lent.{state_from}
use Rattle.state.specs.declared.Extent.{Extent}
use Rattle.supply.specs.Freed.{freed_on, Freed, RoomFor}
use Rattle.supply.proofs.Totals.{one_on, none-on}

module _ (b k : ℕ) where
  freed-none : (es : List Entry) {totals : List ℕ} → ((q : ℕ) → count_if (freed_on b k q) es ≡ 0) → length totals ≡ 512 → Freed b k es totals totals
  freed-none es none e = record { size = e; each = λ q. omega (arith, none q) }

  freed-append : {xs ys : List Entry} {first middle last : List ℕ} → Freed b k xs first middle → Freed b k ys middle last → Freed b k (xs ++ ys) first last
  freed-append {xs} {ys} f g = record {
    size = g.size;
    each = λ q. omega (arith, f.each q, g.each q, count-append (freed_on b k q) xs ys);
  }

  freed-one : (totals : List ℕ) → length totals ≡ 512 → (e : Entry) → e.port < 256 → {n : ℕ}
      → n ≡ get_or totals e.port 0 + one_if (owned b e && eqb e.kind k) → Freed b k (e ∷ []) totals (set totals e.port n)
  freed-one totals size e low {n} h = record {
    size = length-set totals e.port n ∙ size;
    each = λ q. by_bool (eqb e.port q)
        (λ p. let p = eqb-true e.port q p in
        let here : get_or (set totals e.port n) q 0 ≡ n = ap (λ (j : ℕ). get_or (set totals e.port n) j 0) (sym p)
        ∙ get_or-set_same totals e.port n 0 (omega arith) in
        let was = ap (λ (j : ℕ). get_or totals j 0) p in
        omega (arith, one_on (owned b e && eqb e.kind k) e.port q p))
        (λ p. let p = eqb-false e.port q p in
        let here = get_or-set_other totals e.port q n 0 (λ j. p (sym j)) in
        omega (arith, none-on (owned b e && eqb e.kind k) e.port q p));
  }

  -- a chunk without b
  pub freed-chunk : (os ws gs : List ℕ) (from end : ℕ) {totals : List ℕ} → end ≤ from + 32 → length totals ≡ 512 → in_chunk os from b ≡ false
      → Freed b k (rows (row_of os ws gs) from (end - from)) totals totals
  freed-chunk os ws gs from end few size h =
      let row = row_of os ws gs in
      freed-none (rows row from (end - from)) (λ q. count_none (freed_on b k q) (rows row from (end - from))
      (rows-each (λ e. freed_on b k q e ≡ false) row from (end - from) (λ j l u.
      rw (ne_eqb (get_or os j 0) b (chunk-lacks os from b h j l (omega arith)))))) size

  module _ (row : ℕ → Entry) where
    -- the rows from one place on, before i of n, are counted
    pub record Freeing (n from i : ℕ) (before after : List ℕ) : Type 0 where
      pub low : from ≤ i
      pub within : i ≤ n
      pub so_far : Freed b k (rows row from (i - from)) before after
      pub room : RoomFor after (n - i)

    pub freeing-start : (n from : ℕ) {totals : List ℕ} → from ≤ n → RoomFor totals (n - from) → Freeing n from from totals totals
    freeing-start n from l room =
        let z : from - from ≡ 0 = omega arith in
        record {
          low = omega arith;
          within = l;
          so_far = freed-none (rows row from (from - from)) (λ q. ap (count_if (freed_on b k q)) (ap (rows row from) z ∙ rows_none row from)) room.size;
          room = room;
        }

    module _ {n from i : ℕ} {before after : List ℕ} (f : Freeing n from i before after) where
      -- the rows before j too
      pub freeing-more : {j : ℕ} {left : List ℕ} → i ≤ j → j ≤ n → Freed b k (rows row i (j - i)) after left → Freeing n from j before left
      freeing-more {j} {left} l m more =
          let parts : j - from ≡ (i - from) + (j - i) = omega (arith, f.low) in
          let behind : from + (i - from) ≡ i = omega (arith, f.low) in
          let whole : rows row from (j - from) ≡ rows row from (i - from) ++ rows row i (j - i) = ap (rows row from) parts
          ∙ rows_append row from (i - from) (j - i) ∙ ap (λ (h : ℕ). rows row from (i - from) ++ rows row h (j - i)) behind in
          record {
            low = omega (arith, f.low);
            within = m;
            so_far = rw whole (freed-append f.so_far more);
            room = record {
              size = more.size;
              low = λ q h.
                  omega (arith, f.room.low q h, more.each q, count-le (freed_on b k q) (rows row i (j - i)), length-rows row i (j - i));
            };
          }

      pub freeing-room : (j : ℕ) → j ≤ n → RoomFor after (j - i)
      freeing-room j l = record { size = f.room.size; low = λ q h. omega (arith, f.room.low q h) }

      pub freeing-done : n ≤ i → Freed b k (rows row from (n - from)) before after
      freeing-done l =
          let e : i ≡ n = omega (arith, f.within) in
          rw e at f.so_far

      -- one row
      module _ (l : i < n) {port : ℕ} (at : port ≡ (row i).port) (small : port < 256) where
        pub freeing-fits : get_or after port 0 + 1 ≤ 65535
        freeing-fits = omega (arith, f.room.low port small)

        pub freeing-next : {kind one : ℕ} → kind ≡ (row i).kind → one ≡ one_if (owned b (row i) && eqb kind k)
            → Freeing n from (i + 1) before (set after port (get_or after port 0 + one))
        freeing-next {kind} {one} same h =
            let turn : i + 1 - i ≡ 1 = omega arith in
            let single : rows row i (i + 1 - i) ≡ row i ∷ [] = ap (rows row i) turn ∙ rows_more row i 0 ∙ rw (rows_none row i, add-zero i) in
            let one-is = h ∙ ap (λ (m : ℕ). one_if (owned b (row i) && eqb m k)) same in
            freeing-more (omega arith) (omega arith)
            (rw (single, at) (freed-one after f.room.size (row i) (omega arith) (ap (λ (m : ℕ). get_or after (row i).port 0 + m) one-is)))

  -- all rows of a state in lent columns
  module _ (os ws gs : List ℕ) (at : Extent) where
    pub state-start : {z : Sizes} {totals : List ℕ} → Supply z (state_from os ws gs at) totals → at.len ≤ 1024
        → Freeing (row_of os ws gs) at.len 0 0 totals totals
    state-start {z} {totals} supply few =
        let s = state_from os ws gs at in
        freeing-start (row_of os ws gs) at.len 0 (omega arith) (record {
          size = supply.size;
          low = λ q l.
              omega (arith, supply.each q l, count-le (takeable_on z (takes_part s) q) s.entries, length-rows (row_of os ws gs) 0 at.len);
        })

    pub state-done : {from : ℕ} {before after : List ℕ} → Freeing (row_of os ws gs) at.len 0 from before after → at.len ≤ from
        → Freed b k (state_from os ws gs at).entries before after
    state-done f l = rw (rows_whole (row_of os ws gs) at.len) at (freeing-done (row_of os ws gs) f l)
