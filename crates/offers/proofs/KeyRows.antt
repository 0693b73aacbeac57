-- A column of keys, filled from the front.
use Prim.Native.Nat.{ℕ, ◌+◌, ◌*◌, ◌≤◌, ◌<◌}
use mathlib.Core.Bool.{Bool}
use mathlib.Core.List.{List}
use mathlib.Core.Path.{◌≡◌, sym, ◌∙◌}
use native.Mathlib.Omega.{arith}
use borrow.Author.Tests.{eqb-true, eqb-false}
use lib.Dec.{eqb}
use lib.ListN.{length, get_or, take, set}
use Rattle.lists.specs.Choices.{by_bool}
use Rattle.lists.specs.Filled.{filled_none, filled_more}
use Rattle.lists.specs.Rows.{rows_ext, rows_take}
use Rattle.semantics.specs.declared.Sizes.{Sizes}
use Rattle.offers.specs.Offers.{row_key, keys_of, OwnerKeys}

module _ {z : Sizes} {part : ℕ → Bool} {os ws : List ℕ} where
  pub keys_none : {keys : List ℕ} → length keys ≡ 1024 → OwnerKeys z part os ws 0 keys
  keys_none e = record { filled = filled_none 0 _ e; small = λ p l. absurd (omega arith) }

  module _ {p : ℕ} {keys : List ℕ} (h : OwnerKeys z part os ws p keys) where
    pub keys-more : p < 1024 → {key : ℕ} → key ≡ row_key z part os ws p → key < 65536 * 512 → OwnerKeys z part os ws (p + 1) (set keys p key)
    keys-more l {key} e k = record { filled = rw e (filled_more 0 h.filled l); small = small }
      where
        small : (q : ℕ) → q < p + 1 → row_key z part os ws q < 65536 * 512
        small q b = by_bool (eqb q p) (λ t. rw (eqb-true q p t, ← e) k) (λ t. let n = eqb-false q p t in h.small q (omega arith))

    pub row-keys : p ≤ 1024 → take p keys ≡ keys_of z part os ws p
    row-keys few =
        let inside : p ≤ length keys = omega (arith, h.filled.size) in
        sym (rows_take 0 keys p inside) ∙ rows_ext (λ k. get_or keys k 0) (row_key z part os ws) 0 p (λ k a b. h.filled.each k (omega arith))

    pub keys-small : (i : ℕ) → i < p → get_or keys i 0 < 65536 * 512
    keys-small i l = rw (h.filled.each i l) (h.small i l)
