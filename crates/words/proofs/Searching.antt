-- The search, chunk by chunk: none before a place has the word.
use Prim.Native.Nat.{ℕ, ◌+◌, ◌%◌, ◌≤◌, ◌<◌}
use mathlib.Core.Bool.{false}
use mathlib.Core.List.{List}
use mathlib.Core.Path.{◌≡◌}
use native.Mathlib.Omega.{arith}
use borrow.Author.Tests.{ltb-true, ltb-false}
use lib.Dec.{ltb}
use lib.ListN.{length, get_or}
use Rattle.lists.specs.Choices.{by_bool}
use Rattle.words.specs.Search.{in_chunk, chunk-lacks}

-- no word before a place, in whole chunks, is x
pub record Lacking (words : List ℕ) (x at : ℕ) : Type 0 where
  pub size : length words ≡ 1024
  pub whole : at % 32 ≡ 0
  pub within : at ≤ 1024
  pub none : (j : ℕ) → j < at → get_or words j 0 ≡ x → ⊥

module _ {words : List ℕ} {x at : ℕ} (h : Lacking words x at) where
  pub lacking-room : {n : ℕ} → n ≤ 1024 → at < n → at + 32 ≤ 1024
  lacking-room few more = omega (arith, h.whole)

  pub lacking-next : {n : ℕ} → n ≤ 1024 → at < n → in_chunk words at x ≡ false → Lacking words x (at + 32)
  lacking-next few more lacks = record {
    size = h.size;
    whole = omega (arith, h.whole);
    within = lacking-room few more;
    none = λ j l e. by_bool (ltb j at) (λ b. h.none j (ltb-true j at b) e) (λ b. chunk-lacks words at x lacks j (ltb-false j at b) l e);
  }
