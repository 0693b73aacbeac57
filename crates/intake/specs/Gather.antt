-- What gathering words from bytes promises: about the words only.
use Rattle.std.specs.Prelude.{ℕ, ◌/◌, ◌≤◌, List, [], ◌∷◌, ◌≡◌, refl, length, take}
use Rattle.std.proofs.Common.{arith, take_all}
use Rattle.std.proofs.Math.Seq.{take-append_seam}
use Rattle.lists.specs.Lists.{over}
use Rattle.semantics.specs.Program.{words_of}

-- the words that the target has room for
abbrev pub fitting : List ℕ → List ℕ → List ℕ
fitting bytes target = take (length target) (words_of bytes)

-- r words at the beginning of the target, and the rest of it as before; with the last two, code slices them out with no proof
pub record Gathered (bytes before after : List ℕ) (r : ℕ) : Type 0 where
  pub count : r ≡ length (fitting bytes before)
  pub contents : after ≡ over (fitting bytes before) before
  pub within : r ≤ length after
  pub sliced : r ≡ length (take r after)

-- one to three bytes at the end make no word
pub length-words : (bytes : List ℕ) → length (words_of bytes) ≡ length bytes / 4
length-words [] = refl
length-words (a ∷ []) = refl
length-words (a ∷ b ∷ []) = refl
length-words (a ∷ b ∷ c ∷ []) = refl
length-words (a ∷ b ∷ c ∷ d ∷ rest) = rw (length-words rest) (omega arith)

-- with room for all of them, the words gathered are all the words of the bytes
pub gathered-all :
    {bytes before after : List ℕ} {r : ℕ} → Gathered bytes before after r
    → length bytes / 4 ≤ length before → take r after ≡ words_of bytes
gathered-all {bytes} {before} g h =
    let e = take_all (length before) (words_of bytes) (omega (arith, length-words bytes)) in
    rw (g.contents, g.count, take-append_seam (fitting bytes before)) e
