-- Words gathered one after another: each is made of its four bytes, and stands in the target behind those before it.
use Prim.Native.Nat.{ℕ, zero, suc, ◌+◌, ◌*◌, ◌/◌, ◌<◌, min}
use mathlib.Core.List.{List, [], ◌∷◌}
use mathlib.Core.Path.{◌≡◌, refl, sym, ◌∙◌}
use native.Mathlib.Numerals.{add-one, towards_suc}
use native.Mathlib.Omega.{arith}
use mir.Syntax.{w8}
use mir.Val.{Fits}
use lib.ListN.{length, get_or, take, set, length-take}
use lib.Seq.{length-take-le}
use Rattle.lists.specs.Lists.{over}
use Rattle.lists.specs.Beginning.{over-next, take-taken}
use Rattle.semantics.specs.Program.{word_of, words_of}
use Rattle.intake.specs.Gather.{Gathered, fitting, length-words}

-- the word of the four bytes from a place on
abbrev word_from : List ℕ → ℕ → ℕ
word_from bytes at = word_of (get_or bytes at 0) (get_or bytes (at + 1) 0) (get_or bytes (at + 2) 0) (get_or bytes (at + 3) 0)

-- the four bytes from a place on, of which no sum overflows
pub record FourBytes (bytes : List ℕ) (at : ℕ) : Type 0 where
  pub first : Fits w8 (get_or bytes at 0)
  pub second : Fits w8 (get_or bytes (at + 1) 0)
  pub third : Fits w8 (get_or bytes (at + 2) 0)
  pub fourth : Fits w8 (get_or bytes (at + 3) 0)

pub four_bytes : (bytes : List ℕ) (at : ℕ) → ((i : ℕ) → Fits w8 (get_or bytes i 0)) → FourBytes bytes at
four_bytes bytes at known = record { first = known at; second = known (at + 1); third = known (at + 2); fourth = known (at + 3) }

word_at : (bytes : List ℕ) (n : ℕ) → n < length (words_of bytes) → get_or (words_of bytes) n 0 ≡ word_from bytes (4 * n)
word_at [] n h = absurd (omega arith)
word_at (a ∷ []) n h = absurd (omega arith)
word_at (a ∷ b ∷ []) n h = absurd (omega arith)
word_at (a ∷ b ∷ c ∷ []) n h = absurd (omega arith)
word_at (a ∷ b ∷ c ∷ d ∷ rest) zero h = refl
word_at (a ∷ b ∷ c ∷ d ∷ rest) (suc n) h =
    let e : 4 * suc n ≡ suc (suc (suc (suc (4 * n)))) = omega arith in
    simp (e, towards_suc) (simp towards_suc at (word_at rest n (omega arith)))

module _ (bytes target : List ℕ) where
  -- the target after i words
  abbrev pub gathered_to : ℕ → List ℕ
  gathered_to i = over (take i (words_of bytes)) target

  pub gather-next : (i : ℕ) → i < length bytes / 4 → i < length target → set (gathered_to i) i (word_from bytes (4 * i)) ≡ gathered_to (i + 1)
  gather-next i h k =
      let l : i < length (words_of bytes) = omega (arith, length-words bytes) in
      rw (sym (word_at bytes i l), add-one i) (over-next (words_of bytes) target i 0 l k)

  pub gather-end :
      {after : List ℕ} {n : ℕ} → n ≡ min (length target) (length bytes / 4)
      → after ≡ gathered_to n → length after ≡ length target → Gathered bytes target after n
  gather-end {after} {n} least e same =
      let count : n ≡ length (fitting bytes target) = rw (length-take, length-words) least in
      record {
        count = count;
        contents = e ∙ rw (count, take-taken);
        within = omega arith;
        sliced = sym (length-take-le n after (omega arith));
      }
