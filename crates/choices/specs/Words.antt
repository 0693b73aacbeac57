-- The words of a choice.
use Rattle.std.specs.Prelude.{ℕ, ◌≡◌, List, ◌∷◌, length}
use Rattle.std.proofs.Common.{arith}
use Rattle.std.proofs.lemmas.List.Edits.{sets}
use Rattle.std.proofs.Math.Seq.{length-sets}

-- a head, and the picks with the choice laid over them from the ith on
abbrev pub choice_words : ℕ → List ℕ → ℕ → List ℕ → List ℕ
choice_words head picks i c = head ∷ sets picks i c

pub five-words : (head : ℕ) (picks : List ℕ) (i : ℕ) → length picks ≡ 4 → (c : List ℕ) → length (choice_words head picks i c) ≡ 5
five-words head picks i h c = let e = length-sets picks i c in omega arith
