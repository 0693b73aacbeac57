-- What is read back of the array of the picks' origins.
use Prim.Native.Nat.{ℕ, ◌+◌, ◌*◌, ◌≤◌}
use mathlib.Core.List.{List, [], ◌∷◌, ◌++◌}
use mathlib.Core.Path.{◌≡◌, refl, sym, ap, ◌∙◌}
use native.Mathlib.Omega.{arith}
use lib.ListN.{length, get_or, take, drop, length-map}
use lib.Seq.{length-take-le, take-take, take_at, drop_at, take_all, take-add, take-paste}
use Rattle.lists.specs.Fronts.{take-map}
use Rattle.lists.specs.Over.{Pasted}
use Rattle.recording.specs.Recordings.{words_at}

module _ (gs picks : List ℕ) (i : ℕ) {before after : List ℕ} (h : Pasted before (4 * i) (words_at gs picks) 4 after) (room : 4 * i + 4 ≤ length before)
    (four : length picks ≡ 4) where
  count : length (words_at gs picks) ≡ 4
  count = length-map picks _ ∙ four

  front : length (take (4 * i) before) ≡ 4 * i
  front = length-take-le (4 * i) before (omega arith)

  both : take (4 * i + 4) after ≡ take (4 * i) before ++ words_at gs picks
  both =
      ap (take (4 * i + 4)) h.value
      ∙ take-paste before (4 * i) (words_at gs picks) 4 (omega arith) (omega (arith, count))
      ∙ ap (λ (xs : List ℕ). take (4 * i) before ++ xs) (take_all 4 (words_at gs picks) (omega (arith, count)))

  pub picks-before : take (4 * i) after ≡ take (4 * i) before
  picks-before = sym (take-take (4 * i) (4 * i + 4) after (omega arith)) ∙ ap (take (4 * i)) both
      ∙ take_at (take (4 * i) before) (words_at gs picks) (4 * i) front

  pub picks-here : (k : ℕ) → k ≤ 4 → take k (drop (4 * i) after) ≡ words_at gs (take k picks)
  picks-here k few =
      let whole : take (4 * i) before ++ take 4 (drop (4 * i) after) ≡ take (4 * i) before ++ words_at gs picks = rw picks-before at
      (sym (take-add (4 * i) 4 after) ∙ both) in
      let here : take 4 (drop (4 * i) after) ≡ words_at gs picks =
      sym (drop_at (take (4 * i) before) (take 4 (drop (4 * i) after)) (4 * i) front) ∙ ap (drop (4 * i)) whole
      ∙ drop_at (take (4 * i) before) (words_at gs picks) (4 * i) front in
      sym (take-take k 4 (drop (4 * i) after) few) ∙ ap (take k) here ∙ take-map _ k picks

-- as the code puts them together
pub four-words : (gs picks : List ℕ) → length picks ≡ 4
    → get_or gs (get_or picks 0 0) 0 ∷ get_or gs (get_or picks 1 0) 0 ∷ get_or gs (get_or picks 2 0) 0 ∷ get_or gs (get_or picks 3 0) 0 ∷ [] ≡ words_at gs picks
four-words gs [] h = absurd (omega arith)
four-words gs (a ∷ []) h = absurd (omega arith)
four-words gs (a ∷ b ∷ []) h = absurd (omega arith)
four-words gs (a ∷ b ∷ c ∷ []) h = absurd (omega arith)
four-words gs (a ∷ b ∷ c ∷ d ∷ []) h = refl
four-words gs (a ∷ b ∷ c ∷ d ∷ e ∷ more) h = absurd (omega arith)
